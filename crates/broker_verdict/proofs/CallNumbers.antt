-- What holds of each call that has a request of its own, and of all others, holds of every number.
-- By the rows of the table.
use Rattle.std.proofs.Common.{false, refl, List, [], None, ℕ, pos, ◌≡◌}
use Rattle.std.specs.Prelude.{◌==◌}
use Rattle.call_table.proofs.AtRow.{at_row, none_is}
use Rattle.call_table.specs.Table.{row_in, table}
use Rattle.hist_model.specs.Copies.{plan}
use Rattle.hist_model.specs.Requests.{base_dirfd, request}
use Rattle.hist_model.specs.declared.request.Request.TheVariants.{Other}
use Rattle.sys_abi.specs.Calls.{nr_close, nr_getpid, nr_mknod, nr_mknodat, nr_mount, nr_openat, nr_setxattr, nr_sysinfo}

-- a call without a request of its own: it has no texts, and no path
pub record IsOther (nr : ℕ) : Type 0 where
  pub request_is : (args : List ℕ) (texts : List (List ℕ)) → request (pos nr) args texts ≡ Other (pos nr)
  pub plan_is : (args : List ℕ) → plan (pos nr) args ≡ []
  pub base_is : (args : List ℕ) → base_dirfd (pos nr) args ≡ None
  pub not_openat : (nr == nr_openat) ≡ false

close-is : IsOther nr_close
unfolding request base_dirfd
close-is = record { request_is = λ args texts. refl; plan_is = λ args. refl; base_is = λ args. refl; not_openat = refl }

getpid-is : IsOther nr_getpid
unfolding request base_dirfd
getpid-is = record { request_is = λ args texts. refl; plan_is = λ args. refl; base_is = λ args. refl; not_openat = refl }

without-row : (nr : ℕ) → row_in table nr ≡ None → IsOther nr
unfolding request base_dirfd
without-row nr h =
    let z = none_is table nr h in
    record {
      request_is = λ args texts. rw (h, z.1.1.0, z.1.1.1.0, z.1.1.1.1.0, z.1.1.1.1.1.0, z.1.1.1.1.1.1.0, z.1.1.1.1.1.1.1.0) refl;
      plan_is = λ args. rw h refl;
      base_is = λ args. rw h refl;
      not_openat = z.1.1.1.1.1.1.0;
    }

pub by_number : (Q : ℕ → Type 0) → Q nr_sysinfo → Q nr_mknod → Q nr_mount → Q nr_setxattr → Q nr_openat → Q nr_mknodat → ((nr : ℕ) → IsOther nr → Q nr) → (nr : ℕ) → Q nr
by_number Q sysinfo mknod mount setxattr openat mknodat other nr =
    at_row Q table nr (other nr_close close-is, (other nr_getpid getpid-is, (sysinfo, (mknod, (mount, (setxattr, (openat, (mknodat, tt))))))))
    (λ h. other nr (without-row nr h))
