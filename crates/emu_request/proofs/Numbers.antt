-- The request of a call, by its number.
-- By the definition of `request` at each number, by cases on the sign of any other number, and by `get_or-drop`.
use Rattle.std.proofs.Common.{◌≡◌, ℕ, List, [], drop, get_or, get_or-drop, Some, None, false, refl, ℤ, pos, negsuc, SFits, to_z, of_z, w32}
use Rattle.std.proofs.lemmas.Int.{to_z-of_z}
use Rattle.std.proofs.lemmas.Bool.{ne_eqb}
use Rattle.std.specs.Prelude.{◌==◌, Option}
use Rattle.call_table.specs.Table.{Row, row_of}
use Rattle.hist_model.specs.Requests.{Called, called_by_row, called_with, request, request_of_call, low_16, low_32, signed_32}
use Rattle.hist_model.specs.declared.request.Request.TheVariants.{Mknod, Mount, SetXattr, OpenAt, Sysinfo, Other}
use Rattle.sys_abi.specs.Calls.{nr_sysinfo, nr_mknod, nr_mount, nr_setxattr, nr_openat, nr_mknodat}

module _ (args : List ℕ) (texts : List (List ℕ)) where
  pub of_sysinfo : (nr : ℤ) → nr ≡ pos nr_sysinfo → request nr args texts ≡ Sysinfo (get_or args 0 0)
  unfolding request
  of_sysinfo nr e = rw e

  pub of_mknod : (nr : ℤ) → nr ≡ pos nr_mknod → request nr args texts ≡ Mknod None (get_or texts 0 []) (low_16 (get_or args 1 0)) (get_or args 2 0)
  unfolding request
  of_mknod nr e = rw e

  pub of_mount : (nr : ℤ) → nr ≡ pos nr_mount → request nr args texts ≡ Mount (get_or texts 0 []) (get_or texts 1 []) (get_or texts 2 []) (get_or texts 3 []) [] (get_or args 3 0) false
  unfolding request
  of_mount nr e = rw e

  pub of_setxattr : (nr : ℤ) → nr ≡ pos nr_setxattr → request nr args texts ≡ SetXattr (get_or texts 0 []) (get_or texts 1 []) (get_or texts 2 []) (low_32 (get_or args 4 0))
  unfolding request
  of_setxattr nr e = rw e

  pub of_openat : (nr : ℤ) → nr ≡ pos nr_openat → request nr args texts ≡ OpenAt (signed_32 (get_or args 0 0)) (get_or texts 0 []) (low_32 (get_or args 2 0))
  unfolding request
  of_openat nr e = rw e

  pub of_mknodat : (nr : ℤ) → nr ≡ pos nr_mknodat → request nr args texts ≡ Mknod (Some (signed_32 (get_or args 0 0))) (get_or texts 0 []) (low_16 (get_or args 2 0)) (get_or args 3 0)
  unfolding request
  of_mknodat nr e = rw e

  own-number : (row : Option Row) (nr : ℤ) → (called_by_row row nr args texts).nr ≡ nr
  own-number None nr = refl
  own-number (Some row) nr = refl

  other-request : (n : ℕ) (c : Called) → c.nr ≡ pos n → (n == nr_sysinfo) ≡ false → (n == nr_mknod) ≡ false → (n == nr_mount) ≡ false → (n == nr_setxattr) ≡ false → (n == nr_openat) ≡ false → (n == nr_mknodat) ≡ false
      → request_of_call c ≡ Other (pos n)
  other-request n c q sysinfo mknod mount setxattr openat mknodat = rw (q, sysinfo, mknod, mount, setxattr, openat, mknodat) refl

  -- a number that is none of these; the code compares its 32 bits
  pub of_other : (nr : ℤ) → SFits w32 nr → (of_z w32 nr ≡ nr_sysinfo → ⊥) → (of_z w32 nr ≡ nr_mknod → ⊥) → (of_z w32 nr ≡ nr_mount → ⊥) → (of_z w32 nr ≡ nr_setxattr → ⊥) → (of_z w32 nr ≡ nr_openat → ⊥) → (of_z w32 nr ≡ nr_mknodat → ⊥) → request nr args texts ≡ Other (to_z w32 (of_z w32 nr))
  unfolding request
  of_other (pos n) fits a b c d e f =
      rw (to_z-of_z w32 (pos n) fits)
      (other-request n (called_with (pos n) args texts) (own-number (row_of (pos n)) (pos n)) (ne_eqb n 99 a) (ne_eqb n 133 b) (ne_eqb n 165 c) (ne_eqb n 188 d) (ne_eqb n 257 e) (ne_eqb n 259 f))
  of_other (negsuc n) fits a b c d e f = rw (to_z-of_z w32 (negsuc n) fits)

-- the second, the third and the fourth text
pub second : (texts : List (List ℕ)) → get_or (drop 1 texts) 0 [] ≡ get_or texts 1 []
second texts = rw get_or-drop

pub third : (texts : List (List ℕ)) → get_or (drop 1 (drop 1 texts)) 0 [] ≡ get_or texts 2 []
third texts = rw (get_or-drop, get_or-drop)

pub fourth : (texts : List (List ℕ)) → get_or (drop 1 (drop 1 (drop 1 texts))) 0 [] ≡ get_or texts 3 []
fourth texts = rw (get_or-drop, get_or-drop, get_or-drop)
