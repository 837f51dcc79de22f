-- The calls that a worker makes: mknod and mknodat of AT_FDCWD have the same faults and the same effect, and what is acted is the
-- request of a call.
-- By computing, with `fault_from`, `digits_value` and `request` unfolded, and by cases on the fault and on the worker's number.
use Rattle.std.proofs.Common.{◌≡◌, ℕ, ◌-◌, ◌^◌, ◌<◌, List, [], ◌∷◌, Option, Some, None, refl, ap, sym, arith, ◌∙◌, inl, inr, unwrap_or, w32}
use Rattle.std.specs.Prelude.{ℤ, pos, neg_ℤ, codes, FitsSigned, Bool, int_le, ◌&&◌, true, false}
use Rattle.std.proofs.lemmas.Bool.{cases_Bool}
use Rattle.std.proofs.lemmas.Bool.Decides.{nat_tests}
use Rattle.std.proofs.lemmas.Int.{ints, to_z-of_z}
use Rattle.std.proofs.Math.Facts.{Fits-lt-pow, Fits-of_z}
use Rattle.std.proofs.Math.Nat.{mod-eq_of_lt}
use Rattle.hist_model.specs.Requests as calls
use Rattle.hist_model.specs.declared.policy.Rule.{Rule}
use Rattle.hist_model.specs.declared.request.Request.TheVariants.{Mount}
use Rattle.hist_model.specs.Requests.{signed_32}
use Rattle.sys_abi.specs.Calls.{nr_mknod, nr_mknodat, nr_mount, nr_setxattr}
use Rattle.step_requests.specs.declared.request.Asked.{Asked}
use Rattle.step_requests.specs.declared.request.Asked.TheVariants.{Act}
use Rattle.step_requests.specs.Numbers.{between}
use Rattle.std.specs.Int.{cast_signed, cast_unsigned}
use Rattle.lex_core.specs.Numbers.{digits_value}
use Rattle.lex_core.specs.declared.line.Token.{Token}
use Rattle.lex_core.specs.declared.line.Token.TheVariants.{Bare}
use Rattle.lex_core.specs.declared.reason.Reason.{Reason}
use Rattle.step_requests.specs.declared.word.Form.TheVariants as form
use Rattle.step_requests.specs.declared.word.Deed.TheVariants as deed
use Rattle.step_requests.specs.Laws.{ActAlike, act_line}
use Rattle.step_requests.specs.Operands.{fault_from, line_fault}
use Rattle.step_requests.specs.Readings.{read, unless_faulty}
use Rattle.step_requests.specs.Requests.{asked, by_worker, bytes_at, has_shift, node_at, program_of, number_at, signed_word_at, wide_at, word_at, worker_at}

-- ---- mknod, and mknodat of AT_FDCWD

mknod-line : Token → Token → Token → Token → List Token
mknod-line number path mode dev = act_line number (codes "mknod") (path ∷ mode ∷ dev ∷ [])

mknodat-line : Token → Token → Token → Token → List Token
mknodat-line number path mode dev = act_line number (codes "mknodat") (Bare (codes "-100") ∷ path ∷ mode ∷ dev ∷ [])

same-fault : (number path mode dev : Token) → line_fault (form.Worker deed.Mknod) (mknod-line number path mode dev) ≡ line_fault (form.Worker deed.Mknodat) (mknodat-line number path mode dev)
unfolding fault_from digits_value mknod-line mknodat-line
same-fault number path mode dev = refl

by-one : (worker : Option ℕ) (number path mode dev : Token)
    → ActAlike (by_worker worker (asked deed.Mknod (mknod-line number path mode dev))) (by_worker worker (asked deed.Mknodat (mknodat-line number path mode dev)))
unfolding digits_value mknod-line mknodat-line
by-one None number path mode dev = refl
by-one (Some worker) number path mode dev = (refl, refl, refl)

by-fault : (found : Option Reason) (number path mode dev : Token)
    → ActAlike (unless_faulty found (form.Worker deed.Mknod) (mknod-line number path mode dev)) (unless_faulty found (form.Worker deed.Mknodat) (mknodat-line number path mode dev))
unfolding mknod-line mknodat-line
by-fault None number path mode dev = by-one (worker_at (mknod-line number path mode dev)) number path mode dev
by-fault (Some why) number path mode dev = refl

pub mknod_alike : (number path mode dev : Token)
    → ActAlike (read (act_line number (codes "mknod") (path ∷ mode ∷ dev ∷ [])))
    (read (act_line number (codes "mknodat") (Bare (codes "-100") ∷ path ∷ mode ∷ dev ∷ [])))
unfolding mknod-line mknodat-line
mknod_alike number path mode dev =
    let line : List Token = mknodat-line number path mode dev in
    rw (same-fault number path mode dev) (by-fault (line_fault (form.Worker deed.Mknodat) line) number path mode dev)

-- ---- requests of calls

is-word : ℤ → Bool
is-word n = int_le (neg_ℤ (pos (2 ^ 31))) n && int_le n (pos (2 ^ 31 - 1))

word-or-zero : ℤ → ℤ
word-or-zero n = unwrap_or (between (neg_ℤ (pos (2 ^ 31))) (pos (2 ^ 31 - 1)) n) (pos 0)

fits-where : (n : ℤ) → is-word n ≡ true → FitsSigned w32 (word-or-zero n)
unfolding is-word word-or-zero
fits-where n h = rw h (grind (arith, ints, nat_tests))

zero-where : (n : ℤ) → is-word n ≡ false → FitsSigned w32 (word-or-zero n)
unfolding is-word word-or-zero
zero-where n h = rw h (grind (arith, ints, nat_tests))

-- a number with a sign of 32 bits is one, whatever stands there
signed-fits : (line : List Token) (place : ℕ) → FitsSigned w32 (signed_word_at line place)
unfolding word-or-zero
signed-fits line place = elim (cases_Bool (is-word (number_at line place))) [
  | inl h ↦ fits-where (number_at line place) h
  | inr h ↦ zero-where (number_at line place) h
]

back : (d : ℤ) → FitsSigned w32 d → signed_32 (cast_unsigned w32 d) ≡ d
back d h =
    let small : cast_unsigned w32 d < 4294967296 = Fits-lt-pow (Fits-of_z h) in
    ap (cast_signed w32) (mod-eq_of_lt small) ∙ to_z-of_z w32 d h

pub mknod_of_call : (line : List Token) (path : ℕ) → asked deed.Mknod line ≡ Act (calls.request (pos nr_mknod) (path ∷ word_at line 5 ∷ wide_at line 6 ∷ []) (bytes_at line 4 ∷ []))
unfolding calls.request
mknod_of_call line path = refl

pub mknodat_of_call : (line : List Token) (path : ℕ) → asked deed.Mknodat line
    ≡ Act (calls.request (pos nr_mknodat) (cast_unsigned w32 (signed_word_at line 4) ∷ path ∷ word_at line 6 ∷ wide_at line 7 ∷ []) (bytes_at line 5 ∷ []))
unfolding calls.request
mknodat_of_call line path = ap (λ d. asked_node d) (sym (back (signed_word_at line 4) (signed-fits line 4)))
  where
    asked_node : ℤ → Asked
    asked_node d = Act (node_at line (Some d) 5)

pub mount_of_call : (line : List Token) (rule : Rule) (source target fstype addr : ℕ) → rule.via ≡ program_of line → rule.shift ≡ has_shift line → asked deed.Mount line
    ≡ Act (calls.granted rule (calls.request (pos nr_mount) (source ∷ target ∷ fstype ∷ wide_at line 7 ∷ addr ∷ [])
    (bytes_at line 4 ∷ bytes_at line 5 ∷ bytes_at line 6 ∷ bytes_at line 8 ∷ [])))
unfolding calls.request
mount_of_call line rule source target fstype addr v s =
    ap (λ via. granted_mount via (has_shift line)) (sym v) ∙ ap (λ shift. granted_mount rule.via shift) (sym s)
  where
    granted_mount : List ℕ → Bool → Asked
    granted_mount via shift = Act (Mount (bytes_at line 4) (bytes_at line 5) (bytes_at line 6) (bytes_at line 8) via (wide_at line 7) shift)

pub setxattr_of_call : (line : List Token) (path name value size : ℕ) → asked deed.SetXattr line
    ≡ Act (calls.request (pos nr_setxattr) (path ∷ name ∷ value ∷ size ∷ wide_at line 7 ∷ []) (bytes_at line 4 ∷ bytes_at line 5 ∷ bytes_at line 6 ∷ []))
unfolding calls.request
setxattr_of_call line path name value size = refl
