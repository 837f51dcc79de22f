-- What fits a piece answers it: by the cases of the answer, some bytes within the piece's length, or EFAULT.
-- By cases on the piece and on the answer, with the two tests that `fits_piece` joins.
use Rattle.std.proofs.Common.{◌≡◌, ℕ, true, List, length, Option, Some, None, arith}
use Rattle.std.specs.Prelude.{Result, Ok, Err, nat_le}
use Rattle.std.proofs.lemmas.Bool.{and_parts, eqb-true}
use Rattle.std.proofs.lemmas.Bool.Decides.{nat_tests}
use Rattle.hist_model.specs.Copies.{fits_piece}
use Rattle.sys_abi.specs.Errnos.{efault}
use Rattle.arg_capture.specs.Captures.{Answers}

pub fit_answers : (o : Option (ℕ × ℕ)) (a : Result (List ℕ) ℕ) → fits_piece o a ≡ true → Answers o a
fit_answers None a h = cc
fit_answers (Some q) (Ok bytes) h = let p = and_parts (nat_le 1 (length bytes)) (nat_le (length bytes) q.1) h in (grind (arith, nat_tests), grind (arith, nat_tests))
fit_answers (Some q) (Err e) h = tt

-- an answer that fits is one of EFAULT, if it is an error
pub fit_fault : (o : Option (ℕ × ℕ)) (e : ℕ) → fits_piece o (Err e) ≡ true → e ≡ efault
fit_fault None e h = cc
fit_fault (Some q) e h = eqb-true e efault h
