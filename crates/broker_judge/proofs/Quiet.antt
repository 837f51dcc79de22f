-- Of addresses before its own, and behind what it was given, a read tells nothing.
-- By the definition of what a read tells.
use Rattle.std.proofs.Common.{◌≡◌, ℕ, ◌+◌, ◌≤◌, List, arith}
use Rattle.std.specs.Prelude.{Result, Ok, Err}
use Rattle.std.proofs.lemmas.Bool.Decides.{nat_tests}
use Rattle.std.proofs.lemmas.Option.{slice_get_past}
use Rattle.broker_verdict.specs.SeatCopies.{told, Unread}
use Rattle.broker_judge.specs.Reads.{reach_of}

pub quiet : (start len : ℕ) (answer : Result (List ℕ) ℕ) (x : ℕ) → (start ≤ x → start + reach_of answer ≤ x) → told start len answer x ≡ Unread
quiet start len (Ok bytes) x h = grind (arith, nat_tests, slice_get_past)
quiet start len (Err e) x h = grind (arith, nat_tests)
