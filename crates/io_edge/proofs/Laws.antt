-- What follows from the contracts of files and sinks over several calls.
-- By arithmetic on the counts, and by joining the equations of two calls.
use Rattle.std.proofs.Common.{ℕ, ◌≤◌, ◌∙◌, arith}
use Rattle.io_edge.specs.Faults.{Rose}
use Rattle.io_edge.specs.FileState.{FileState, SameFiles}

-- so did one that didn't fall and then rose
pub then_rose : (a b c : ℕ) → a ≤ b → Rose b c → Rose a c
then_rose a b c le rose = λ below. omega arith

-- what no call changes stays over two
pub same_then : (a b c : FileState) → SameFiles a b → SameFiles b c → SameFiles a c
same_then a b c first second = record {
  tells = second.tells ∙ first.tells;
  bytes = second.bytes ∙ first.bytes;
  sound = second.sound ∙ first.sound;
  faults = omega arith;
}
