-- What is left of the events has the read that is asked for.
use Rattle.std.proofs.Common.{◌≡◌, length, reverse}
use Rattle.model_kernel.proofs.Words.{past}
use Rattle.model_kernel.specs.Reads.{last_read}
use Rattle.model_kernel.proofs.kernel.Kernel.last_read.Given as goal

abbrev pub invariant-loop-newest : goal.invariant-loop-newest
invariant-loop-newest l = last_read l.worker (reverse l.events) ≡ last_read l.worker (past l.self)

abbrev pub decreases-loop-newest : goal.decreases-loop-newest
decreases-loop-newest l = length l.events
