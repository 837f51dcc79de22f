-- Counts of calls and of faults.
-- By the definition of `fails_next`, since a list of length 0 has no number in it.
use Rattle.std.proofs.Common.{◌≡◌, ◌==◌, true, false, length, arith}
use Rattle.std.proofs.lemmas.Grind.{common_steps}
use Rattle.io_edge.specs.Planned.{fails_next}
use Rattle.io_edge.specs.declared.plan.Plan.{Plan}

-- with nothing listed no call fails
pub none_listed : (plan : Plan) → (length plan.listed.items == 0) ≡ true → fails_next plan ≡ false
none_listed plan none = grind (arith, common_steps)
