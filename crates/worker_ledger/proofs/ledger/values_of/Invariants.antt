-- The values so far with those of the answers that are left are all values.
use Rattle.std.proofs.Common.{◌≡◌, ◌++◌, length}
use Rattle.std.specs.Prelude.{map}
use Rattle.serde_json.specs.View.{view}
use Rattle.worker_ledger.specs.Data.{answer_data}
use Rattle.worker_ledger.specs.Heard.{all_heard}
use Rattle.worker_ledger.specs.Ledgers.{AreAnswers}
use Rattle.worker_ledger.proofs.ledger.values_of.Given as goal

abbrev pub invariant-loop-heard : goal.invariant-loop-heard
invariant-loop-heard l =
    (map answer_data (all_heard l.fn.own) ≡ map view l.values.items ++ map answer_data (all_heard l.left))
    × (AreAnswers (all_heard l.left) → AreAnswers (all_heard l.fn.own))

abbrev pub decreases-loop-heard : goal.decreases-loop-heard
decreases-loop-heard l = length l.left
