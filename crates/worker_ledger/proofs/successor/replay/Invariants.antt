-- What was taken so far, and what is left.
use Rattle.std.proofs.Common.{◌≡◌, List, length}
use Rattle.broker_core.specs.Remembered.{Remembers}
use Rattle.hist_model.specs.declared.event.What.{What}
use Rattle.worker_ledger.specs.Heard.{all_heard}
use Rattle.worker_ledger.proofs.Fitting.{IsReplayed}
use Rattle.worker_ledger.proofs.successor.replay.Given as goal

abbrev pub invariant-loop-heard : goal.invariant-loop-heard
invariant-loop-heard l =
    (l.worker.figures ≡ l.fn.worker.figures)
    × ((own : List What) → Remembers l.policy own l.fn.worker → IsReplayed l.policy l.fn.worker.figures own (all_heard l.fn.answers) (all_heard l.left) l.worker)

abbrev pub decreases-loop-heard : goal.decreases-loop-heard
decreases-loop-heard l = length l.left
