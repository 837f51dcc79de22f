-- The answers that were read, and the values that are left.
use Rattle.std.proofs.Common.{◌≡◌, List, length}
use Rattle.serde_json.specs.View.{items_view}
use Rattle.broker_core.specs.Answers.{Answer}
use Rattle.worker_ledger.specs.Data.{answers_data}
use Rattle.worker_ledger.specs.Heard.{all_heard}
use Rattle.worker_ledger.specs.Ledgers.{AreAnswers}
use Rattle.worker_ledger.proofs.Parts.{IsLeft}
use Rattle.worker_ledger.proofs.reading.read_answers.Given as goal

abbrev pub invariant-loop-value : goal.invariant-loop-value
invariant-loop-value l = (own : List Answer) → AreAnswers own → items_view l.values ≡ answers_data own → IsLeft own (all_heard l.answers.items) l.left

abbrev pub decreases-loop-value : goal.decreases-loop-value
decreases-loop-value l = length l.left
