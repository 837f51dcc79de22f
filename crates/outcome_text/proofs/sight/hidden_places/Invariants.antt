-- The places of the hidden marks among those so far.
use Rattle.std.proofs.Common.{◌≡◌, take}
use Rattle.outcome_text.specs.Sight.{hidden_among}
use Rattle.outcome_text.proofs.sight.hidden_places.Given as goal

abbrev pub invariant-loop-mark : goal.invariant-loop-mark
invariant-loop-mark l = l.places.items ≡ hidden_among l.tree.tree l.history.events (take l.mark-index l.marks)
