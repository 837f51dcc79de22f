-- The classes stay, and none so far is of the same two rules.
use Rattle.std.proofs.Common.{◌≡◌}
use Rattle.policy_classes.proofs.Put.{Passed}
use Rattle.policy_classes.proofs.walk.add_class.Given as goal

abbrev pub invariant-loop-place : goal.invariant-loop-place
invariant-loop-place l =
    (l.classes.items ≡ l.fn.classes.items)
    × Passed l.classes.items (record { old_place = l.old_place; new_place = l.new_place; witness = l.witness }) l.place
