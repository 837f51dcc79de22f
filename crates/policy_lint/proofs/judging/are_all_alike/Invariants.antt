-- The classes so far are alike.
use Rattle.std.proofs.Common.{◌≡◌, take}
use Rattle.std.specs.Prelude.{All, slice_get}
use Rattle.policy_classes.specs.declared.found.Class.{Class}
use Rattle.policy_lint.specs.Alike.{IsAlike}
use Rattle.policy_lint.proofs.judging.are_all_alike.Given as goal

abbrev pub invariant-loop-class : goal.invariant-loop-class
invariant-loop-class l =
    All (λ (c : Class). c.old_place ≡ l.place → IsAlike l.rule (slice_get l.rules c.new_place)) (take l.class-index l.classes)
