-- The texts so far are those that there were, and one just below each of the directories so far.
use Rattle.std.proofs.Common.{◌≡◌, ◌++◌, Some, take}
use Rattle.std.specs.List.{flat_map}
use Rattle.policy_classes.specs.Chosen.{fresh_at}
use Rattle.policy_classes.proofs.chosen.push_below.Given as goal

abbrev pub invariant-loop-dir : goal.invariant-loop-dir
invariant-loop-dir l =
    l.texts.items ≡ l.fn.texts.items ++ flat_map (λ d. fresh_at l.limit l.plain l.asked l.dirs (Some d)) (take l.dir-index l.dirs)
