-- The best descriptor is that of the first ones and of those next to the descriptors so far.
use Rattle.std.proofs.Common.{◌≡◌, None, ◌∷◌, map, negsuc, pos, take}
use Rattle.policy_classes.specs.Chosen.{comes_first, is_fresh_descriptor, next_descriptor}
use Rattle.policy_classes.specs.Fresh.{least}
use Rattle.policy_classes.proofs.chosen.fresh_descriptor.Given as goal

abbrev pub invariant-loop-number : goal.invariant-loop-number
invariant-loop-number l =
    l.best ≡ least comes_first (is_fresh_descriptor l.asked) None (negsuc 99 ∷ pos 0 ∷ negsuc 0 ∷ map next_descriptor (take l.number-index l.asked))
