-- The requests so far have the descriptors so far.
use Rattle.std.proofs.Common.{◌≡◌, map, take}
use Rattle.policy_classes.specs.Changed.{with_descriptor}
use Rattle.policy_classes.proofs.choices.with_descriptors.Given as goal

abbrev pub invariant-loop-number : goal.invariant-loop-number
invariant-loop-number l = l.made.items ≡ map (λ d. with_descriptor d l.request) (take l.number-index l.numbers)
