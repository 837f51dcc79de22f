-- The requests so far have the texts so far.
use Rattle.std.proofs.Common.{◌≡◌, map, take}
use Rattle.policy_classes.specs.Changed.{with_text}
use Rattle.policy_classes.proofs.choices.with_texts.Given as goal

abbrev pub invariant-loop-text : goal.invariant-loop-text
invariant-loop-text l = l.made.items ≡ map (λ t. with_text l.field t l.request) (take l.text-index l.texts)
