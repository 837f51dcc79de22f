-- The texts so far are those of the texts so far that calls may have.
use Rattle.std.proofs.Common.{◌≡◌, take}
use Rattle.std.specs.List.{filter}
use Rattle.policy_classes.specs.Allowed.{is_allowed}
use Rattle.policy_classes.proofs.chosen.allowed_texts.Given as goal

abbrev pub invariant-loop-text : goal.invariant-loop-text
invariant-loop-text l = l.allowed.items ≡ filter (is_allowed l.limit) (take l.text-index l.texts)
