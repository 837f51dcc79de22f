-- The descriptors so far are those of the descriptors so far that calls may have.
use Rattle.std.proofs.Common.{◌≡◌, take}
use Rattle.std.specs.List.{filter}
use Rattle.policy_classes.specs.Asked.{is_descriptor_number}
use Rattle.policy_classes.proofs.chosen.allowed_numbers.Given as goal

abbrev pub invariant-loop-number : goal.invariant-loop-number
invariant-loop-number l = l.allowed.items ≡ filter is_descriptor_number (take l.number-index l.numbers)
