-- What is found so far is the least of what there was and of the texts that those so far make.
use Rattle.std.proofs.Common.{◌≡◌, take}
use Rattle.std.specs.List.{flat_map}
use Rattle.std.specs.Option.{option_copied}
use Rattle.policy_classes.specs.Fresh.{asked_at, with_bytes}
use Rattle.policy_classes.specs.Groups.{least_of}
use Rattle.policy_classes.proofs.fresh.Group.try_asked.Given as goal

abbrev pub invariant-loop-text : goal.invariant-loop-text
invariant-loop-text l = l.found ≡ least_of l.self l.fn.best (flat_map with_bytes (asked_at (option_copied l.self.at) (take l.text-index l.self.asked.now)))
