-- What is found so far is the least of what there was and of the texts that the bytes so far make.
use Rattle.std.proofs.Common.{◌≡◌, take}
use Rattle.std.specs.List.{flat_map}
use Rattle.policy_classes.specs.Fresh.{all_bytes, with_byte}
use Rattle.policy_classes.specs.Groups.{least_of}
use Rattle.policy_classes.proofs.fresh.Group.try_all_bytes.Given as goal

abbrev pub invariant-loop-byte : goal.invariant-loop-byte
invariant-loop-byte l = l.found ≡ least_of l.self l.fn.best (flat_map (with_byte l.text) (take l.byte all_bytes))
