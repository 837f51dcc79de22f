use Rattle.std.proofs.Common.{◌≡◌, ◌++◌, length, take}
use Rattle.std.specs.List.{flat_map}
use Rattle.key_bytes.specs.Parts.{number_part}
use Rattle.task_groups.specs.Keys.{descriptor_part}
use Rattle.task_groups.proofs.keys.push_descriptors.Given as goal

abbrev pub invariant-loop-descriptor : goal.invariant-loop-descriptor
invariant-loop-descriptor l = l.key.items ≡ l.fn.key.items ++ number_part (length l.descriptors) ++ flat_map descriptor_part (take l.descriptor-index l.descriptors)
