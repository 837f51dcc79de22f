use Rattle.std.proofs.Common.{◌≡◌, ◌++◌, length, take}
use Rattle.std.specs.List.{flat_map}
use Rattle.key_bytes.specs.Parts.{number_part, option_part}
use Rattle.tasks.proofs.keys.push_children.Given as goal

abbrev pub invariant-loop-child : goal.invariant-loop-child
invariant-loop-child l = l.key.items ≡ l.fn.key.items ++ number_part (length l.children) ++ flat_map (option_part number_part) (take l.child-index l.children)
