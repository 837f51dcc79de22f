use Rattle.std.proofs.Common.{◌≡◌, ◌++◌, length, take}
use Rattle.std.specs.List.{flat_map}
use Rattle.key_bytes.specs.Parts.{number_part}
use Rattle.task_groups.specs.Keys.{group_part}
use Rattle.task_groups.proofs.groups.Groups.write_key.Given as goal

abbrev pub invariant-loop-group : goal.invariant-loop-group
invariant-loop-group l =
    l.key.items ≡ l.fn.key.items ++ number_part (length l.self.rows.items) ++ flat_map (group_part l.self.pages) (take l.group-index l.self.rows.items)
