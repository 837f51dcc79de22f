use Rattle.std.proofs.Common.{◌≡◌, ◌++◌, length, take}
use Rattle.std.specs.List.{flat_map}
use Rattle.key_bytes.specs.Parts.{number_part}
use Rattle.tasks.specs.Keys.{member_part}
use Rattle.tasks.specs.Table.{member}
use Rattle.tasks.proofs.table.Tasks.write_key.Given as goal

abbrev pub invariant-loop-task : goal.invariant-loop-task
invariant-loop-task l =
    l.key.items ≡ l.fn.key.items ++ number_part l.self.last ++ number_part (length l.self.tasks.items)
    ++ flat_map (λ t. member_part (member t)) (take l.task-index l.self.tasks.items)
