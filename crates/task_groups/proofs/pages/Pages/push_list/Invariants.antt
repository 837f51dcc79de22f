use Rattle.std.proofs.Common.{◌≡◌, ◌++◌, length, take}
use Rattle.std.specs.List.{flat_map}
use Rattle.key_bytes.specs.Parts.{number_part}
use Rattle.task_groups.specs.Keys.{page_part}
use Rattle.task_groups.proofs.pages.Pages.push_list.Given as goal

abbrev pub invariant-loop-entry : goal.invariant-loop-entry
invariant-loop-entry l = l.key.items ≡ l.fn.key.items ++ number_part (length l.list) ++ flat_map (page_part l.self) (take l.entry-index l.list)
