-- The lines of the classes so far stand behind what there was.
use Rattle.std.proofs.Common.{◌≡◌, ◌++◌, take}
use Rattle.std.specs.Option.{option_copied}
use Rattle.policy_compare.specs.Lines.{class_lines}
use Rattle.policy_compare.proofs.lines.push_changes.Given as goal

abbrev pub invariant-loop-class : goal.invariant-loop-class
invariant-loop-class l = l.lines.items ≡ l.fn.lines.items ++ class_lines l.old l.new (option_copied l.filters) (take l.class-index l.classes)
