-- The lines of the classes so far stand behind what there was.
use Rattle.std.proofs.Common.{◌≡◌, ◌++◌, take}
use Rattle.std.specs.List.{flat_map}
use Rattle.std.specs.Option.{option_copied}
use Rattle.policy_compare.specs.Lines.{share_lines}
use Rattle.policy_compare.proofs.counts.push_counts.Given as goal

abbrev pub invariant-loop-class : goal.invariant-loop-class
invariant-loop-class l = l.lines.items ≡ l.fn.lines.items ++ flat_map (share_lines l.old l.new (option_copied l.filters) l.classes) (take l.class-index l.classes)
