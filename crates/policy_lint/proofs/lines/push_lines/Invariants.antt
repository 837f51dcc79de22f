-- The lines so far stand behind what there was.
use Rattle.std.proofs.Common.{◌≡◌, ◌++◌, take}
use Rattle.std.specs.List.{flat_map}
use Rattle.policy_lint.specs.Lines.{line_text}
use Rattle.policy_lint.proofs.lines.push_lines.Given as goal

abbrev pub invariant-loop-finding : goal.invariant-loop-finding
invariant-loop-finding l = l.line ≡ l.fn.line ++ flat_map (line_text l.rules) (take l.finding-index l.findings)
