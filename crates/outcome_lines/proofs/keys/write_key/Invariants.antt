use Rattle.std.proofs.Common.{◌≡◌, ◌++◌, length, take}
use Rattle.std.specs.List.{flat_map}
use Rattle.key_bytes.specs.Parts.{number_part}
use Rattle.outcome_lines.specs.Keys.{line_part}
use Rattle.outcome_lines.proofs.keys.write_key.Given as goal

abbrev pub invariant-loop-line : goal.invariant-loop-line
invariant-loop-line l = l.key.items ≡ l.fn.key.items ++ number_part (length l.lines) ++ flat_map line_part (take l.line-index l.lines)
