-- The lines so far were skipped.
use Rattle.std.proofs.Common.{◌≡◌, ◌+◌, ◌<◌, ◌^◌, length}
use Rattle.lex_core.specs.Lines.{lines_after}
use Rattle.lex_core.proofs.lines.first_line.Given as goal

abbrev pub invariant-loop-rest : goal.invariant-loop-rest
invariant-loop-rest l = (lines_after l.before l.text ≡ lines_after l.number l.rest) × (l.number + length l.rest < 2 ^ 32)

abbrev pub decreases-loop-rest : goal.decreases-loop-rest
decreases-loop-rest l = length l.rest
