-- What is left goes on as the line does.
use Rattle.std.proofs.Common.{◌≡◌, length}
use Rattle.lex_core.specs.Steps.{past_blanks}
use Rattle.lex_core.proofs.tokens.past_blanks.Given as goal

abbrev pub invariant-loop-byte : goal.invariant-loop-byte
invariant-loop-byte l = past_blanks l.rest ≡ past_blanks l.line

abbrev pub decreases-loop-byte : goal.decreases-loop-byte
decreases-loop-byte l = length l.rest
