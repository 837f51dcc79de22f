-- The tokens so far come before those of what is left.
use Rattle.std.proofs.Common.{◌≡◌, ◌<◌, length}
use Rattle.lex_core.specs.Lexical.{tokens}
use Rattle.lex_core.specs.Steps.{with_tokens, IsPastBlanks}
use Rattle.lex_core.proofs.tokens.read_tokens.Given as goal

abbrev pub invariant-loop-rest : goal.invariant-loop-rest
invariant-loop-rest l = (tokens l.line ≡ with_tokens l.found.items (tokens l.rest)) × (0 < length l.rest → IsPastBlanks l.rest)

abbrev pub decreases-loop-rest : goal.decreases-loop-rest
decreases-loop-rest l = length l.rest
