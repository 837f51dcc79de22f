-- The bytes so far are part of the token, and what is left goes on with it.
use Rattle.std.proofs.Common.{◌≡◌, ◌+◌, ◌-◌, ◌≤◌, length}
use Rattle.std.specs.List.{prefix_len}
use Rattle.lex_core.specs.Lexical.{is_bare}
use Rattle.lex_core.proofs.tokens.bare_len.Given as goal

abbrev pub invariant-loop-byte : goal.invariant-loop-byte
invariant-loop-byte l = (prefix_len is_bare l.text ≡ length l.text - length l.rest + prefix_len is_bare l.rest) × (length l.rest ≤ length l.text)

abbrev pub decreases-loop-byte : goal.decreases-loop-byte
decreases-loop-byte l = length l.rest
