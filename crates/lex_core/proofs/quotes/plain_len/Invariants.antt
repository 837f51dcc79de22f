-- The bytes so far stand for themselves, and what is left goes on with more of them.
use Rattle.std.proofs.Common.{◌≡◌, ◌+◌, ◌-◌, ◌≤◌, length}
use Rattle.std.specs.List.{prefix_len}
use Rattle.lex_core.specs.Steps.{is_plain}
use Rattle.lex_core.proofs.quotes.plain_len.Given as goal

abbrev pub invariant-loop-byte : goal.invariant-loop-byte
invariant-loop-byte l = (prefix_len is_plain l.text ≡ length l.text - length l.rest + prefix_len is_plain l.rest) × (length l.rest ≤ length l.text)

abbrev pub decreases-loop-byte : goal.decreases-loop-byte
decreases-loop-byte l = length l.rest
