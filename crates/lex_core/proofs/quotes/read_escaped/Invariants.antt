-- The bytes so far come before what is left of the token.
use Rattle.std.proofs.Common.{◌≡◌, ◌≤◌, length}
use Rattle.lex_core.specs.Lexical.{quoted}
use Rattle.lex_core.specs.Steps.{with_bytes}
use Rattle.lex_core.proofs.quotes.read_escaped.Given as goal

abbrev pub invariant-loop-bytes : goal.invariant-loop-bytes
invariant-loop-bytes l = (with_bytes l.first (quoted l.text) ≡ with_bytes l.bytes.items (quoted l.rest)) × (length l.rest ≤ length l.text)

abbrev pub decreases-loop-bytes : goal.decreases-loop-bytes
decreases-loop-bytes l = length l.rest
