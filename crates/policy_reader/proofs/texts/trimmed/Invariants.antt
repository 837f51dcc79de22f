-- What is left ends as the text does.
use Rattle.std.proofs.Common.{◌≡◌, length, reverse}
use Rattle.policy_reader.specs.Texts.{past_spaces, trimmed}
use Rattle.policy_reader.proofs.texts.trimmed.Given as goal

abbrev pub invariant-loop-byte : goal.invariant-loop-byte
invariant-loop-byte l = reverse (past_spaces (reverse l.rest)) ≡ trimmed l.text

abbrev pub decreases-loop-byte : goal.decreases-loop-byte
decreases-loop-byte l = length l.rest
