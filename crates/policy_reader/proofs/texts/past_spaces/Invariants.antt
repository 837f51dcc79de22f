-- What is left goes on as the text does.
use Rattle.std.proofs.Common.{◌≡◌, length}
use Rattle.policy_reader.specs.Texts.{past_spaces}
use Rattle.policy_reader.proofs.texts.past_spaces.Given as goal

abbrev pub invariant-loop-byte : goal.invariant-loop-byte
invariant-loop-byte l = past_spaces l.rest ≡ past_spaces l.text

abbrev pub decreases-loop-byte : goal.decreases-loop-byte
decreases-loop-byte l = length l.rest
