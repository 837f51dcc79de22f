-- What the members so far say goes on with those that are left.
use Rattle.std.proofs.Common.{◌≡◌}
use Rattle.policy_reader.specs.Policies.{no_parts, top_member}
use Rattle.policy_reader.specs.Readings.{walk}
use Rattle.serde_json.specs.View.{members_view}
use Rattle.policy_reader.proofs.policies.read_parts.Given as goal

abbrev pub invariant-loop-name : goal.invariant-loop-name
invariant-loop-name l = walk (top_member l.format) (members_view l.name-iterator) l.parts ≡ walk (top_member l.format) (members_view l.initial.name-iterator) (no_parts l.format.profile)
