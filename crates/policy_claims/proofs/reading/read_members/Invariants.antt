-- What the members so far say goes on with those that are left.
use Rattle.std.proofs.Common.{◌≡◌}
use Rattle.policy_claims.specs.Claims.{claims_member, no_claims}
use Rattle.policy_reader.specs.Readings.{walk}
use Rattle.serde_json.specs.View.{members_view}
use Rattle.policy_claims.proofs.reading.read_members.Given as goal

abbrev pub invariant-loop-name : goal.invariant-loop-name
invariant-loop-name l = walk claims_member (members_view l.name-iterator) l.claims ≡ walk claims_member (members_view l.initial.name-iterator) no_claims
