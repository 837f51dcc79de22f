-- The parts are those of the members.
use Rattle.policy_reader.proofs.KeptPolicies.{parts_kept}
use Rattle.serde_json.specs.View.{members_view}
use Rattle.policy_reader.proofs.policies.read_top.Goals as goal

pub made_of-requires : goal.made_of-requires
made_of-requires c = parts_kept c.in_ok-format.format (members_view c.args.members.now.entries) c.in_ok-parts.parts c.in_ok-parts.ensures
