-- The conditions so far go on with the members that are left.
use Rattle.std.proofs.Common.{◌≡◌, []}
use Rattle.policy_reader.specs.Conditions.{condition_member}
use Rattle.policy_reader.specs.Readings.{walk}
use Rattle.serde_json.specs.View.{members_view}
use Rattle.policy_reader.proofs.conditions.read_conditions.Given as goal

abbrev pub invariant-loop-name : goal.invariant-loop-name
invariant-loop-name l = walk (condition_member l.profile l.rule) (members_view l.name-iterator) l.conds.items ≡ walk (condition_member l.profile l.rule) (members_view l.initial.name-iterator) []
