-- What the members so far state goes on with those that are left.
use Rattle.std.proofs.Common.{◌≡◌}
use Rattle.policy_reader.specs.Readings.{walk}
use Rattle.policy_reader.specs.Rules.{nothing_stated, rule_member}
use Rattle.serde_json.specs.View.{members_view}
use Rattle.policy_reader.proofs.rules.read_members.Given as goal

abbrev pub invariant-loop-name : goal.invariant-loop-name
invariant-loop-name l = walk (rule_member l.format l.rule) (members_view l.name-iterator) l.stated ≡ walk (rule_member l.format l.rule) (members_view l.initial.name-iterator) nothing_stated
