-- What the members so far state goes on with those that are left.
use Rattle.std.proofs.Common.{◌≡◌}
use Rattle.policy_reader.specs.Readings.{walk}
use Rattle.policy_reader.specs.Verdicts.{answer_member, no_answer}
use Rattle.serde_json.specs.View.{members_view}
use Rattle.policy_reader.proofs.verdicts.read_answer.Given as goal

abbrev pub invariant-loop-name : goal.invariant-loop-name
invariant-loop-name l = walk (answer_member l.rule) (members_view l.name-iterator) l.answer ≡ walk (answer_member l.rule) (members_view l.initial.name-iterator) no_answer
