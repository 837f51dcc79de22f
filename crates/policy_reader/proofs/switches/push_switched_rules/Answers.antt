-- The four parts stand one behind the other.
use Rattle.std.proofs.Common.{rules, append_assoc}
use Rattle.std.proofs.lemmas.Result.{IfOk-equal}
use Rattle.policy_reader.proofs.switches.push_switched_rules.Goals as goal

pub returns : goal.returns
returns c = search (rules, IfOk-equal, append_assoc)
