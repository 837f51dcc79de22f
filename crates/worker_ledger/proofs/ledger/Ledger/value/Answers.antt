-- The members stand in the order of their keys.
use Rattle.std.proofs.Common.{rules}
use Rattle.serde_json.proofs.OnLiterals.{serde_json_on_literals}
use Rattle.serde_json.specs.declared.value.Value.{the_lemmas}
use Rattle.worker_ledger.proofs.ledger.Ledger.value.Goals as goal

pub returns-clause-value : goal.returns-clause-value
unfolding serde_json_on_literals
returns-clause-value c = search (rules, the_lemmas)
