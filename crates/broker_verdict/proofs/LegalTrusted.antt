-- Every legal history can be trusted.
-- A field each, by the files of its clause.
use Rattle.std.proofs.Common.{List}
use Rattle.hist_model.specs.Legal.{Legal}
use Rattle.hist_model.specs.PolicyRules.{IsPolicy}
use Rattle.hist_model.specs.ScriptRules.{IsScript}
use Rattle.hist_model.specs.declared.event.Event.{Event}
use Rattle.hist_model.specs.declared.policy.Policy.{Policy}
use Rattle.hist_model.specs.declared.script.Script.{Script}
use Rattle.broker_verdict.proofs.LegalBases.{own_base}
use Rattle.broker_verdict.proofs.LegalClauses.{answer_has_call, before_answer, caused_so, denied_so, done_so, effect_has_call, once_only, own_answer, passed_so}
use Rattle.broker_verdict.proofs.LegalGrants.{granted_so}
use Rattle.broker_verdict.proofs.LegalOutcomes.{outcome_so}
use Rattle.broker_verdict.proofs.LegalRequests.{same_request}
use Rattle.broker_verdict.proofs.LegalRests.{checked_after, own_memory, read_in_time, untorn_so, was_read}
use Rattle.broker_verdict.proofs.LegalSecond.{answered_once}
use Rattle.broker_verdict.proofs.LegalTimes.{within_times}
use Rattle.broker_verdict.proofs.LegalWaits.{answered_all}
use Rattle.broker_verdict.specs.Trusted.{Trusted}

pub legal_trusted : (P : Policy) (S : Script) (K : List Event) → IsPolicy (record { rules = P.rules }) → IsScript S → Legal P S K → Trusted P S K
legal_trusted P S K policy script legal = record {
  effect_has_call = effect_has_call P S K legal;
  same_request = same_request P S K policy legal;
  read = was_read P S K script legal;
  own_memory = own_memory P S K script legal;
  read_in_time = read_in_time P S K script legal;
  checked = checked_after P S K script legal;
  untorn = untorn_so P S K script legal;
  own_base = own_base P S K legal;
  granted = granted_so P S K legal;
  within_times = within_times P S K legal;
  once = once_only P S K legal;
  before_answer = before_answer P S K legal;
  answer_has_call = answer_has_call P S K legal;
  own_answer = own_answer P S K legal;
  caused = caused_so P S K legal;
  denied = denied_so P S K legal;
  passed = passed_so P S K legal;
  done = done_so P S K legal;
  outcome = outcome_so P S K legal;
  answered_once = answered_once P S K legal;
  answered = answered_all P S K legal;
}
