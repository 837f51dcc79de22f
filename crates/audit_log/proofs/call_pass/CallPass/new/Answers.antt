-- Before all events nothing is kept.
use Rattle.std.proofs.Common.{◌≡◌, ℕ, List, [], length, refl, sym, ap, ◌∙◌, subst}
use Rattle.audit_log.specs.Places.{AreOrdered, call_in}
use Rattle.audit_log.specs.Records.{record_in}
use Rattle.audit_log.proofs.Answered.{none_asked, none_installed, none_number}
use Rattle.audit_log.proofs.PlaceRows.{none_ordered}
use Rattle.audit_log.proofs.ReceivedCalls.{none_named, none_received}
use Rattle.audit_log.proofs.Recorded.{known_none, none_entered, none_told}
use Rattle.audit_log.proofs.call_pass.CallPass.new.Goals as goal

no-rows : (places calls : List ℕ) → places ≡ [] → calls ≡ [] → AreOrdered 0 places (length calls)
no-rows places calls p q = subst (λ xs. AreOrdered 0 xs (length calls)) (sym p) (subst (λ ys. AreOrdered 0 [] (length ys)) (sym q) none_ordered)

pub returns : goal.returns
returns c = record {
  entries = record { places = c.new-4.ensures.places ∙ sym none_entered; whole = ap length c.new-4.ensures.records ∙ sym (ap length c.new-4.ensures.places) };
  tells = none_told (record_in c.new-4.result) [] refl;
  knows = λ n. c.new.ensures n ∙ sym (known_none n);
  names = λ x. c.new-2.ensures x ∙ sym (none_named x);
  asked = λ k. c.new-3.ensures k ∙ sym (none_asked k);
  receipts = no-rows c.new-5.result.places.items c.new-5.result.calls.items c.new-5.ensures.places c.new-5.ensures.calls;
  received = none_received (call_in c.new-5.result) [] refl;
  answers = no-rows c.new-6.result.places.items c.new-6.result.calls.items c.new-6.ensures.places c.new-6.ensures.calls;
  answered = none_installed (call_in c.new-6.result) [] refl;
  number = none_number c.new-6.result.places.items c.new-6.ensures.places;
}
