-- What one history more, or those of another list, change of what is told.
-- By induction on the first list.
use Rattle.std.proofs.Common.{◌≡◌, ◌+◌, ◌<◌, ◌≤◌, List, [], ◌∷◌, ◌++◌, length, max, refl, ap, ◌∙◌, arith, length-append}
use Rattle.std.proofs.lemmas.List.Sums.{sum_by-append}
use Rattle.hist_model.specs.ReportAudit.{judging_by}
use Rattle.hist_model.specs.declared.event.Event.{Event}
use Rattle.hist_model.specs.declared.policy.Policy.{Policy}
use Rattle.hist_model.specs.declared.script.Script.{Script}
use Rattle.explorer.specs.Taken.{all_events, longest}
use Rattle.explorer.specs.Tallies.{added, counted, merged, of_one}
use Rattle.explorer.specs.Telling.{TellsOf}
use Rattle.explorer.specs.declared.tally.Tally.{Tally}
use Rattle.explorer.proofs.Counts.{counted_outcomes}
use Rattle.explorer.proofs.Merging.{outcomes_both, outcomes_more}

pub longest_of_both : (L M : List (List Event)) → longest (L ++ M) ≡ max (longest L) (longest M)
longest_of_both [] M = omega arith
longest_of_both (H ∷ L) M = omega (arith, longest_of_both L M)

pub events_of_both : (L M : List (List Event)) → all_events (L ++ M) ≡ all_events L + all_events M
events_of_both L M = sum_by-append (λ (H : List Event). length H) L M

module _ (P : Policy) (S : Script) (old new : Tally) where
  pub both_told : (L M : List (List Event)) (more : Tally) → TellsOf P S L old → TellsOf P S M more
      → new.histories ≡ old.histories + more.histories → new.events ≡ old.events + more.events → new.longest ≡ max old.longest more.longest → new.outcomes.items ≡ merged old.outcomes.items more.outcomes.items → TellsOf P S (L ++ M) new
  both_told L M more t u number events long found = record {
    histories = omega (arith, number, t.histories, u.histories, length-append L M);
    events = omega (arith, events, t.events, u.events, events_of_both L M);
    longest_is = omega (arith, long, t.longest_is, u.longest_is, longest_of_both L M);
    each_has_events = omega (arith, number, events, t.each_has_events, u.each_has_events);
    outcomes_are = found ∙ rw (t.outcomes_are, u.outcomes_are, outcomes_both S (judging_by P.rules) L M) refl;
  }

  pub one_told : (L : List (List Event)) (H : List Event) → 0 < length H → TellsOf P S L old → new.histories ≡ old.histories + 1 → new.events ≡ old.events + length H → new.longest ≡ max old.longest (length H) → new.outcomes.items ≡ added (of_one S (judging_by P.rules) H) old.outcomes.items → TellsOf P S (L ++ H ∷ []) new
  one_told L H b t number events long found = record {
    histories = omega (arith, number, t.histories, length-append L (H ∷ []));
    events = omega (arith, events, t.events, events_of_both L (H ∷ []));
    longest_is = omega (arith, long, t.longest_is, longest_of_both L (H ∷ []));
    each_has_events = omega (arith, number, events, t.each_has_events);
    outcomes_are = found ∙ rw (t.outcomes_are, outcomes_more S (judging_by P.rules) L H) refl;
  }

-- the outcomes have no more histories than there are events
pub few_counted : (P : Policy) (S : Script) (L : List (List Event)) (t : Tally) → TellsOf P S L t → counted t.outcomes.items ≤ t.events
few_counted P S L t told = omega (arith, ap counted told.outcomes_are, counted_outcomes S (judging_by P.rules) L, told.histories, told.each_has_events)
