-- The outcome with a text is that of the histories that come to it.
-- By induction on the histories: one more is one more of the outcome with its text, and changes no other.
use Rattle.std.proofs.Common.{◌≡◌, ℕ, ◌+◌, Bool, true, false, bytes_eq, List, [], ◌∷◌, length, Option, Some, None, refl, subst, ap, ◌∙◌, arith}
use Rattle.std.specs.List.{find}
use Rattle.hist_model.proofs.Look.{name_eq-refl, name_eq-true}
use Rattle.hist_model.specs.ReportAudit.{Judging}
use Rattle.hist_model.specs.declared.event.Event.{Event}
use Rattle.hist_model.specs.declared.script.Script.{Script}
use Rattle.outcome_text.specs.Outcomes.{result_of}
use Rattle.explorer.specs.Laws.{coming_to, outcome_with}
use Rattle.explorer.specs.Tallies.{CountedOutcome, added, has_text, of_one, outcomes, tallied, with_more}

-- ---- One outcome more

or_more : Option CountedOutcome → CountedOutcome → CountedOutcome
or_more None o = o
or_more (Some p) o = with_more p o.histories

same_by : (o p : CountedOutcome) (T : List CountedOutcome) (b : Bool) → bytes_eq p.text o.text ≡ b → find (has_text o.text) (added o T) ≡ Some (or_more (find (has_text o.text) T) o)
    → find (has_text o.text) (added o (p ∷ T)) ≡ Some (or_more (find (has_text o.text) (p ∷ T)) o)
unfolding or_more
same_by o p T true e before = rw (e, e) refl
same_by o p T false e before = rw (e, e) before

found_same : (o : CountedOutcome) (T : List CountedOutcome) → find (has_text o.text) (added o T) ≡ Some (or_more (find (has_text o.text) T) o)
unfolding or_more
found_same o [] = rw (name_eq-refl o.text) refl
found_same o (p ∷ T) = same_by o p T (bytes_eq p.text o.text) refl (found_same o T)

module _ (o : CountedOutcome) (text : List ℕ) (other : bytes_eq o.text text ≡ false) where
  other_by : (p : CountedOutcome) (T : List CountedOutcome) (a b : Bool) → bytes_eq p.text o.text ≡ a → bytes_eq p.text text ≡ b → find (has_text text) (added o T) ≡ find (has_text text) T
      → find (has_text text) (added o (p ∷ T)) ≡ find (has_text text) (p ∷ T)
  other_by p T true b e f before =
      let same : p.text ≡ o.text = name_eq-true p.text o.text e in
      let too : bytes_eq p.text text ≡ false = ap (λ t. bytes_eq t text) same ∙ other in
      rw (e, too) refl
  other_by p T false true e f before = rw (e, f) refl
  other_by p T false false e f before = rw (e, f) before

  found_other : (T : List CountedOutcome) → find (has_text text) (added o T) ≡ find (has_text text) T
  found_other [] = rw other refl
  found_other (p ∷ T) = other_by p T (bytes_eq p.text o.text) (bytes_eq p.text text) refl refl (found_other T)

-- ---- Histories more

-- an outcome with those that come to its text, or that of these alone
with_those : List ℕ → Option CountedOutcome → List (List Event) → Option CountedOutcome
with_those text None histories = outcome_with text histories
with_those text (Some p) histories = Some (with_more p (length histories))

no_more : (text : List ℕ) (found : Option CountedOutcome) → found ≡ with_those text found []
unfolding with_those
no_more text None = refl
no_more text (Some p) = let same : p.histories + 0 ≡ p.histories = omega arith in rw same refl

one_coming : (S : Script) (J : Judging) (H : List Event) (found : Option CountedOutcome) (more : List (List Event)) → with_those (result_of S J H) (Some (or_more found (of_one S J H))) more ≡ with_those (result_of S J H) found (H ∷ more)
unfolding with_those or_more
one_coming S J H None more = let sum : 1 + length more ≡ length (H ∷ more) = omega arith in rw sum refl
one_coming S J H (Some p) more = let sum : p.histories + 1 + length more ≡ p.histories + length (H ∷ more) = omega arith in rw sum refl

module _ (S : Script) (J : Judging) (text : List ℕ) where
  found_by : (T : List CountedOutcome) (H : List Event) (L : List (List Event)) (b : Bool) → bytes_eq (result_of S J H) text ≡ b
      → ((T : List CountedOutcome) → find (has_text text) (tallied S J T L) ≡ with_those text (find (has_text text) T) (coming_to S J text L))
      → find (has_text text) (tallied S J T (H ∷ L)) ≡ with_those text (find (has_text text) T) (coming_to S J text (H ∷ L))
  unfolding tallied
  found_by T H L true e before =
      let same : result_of S J H ≡ text = name_eq-true (result_of S J H) text e in
      let here : find (has_text text) (added (of_one S J H) T) ≡ Some (or_more (find (has_text text) T) (of_one S J H)) = subst (λ t. find (has_text t) (added (of_one S J H) T) ≡ Some (or_more (find (has_text t) T) (of_one S J H))) same (found_same (of_one S J H) T) in
      let one : with_those text (Some (or_more (find (has_text text) T) (of_one S J H))) (coming_to S J text L) ≡ with_those text (find (has_text text) T) (H ∷ coming_to S J text L) =
      subst (λ t. with_those t (Some (or_more (find (has_text text) T) (of_one S J H))) (coming_to S J text L) ≡ with_those t (find (has_text text) T) (H ∷ coming_to S J text L)) same (one_coming S J H (find (has_text text) T) (coming_to S J text L)) in
      rw e (before (added (of_one S J H) T) ∙ (ap (λ o. with_those text o (coming_to S J text L)) here ∙ one))
  found_by T H L false e before = rw e (before (added (of_one S J H) T) ∙ ap (λ o. with_those text o (coming_to S J text L)) (found_other (of_one S J H) text e T))

  found : (T : List CountedOutcome) (L : List (List Event)) → find (has_text text) (tallied S J T L) ≡ with_those text (find (has_text text) T) (coming_to S J text L)
  unfolding tallied
  found T [] = no_more text (find (has_text text) T)
  found T (H ∷ L) = found_by T H L (bytes_eq (result_of S J H) text) refl (λ T. found T L)

pub finds_each : (S : Script) (J : Judging) (histories : List (List Event)) (text : List ℕ) → find (has_text text) (outcomes S J histories) ≡ outcome_with text (coming_to S J text histories)
unfolding with_those
finds_each S J histories text = found S J text [] histories
