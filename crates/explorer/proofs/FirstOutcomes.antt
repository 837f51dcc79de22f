-- The outcomes of some histories: that of the first of them, with all that come to its text, and then those of the others.
-- By induction on the histories.
use Rattle.std.proofs.Common.{◌≡◌, ℕ, ◌+◌, Bool, true, false, bytes_eq, not, List, [], ◌∷◌, refl, sym, ap, ap₂, ◌∙◌, arith}
use Rattle.std.specs.Prelude.{count_by, filter, if◌then◌else◌}
use Rattle.std.proofs.lemmas.List.Sums.{sum_by-cons}
use Rattle.hist_model.specs.ReportAudit.{Judging}
use Rattle.hist_model.specs.declared.event.Event.{Event}
use Rattle.hist_model.specs.declared.script.Script.{Script}
use Rattle.outcome_text.specs.Outcomes.{result_of}
use Rattle.explorer.specs.Tallies.{CountedOutcome, added, of_one, outcomes, playing, tallied, with_more}

module _ (S : Script) (J : Judging) where
  -- the history comes to this text
  abbrev pub comes : List ℕ → List Event → Bool
  comes text H = bytes_eq text (result_of S J H)

  abbrev pub others : List ℕ → List (List Event) → List (List Event)
  others text hs = filter (λ H. not (comes text H)) hs

  -- an outcome with so many histories
  abbrev counted : CountedOutcome → ℕ → CountedOutcome
  counted o x = record { text = o.text; histories = x; schedule = o.schedule }

  no_more : (o : CountedOutcome) → with_more o 0 ≡ o
  no_more o = let n : o.histories + 0 ≡ o.histories = omega arith in ap (counted o) n

  count_one : (text : List ℕ) (H : List Event) (hs : List (List Event)) → count_by (comes text) (H ∷ hs) ≡ (if comes text H then 1 else 0) + count_by (comes text) hs
  count_one text H hs = sum_by-cons (λ K. if comes text K then 1 else 0) H hs

  -- those that come to the text of the first outcome are counted there, and the others go on behind it
  pub first_tallied : (o : CountedOutcome) (found : List CountedOutcome) (hs : List (List Event))
      → tallied S J (o ∷ found) hs ≡ with_more o (count_by (comes o.text) hs) ∷ tallied S J found (others o.text hs)
  unfolding tallied
  first_tallied o found [] = ap (λ (p : CountedOutcome). p ∷ found) (sym (no_more o))
  first_tallied o found (H ∷ hs) = by (λ p more. first_tallied p more hs) (comes o.text H) refl
    where
      by : ((p : CountedOutcome) (more : List CountedOutcome) → tallied S J (p ∷ more) hs ≡ with_more p (count_by (comes p.text) hs) ∷ tallied S J more (others p.text hs))
          → (b : Bool) → comes o.text H ≡ b → tallied S J (o ∷ found) (H ∷ hs) ≡ with_more o (count_by (comes o.text) (H ∷ hs)) ∷ tallied S J found (others o.text (H ∷ hs))
      by ih true e =
          let c : count_by (comes o.text) (H ∷ hs) ≡ 1 + count_by (comes o.text) hs = count_one o.text H hs ∙ rw e refl in
          let n : o.histories + 1 + count_by (comes o.text) hs ≡ o.histories + count_by (comes o.text) (H ∷ hs) = omega (arith, c) in
          let here : added (of_one S J H) (o ∷ found) ≡ with_more o 1 ∷ found = rw e refl in
          let behind : others o.text (H ∷ hs) ≡ others o.text hs = rw e refl in
          ap (λ (T : List CountedOutcome). tallied S J T hs) here
          ∙ (ih (with_more o 1) found ∙ ap₂ (λ (x : ℕ) (rest : List (List Event)). counted o x ∷ tallied S J found rest) n (sym behind))
      by ih false e =
          let c : count_by (comes o.text) (H ∷ hs) ≡ 0 + count_by (comes o.text) hs = count_one o.text H hs ∙ rw e refl in
          let n : o.histories + count_by (comes o.text) hs ≡ o.histories + count_by (comes o.text) (H ∷ hs) = omega (arith, c) in
          let here : added (of_one S J H) (o ∷ found) ≡ o ∷ added (of_one S J H) found = rw e refl in
          let behind : others o.text (H ∷ hs) ≡ H ∷ others o.text hs = rw e refl in
          ap (λ (T : List CountedOutcome). tallied S J T hs) here
          ∙ (ih o (added (of_one S J H) found) ∙ ap₂ (λ (x : ℕ) (rest : List (List Event)). counted o x ∷ tallied S J found rest) n (sym behind))

  pub first_outcome : (H : List Event) (hs : List (List Event)) → outcomes S J (H ∷ hs)
      ≡ record { text = result_of S J H; histories = 1 + count_by (comes (result_of S J H)) hs; schedule = playing H } ∷ outcomes S J (others (result_of S J H) hs)
  unfolding tallied
  first_outcome H hs = first_tallied (of_one S J H) [] hs
