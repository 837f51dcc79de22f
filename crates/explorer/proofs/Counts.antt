-- Where an outcome is added to others: at the first with its text, or behind them; and how many histories they have then.
-- By induction on the outcomes.
use Rattle.std.proofs.Common.{◌≡◌, ℕ, zero, suc, ◌+◌, ◌<◌, ◌≤◌, Bool, true, false, bytes_eq, nat_lt, if◌then◌else◌, List, [], ◌∷◌, ◌++◌, length, get_or, set, take, Some, None, refl, ap, ◌∙◌, arith}
use Rattle.std.specs.List.{position, position_or_len}
use Rattle.std.proofs.lemmas.Bool.{ltb-false}
use Rattle.std.proofs.lemmas.List.Quantifiers.{position-Some}
use Rattle.std.proofs.lemmas.List.Sums.{fails_before_first, sum_by-cons, sum_by-take-le, sum_by_push}
use Rattle.std.proofs.lemmas.List.{take_more}
use Rattle.hist_model.specs.ReportAudit.{Judging}
use Rattle.hist_model.specs.declared.event.Event.{Event}
use Rattle.hist_model.specs.declared.script.Script.{Script}
use Rattle.explorer.specs.Tallies.{CountedOutcome, added, counted, has_text, merged, of_one, outcomes, tallied, with_more}

-- ---- Where it stands

module _ (o d : CountedOutcome) where
  at_place : (T : List CountedOutcome) (i : ℕ) → i < length T → has_text o.text (get_or T i d) ≡ true → ((k : ℕ) → k < i → has_text o.text (get_or T k d) ≡ false) → added o T ≡ set T i (with_more (get_or T i d) o.histories)
  at_place [] i l e f = absurd (omega arith)
  at_place (p ∷ T) zero l e f = rw e refl
  at_place (p ∷ T) (suc i) l e f =
      let here : has_text o.text p ≡ false = f 0 (omega arith) in
      rw here (ap (λ (X : List CountedOutcome). p ∷ X) (at_place T i (omega arith) e (λ k m. f (suc k) (omega arith))))

  pub found_at : (T : List CountedOutcome) (i : ℕ) → position (has_text o.text) T ≡ Some i → added o T ≡ set T i (with_more (get_or T i d) o.histories)
  found_at T i e =
      let (l, t, f) = position-Some (has_text o.text) T i d e in
      at_place T i l t f

  none_at : (T : List CountedOutcome) → ((k : ℕ) → k < length T → has_text o.text (get_or T k d) ≡ false) → added o T ≡ T ++ o ∷ []
  none_at [] f = refl
  none_at (p ∷ T) f =
      let here : has_text o.text p ≡ false = f 0 (omega arith) in
      rw here (ap (λ (X : List CountedOutcome). p ∷ X) (none_at T (λ k l. f (suc k) (omega arith))))

no_place : (o : CountedOutcome) (T : List CountedOutcome) (b : Bool) → nat_lt (position_or_len (has_text o.text) T) (length T) ≡ b → (if b then Some (position_or_len (has_text o.text) T) else None) ≡ None → length T ≤ position_or_len (has_text o.text) T
no_place o T true e n = cc
no_place o T false e n = ltb-false (position_or_len (has_text o.text) T) (length T) e

pub none_found : (o : CountedOutcome) (T : List CountedOutcome) → position (has_text o.text) T ≡ None → added o T ≡ T ++ o ∷ []
none_found o T n =
    let past : length T ≤ position_or_len (has_text o.text) T = no_place o T (nat_lt (position_or_len (has_text o.text) T) (length T)) refl n in
    none_at o o T (λ k l. fails_before_first (has_text o.text) T k o (omega arith))

-- ---- How many histories they have

one_more : (p : CountedOutcome) (T : List CountedOutcome) → counted (p ∷ T) ≡ p.histories + counted T
one_more p T = sum_by-cons (λ (o : CountedOutcome). o.histories) p T

counted_by : (o p : CountedOutcome) (T : List CountedOutcome) (b : Bool) → bytes_eq p.text o.text ≡ b → counted (added o T) ≡ counted T + o.histories → counted (added o (p ∷ T)) ≡ counted (p ∷ T) + o.histories
counted_by o p T true e before = rw e (omega (arith, one_more (with_more p o.histories) T, one_more p T))
counted_by o p T false e before = rw e (omega (arith, one_more p (added o T), one_more p T, before))

pub counted_added : (o : CountedOutcome) (T : List CountedOutcome) → counted (added o T) ≡ counted T + o.histories
counted_added o [] = omega (arith, one_more o [])
counted_added o (p ∷ T) = counted_by o p T (bytes_eq p.text o.text) refl (counted_added o T)

pub counted_merged : (T U : List CountedOutcome) → counted (merged T U) ≡ counted T + counted U
unfolding merged
counted_merged T [] = omega arith
counted_merged T (o ∷ U) = omega (arith, counted_merged (added o T) U, counted_added o T, one_more o U)

counted_tallied : (S : Script) (J : Judging) (T : List CountedOutcome) (L : List (List Event)) → counted (tallied S J T L) ≡ counted T + length L
unfolding tallied
counted_tallied S J T [] = omega arith
counted_tallied S J T (H ∷ L) = omega (arith, counted_tallied S J (added (of_one S J H) T) L, counted_added (of_one S J H) T)

-- as many as there are
pub counted_outcomes : (S : Script) (J : Judging) (L : List (List Event)) → counted (outcomes S J L) ≡ length L
counted_outcomes S J L = omega (arith, counted_tallied S J [] L)

-- those that were added, and the next one
pub fits : (T U all : List CountedOutcome) (o : CountedOutcome) → U ≡ take (length U) all → length U < length all → o ≡ get_or all (length U) o → counted (merged T U) + o.histories ≤ counted T + counted all
fits T U all o part l is =
    let next : counted (take (length U + 1) all) ≡ counted (take (length U) all) + (get_or all (length U) o).histories =
    ap counted (take_more all (length U) o l) ∙ sum_by_push (λ (p : CountedOutcome). p.histories) (take (length U) all) (get_or all (length U) o) in
    let same : o.histories ≡ (get_or all (length U) o).histories = ap (λ (p : CountedOutcome). p.histories) is in
    let these : counted U ≡ counted (take (length U) all) = ap counted part in
    omega (arith, counted_merged T U, next, same, these, sum_by-take-le (λ (p : CountedOutcome). p.histories) all (length U + 1))
