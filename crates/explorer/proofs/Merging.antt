-- The outcomes of two lists of histories, one behind the other: those of the second are added to those of the first.
-- By induction on the outcomes: a history more of the second list is one more of both.
use Rattle.std.proofs.Common.{◌≡◌, ℕ, ◌+◌, Bool, true, false, ◌||◌, bytes_eq, List, [], ◌∷◌, ◌++◌, refl, sym, ◌∙◌, ap, arith}
use Rattle.hist_model.proofs.Look.{name_eq-true}
use Rattle.hist_model.specs.ReportAudit.{Judging}
use Rattle.hist_model.specs.declared.event.Event.{Event}
use Rattle.hist_model.specs.declared.script.Script.{Script}
use Rattle.explorer.specs.Tallies.{CountedOutcome, added, merged, of_one, outcomes, tallied, with_more}

-- an outcome with this text is among them
abbrev is_known : List ℕ → List CountedOutcome → Bool
is_known t [] = false
is_known t (p ∷ T) = bytes_eq p.text t || is_known t T

-- ---- Adding twice

module _ (h o : CountedOutcome) where
  both : (p : CountedOutcome) (X : List CountedOutcome) (a b : Bool) → bytes_eq p.text h.text ≡ a → bytes_eq p.text o.text ≡ b → (is_known h.text X ≡ true → added h (added o X) ≡ added o (added h X)) → is_known h.text (p ∷ X) ≡ true
      → added h (added o (p ∷ X)) ≡ added o (added h (p ∷ X))
  both p X true true e f before known =
      let same : p.histories + o.histories + h.histories ≡ p.histories + h.histories + o.histories = omega arith in
      rw (e, f, e, same) refl
  both p X true false e f before known = rw (e, f, e) refl
  both p X false true e f before known = rw (e, f, e) refl
  both p X false false e f before known = let there : is_known h.text X ≡ true = rw e at known in rw (e, f, e, before there) refl

  -- the order of two doesn't show, where the first one is known
  swapped : (X : List CountedOutcome) → is_known h.text X ≡ true → added h (added o X) ≡ added o (added h X)
  swapped [] known = cc
  swapped (p ∷ X) known = both p X (bytes_eq p.text h.text) (bytes_eq p.text o.text) refl refl (swapped X) known

still : (t : List ℕ) (o p : CountedOutcome) (X : List CountedOutcome) (b : Bool) → bytes_eq p.text o.text ≡ b → (is_known t X ≡ true → is_known t (added o X) ≡ true) → is_known t (p ∷ X) ≡ true → is_known t (added o (p ∷ X)) ≡ true
still t o p X true e before known = rw e known
still t o p X false e before known = rw e (by (bytes_eq p.text t) known)
  where
    by : (b : Bool) → (b || is_known t X) ≡ true → (b || is_known t (added o X)) ≡ true
    by true k = refl
    by false k = before k

still_known : (t : List ℕ) (o : CountedOutcome) (X : List CountedOutcome) → is_known t X ≡ true → is_known t (added o X) ≡ true
still_known t o [] known = cc
still_known t o (p ∷ X) known = still t o p X (bytes_eq p.text o.text) refl (still_known t o X) known

-- ---- Outcomes behind others

absorbed : (h : CountedOutcome) (U X : List CountedOutcome) → is_known h.text X ≡ true → added h (merged X U) ≡ merged (added h X) U
unfolding merged
absorbed h [] X known = refl
absorbed h (o ∷ U) X known = absorbed h U (added o X) (still_known h.text o X known) ∙ ap (λ (Y : List CountedOutcome). merged Y U) (swapped h o X known)

-- of one text
module _ (h o : CountedOutcome) (same : h.text ≡ o.text) where
  twice_by : (p : CountedOutcome) (T : List CountedOutcome) (b : Bool) → bytes_eq p.text o.text ≡ b → added h (added o T) ≡ added (with_more o h.histories) T → added h (added o (p ∷ T)) ≡ added (with_more o h.histories) (p ∷ T)
  twice_by p T true e before =
      let too : bytes_eq p.text h.text ≡ true = ap (bytes_eq p.text) same ∙ e in
      let sum : p.histories + o.histories + h.histories ≡ p.histories + (o.histories + h.histories) = omega arith in
      rw (e, too, sum) refl
  twice_by p T false e before =
      let too : bytes_eq p.text h.text ≡ false = ap (bytes_eq p.text) same ∙ e in
      rw (e, too, before) refl

  twice : bytes_eq o.text h.text ≡ true → (T : List CountedOutcome) → added h (added o T) ≡ added (with_more o h.histories) T
  twice e [] = rw e refl
  twice e (p ∷ T) = twice_by p T (bytes_eq p.text o.text) refl (twice e T)

  known_then : bytes_eq o.text h.text ≡ true → (T : List CountedOutcome) → is_known h.text (added o T) ≡ true
  known_then e [] = rw e refl
  known_then e (p ∷ T) = by (bytes_eq p.text o.text) refl (known_then e T)
    where
      by : (b : Bool) → bytes_eq p.text o.text ≡ b → is_known h.text (added o T) ≡ true → is_known h.text (added o (p ∷ T)) ≡ true
      by true f k = let too : bytes_eq p.text h.text ≡ true = ap (bytes_eq p.text) same ∙ f in rw (f, too) refl
      by false f k = let too : bytes_eq p.text h.text ≡ false = ap (bytes_eq p.text) same ∙ f in rw (f, too) k

behind_by : (h o : CountedOutcome) (U T : List CountedOutcome) (b : Bool) → bytes_eq o.text h.text ≡ b → ((T : List CountedOutcome) → added h (merged T U) ≡ merged T (added h U)) → added h (merged T (o ∷ U)) ≡ merged T (added h (o ∷ U))
unfolding merged
behind_by h o U T true e before =
    let same : h.text ≡ o.text = sym (name_eq-true o.text h.text e) in
    rw e (absorbed h U (added o T) (known_then h o same e T) ∙ ap (λ (Y : List CountedOutcome). merged Y U) (twice h o same e T))
behind_by h o U T false e before = rw e (before (added o T))

behind : (h : CountedOutcome) (U T : List CountedOutcome) → added h (merged T U) ≡ merged T (added h U)
unfolding merged
behind h [] T = refl
behind h (o ∷ U) T = behind_by h o U T (bytes_eq o.text h.text) refl (behind h U)

-- ---- Histories behind others

tallied_behind : (S : Script) (J : Judging) (T U : List CountedOutcome) (M : List (List Event)) → tallied S J (merged T U) M ≡ merged T (tallied S J U M)
unfolding tallied
tallied_behind S J T U [] = refl
tallied_behind S J T U (H ∷ M) = ap (λ (Y : List CountedOutcome). tallied S J Y M) (behind (of_one S J H) U T) ∙ tallied_behind S J T (added (of_one S J H) U) M

tallied_both : (S : Script) (J : Judging) (T : List CountedOutcome) (L M : List (List Event)) → tallied S J T (L ++ M) ≡ tallied S J (tallied S J T L) M
unfolding tallied
tallied_both S J T [] M = refl
tallied_both S J T (H ∷ L) M = tallied_both S J (added (of_one S J H) T) L M

pub outcomes_both : (S : Script) (J : Judging) (L M : List (List Event)) → outcomes S J (L ++ M) ≡ merged (outcomes S J L) (outcomes S J M)
unfolding merged
outcomes_both S J L M = tallied_both S J [] L M ∙ tallied_behind S J (outcomes S J L) [] M

-- a history behind others
pub outcomes_more : (S : Script) (J : Judging) (L : List (List Event)) (H : List Event) → outcomes S J (L ++ H ∷ []) ≡ added (of_one S J H) (outcomes S J L)
unfolding tallied
outcomes_more S J L H = tallied_both S J [] L (H ∷ [])

-- outcomes behind others, one after another
pub merged_more : (T U : List CountedOutcome) (o : CountedOutcome) → merged T (U ++ o ∷ []) ≡ added o (merged T U)
unfolding merged
merged_more T [] o = refl
merged_more T (p ∷ U) o = merged_more (added p T) U o

pub merged_none : (T : List CountedOutcome) → merged T [] ≡ T
unfolding merged
merged_none T = refl
