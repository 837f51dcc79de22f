-- The histories with so many delays, among all walks within a greater bound; and no walk has more delays left than the bound.
-- By induction on the steps that are left, and on the places of those that are able to step: with a delay more at most, each walk that
-- there was has one more left, and those that come in have none.
use Rattle.std.proofs.Common.{◌≡◌, ℕ, zero, suc, ◌+◌, ◌-◌, ◌≤◌, ◌==◌, eqb, Bool, true, false, cond, List, [], ◌∷◌, ◌++◌, length, map, filter, All, refl, sym, ◌∙◌, ap, arith, append-nil}
use Rattle.std.proofs.Math.Dec.{eqb-suc-suc, eqb-suc-zero, eqb-zero-suc}
use Rattle.std.proofs.lemmas.List.{map-append}
use Rattle.std.proofs.lemmas.List.Elements.{All-append, All-cons, All-nil, All-weaker, filter-append}
use Rattle.hist_model.specs.Legal.{started}
use Rattle.hist_model.specs.declared.event.Event.{Event}
use Rattle.hist_model.specs.declared.policy.Policy.{Policy}
use Rattle.hist_model.specs.declared.script.Script.{Script}
use Rattle.delay_bounded.specs.Circle.{able, with_turn}
use Rattle.delay_bounded.specs.Explored.{Walk, by_delays, closed, has_left, is_spent, is_zero, most_events, or_over, walks, walks_of, with_delays, with_left}
use Rattle.delay_bounded.proofs.Walks.{one_walk}

module _ (P : Policy) (S : Script) where
  pub left_append : (k : ℕ) (a b : List Walk) → with_left P S k (a ++ b) ≡ with_left P S k a ++ with_left P S k b
  left_append k a b = ap (map (closed P S)) (filter-append (has_left k) a b) ∙ map-append (closed P S) (filter (has_left k) a) (filter (has_left k) b)

  none_spare : (k : ℕ) (K : List Event) → with_left P S (suc k) (record { left = 0; events = K } ∷ []) ≡ []
  none_spare k K = rw (eqb-zero-suc k) refl

  -- what is left doesn't show in the history
  whatever_left : (b : Bool) (K : List Event) (c d : ℕ) → map (closed P S) (cond b (record { left = c; events = K } ∷ []) []) ≡ map (closed P S) (cond b (record { left = d; events = K } ∷ []) [])
  whatever_left true K c d = refl
  whatever_left false K c d = refl

  one_more : (k d : ℕ) (K : List Event) → with_left P S (suc k) (record { left = suc d; events = K } ∷ []) ≡ with_left P S k (record { left = d; events = K } ∷ [])
  one_more k d K = rw (eqb-suc-suc d k) (whatever_left (eqb d k) K (suc d) d)

  -- ---- With a delay more at most

  module _ (f : ℕ → ℕ → List Walk) (more : (q k d : ℕ) → with_left P S (suc k) (f q (suc d)) ≡ with_left P S k (f q d)) (one : (q : ℕ) → (H : List Event) × (f q 0 ≡ record { left = 0; events = H } ∷ [])) where
    all_spent : (ps : List ℕ) (k : ℕ) → with_left P S (suc k) (by_delays f ps 0) ≡ []
    all_spent [] k = refl
    all_spent (p ∷ ps) k = let (H, e) = one p in rw e (none_spare k H)

    more_by_delays : (ps : List ℕ) (k d : ℕ) → with_left P S (suc k) (by_delays f ps (suc d)) ≡ with_left P S k (by_delays f ps d)
    more_by_delays [] k d = refl
    more_by_delays (p ∷ ps) k zero = left_append (suc k) (f p 1) (by_delays f ps 0) ∙ rw (more p k 0, all_spent ps k, append-nil) refl
    more_by_delays (p ∷ ps) k (suc d) =
        left_append (suc k) (f p (suc (suc d))) (by_delays f ps (suc d)) ∙ (rw (more p k (suc d), more_by_delays ps k d) refl ∙ sym (left_append k (f p (suc d)) (by_delays f ps d)))

    more_choice : (K : List Event) (ps : List ℕ) (k d : ℕ) → with_left P S (suc k) (or_over ps (record { left = suc d; events = K }) (by_delays f ps (suc d))) ≡ with_left P S k (or_over ps (record { left = d; events = K }) (by_delays f ps d))
    more_choice K [] k d = one_more k d K
    more_choice K (p ∷ ps) k d = more_by_delays (p ∷ ps) k d

  more_left : (W n : ℕ) (K : List Event) (p k d : ℕ) → with_left P S (suc k) (walks P S W n K p (suc d)) ≡ with_left P S k (walks P S W n K p d)
  unfolding walks
  more_left W zero K p k d = one_more k d K
  more_left W (suc n) K p k d = more_choice (λ q r. walks P S W n (with_turn P S K q) q r) (λ q k d. more_left W n (with_turn P S K q) q k d) (λ q. one_walk P S W n (with_turn P S K q) q) K (able P S W K p) k d

  -- with any number more
  left_within : (W d k : ℕ) → with_left P S k (walks_of P S W (d + k)) ≡ with_left P S 0 (walks_of P S W d)
  left_within W d zero = let same : d + 0 ≡ d = omega arith in rw same refl
  left_within W d (suc k) = let same : d + suc k ≡ suc (d + k) = omega arith in rw same (more_left W (most_events - length (started S)) (started S) 0 k (d + k) ∙ left_within W d k)

  -- ---- None left

  none_left : (n : ℕ) → is_zero n ≡ (n == 0)
  none_left zero = refl
  none_left (suc n) = sym (eqb-suc-zero n)

  spent_are : (ws : List Walk) → filter is_spent ws ≡ filter (has_left 0) ws
  spent_are [] = refl
  spent_are (w ∷ ws) = rw (none_left w.left, spent_are ws) refl

-- the histories with so many delays are the walks with the rest left
pub within_more : (P : Policy) (S : Script) (W d k : ℕ) → with_delays P S W d ≡ with_left P S k (walks_of P S W (d + k))
unfolding with_delays
within_more P S W d k = ap (map (closed P S)) (spent_are P S (walks_of P S W d)) ∙ sym (left_within P S W d k)

-- ---- What is left at most

abbrev IsWithin : ℕ → Walk → Type 0
IsWithin d w = w.left ≤ d

fewer : (d : ℕ) (ws : List Walk) → All (IsWithin d) ws → All (IsWithin (suc d)) ws
fewer d ws h = All-weaker (IsWithin d) (IsWithin (suc d)) (λ w l. omega arith) ws h

module _ (f : ℕ → ℕ → List Walk) (each : (q d : ℕ) → All (IsWithin d) (f q d)) where
  within_by_delays : (ps : List ℕ) (d : ℕ) → All (IsWithin d) (by_delays f ps d)
  within_by_delays [] d = All-nil (IsWithin d)
  within_by_delays (p ∷ ps) zero = each p zero
  within_by_delays (p ∷ ps) (suc d) = All-append (IsWithin (suc d)) (f p (suc d)) (by_delays f ps d) (each p (suc d)) (fewer d (by_delays f ps d) (within_by_delays ps d))

  within_choice : (K : List Event) (ps : List ℕ) (d : ℕ) → All (IsWithin d) (or_over ps (record { left = d; events = K }) (by_delays f ps d))
  within_choice K [] d = All-cons (IsWithin d) (record { left = d; events = K }) [] (omega arith) (All-nil (IsWithin d))
  within_choice K (p ∷ ps) d = within_by_delays (p ∷ ps) d

pub all_within : (P : Policy) (S : Script) (W n : ℕ) (K : List Event) (p d : ℕ) → All (IsWithin d) (walks P S W n K p d)
unfolding walks
all_within P S W zero K p d = All-cons (IsWithin d) (record { left = d; events = K }) [] (omega arith) (All-nil (IsWithin d))
all_within P S W (suc n) K p d = within_choice (λ q r. walks P S W n (with_turn P S K q) q r) (λ q r. all_within P S W n (with_turn P S K q) q r) K (able P S W K p) d
