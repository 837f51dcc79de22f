-- How many walks there are, and which of them have all their delays.
-- By induction on the steps that are left, and on the places of those that are able to step.
use Rattle.std.proofs.Common.{◌≡◌, ℕ, zero, suc, ◌+◌, ◌-◌, ◌<◌, ◌^◌, List, [], ◌∷◌, ◌++◌, length, map, filter, refl, sym, ◌∙◌, arith, append-nil}
use Rattle.std.proofs.lemmas.List.{length-map}
use Rattle.std.proofs.lemmas.List.Elements.{filter-append}
use Rattle.hist_model.specs.Legal.{started}
use Rattle.hist_model.specs.declared.event.Event.{Event}
use Rattle.hist_model.specs.declared.policy.Policy.{Policy}
use Rattle.hist_model.specs.declared.script.Script.{Script}
use Rattle.delay_bounded.specs.Circle.{able, with_turn}
use Rattle.delay_bounded.specs.Explored.{Walk, by_delays, closed, explored, is_spent, later, most_events, or_over, walks, walks_on, with_delays}

-- ---- Without delays

one_choice : (f : ℕ → ℕ → List Walk) (K : List Event) → ((q : ℕ) → (H : List Event) × (f q 0 ≡ record { left = 0; events = H } ∷ []))
    → (ps : List ℕ) → (H : List Event) × (or_over ps (record { left = 0; events = K }) (by_delays f ps 0) ≡ record { left = 0; events = H } ∷ [])
one_choice f K h [] = (K, refl)
one_choice f K h (p ∷ more) = h p

-- there is one walk, which has them all
pub one_walk : (P : Policy) (S : Script) (W n : ℕ) (K : List Event) (p : ℕ) → (H : List Event) × (walks P S W n K p 0 ≡ record { left = 0; events = H } ∷ [])
unfolding walks
one_walk P S W zero K p = (K, refl)
one_walk P S W (suc n) K p = one_choice (λ q r. walks P S W n (with_turn P S K q) q r) K (λ q. one_walk P S W n (with_turn P S K q) q) (able P S W K p)

one_of : (P : Policy) (S : Script) (W n : ℕ) (K : List Event) → ((H : List Event) × (walks P S W n K 0 0 ≡ record { left = 0; events = H } ∷ []))
    → length (filter is_spent (walks P S W n K 0 0)) ≡ 1
one_of P S W n K (H, e) = rw e refl

-- and one history
pub one_history : (P : Policy) (S : Script) (W : ℕ) → length (explored P S W 0) ≡ 1
unfolding explored with_delays
one_history P S W = length-map _ _ ∙ one_of P S W (most_events - 1) (started S) (one_walk P S W (most_events - 1) (started S) 0)

-- ---- The first turn, and those after it

pub first_turn : (f : ℕ → ℕ → List Walk) (p : ℕ) (more : List ℕ) (d : ℕ) → by_delays f (p ∷ more) d ≡ f p d ++ later f more d
first_turn f p more zero = sym (append-nil (f p zero))
first_turn f p more (suc d) = refl

-- a history that can be counted goes on as its turns say
pub walks_step : (P : Policy) (S : Script) (W : ℕ) (K : List Event) (p d : ℕ) → length K < 2 ^ 64
    → walks_on P S W K p d ≡ or_over (able P S W K p) (record { left = d; events = K }) (by_delays (λ q r. walks_on P S W (with_turn P S K q) q r) (able P S W K p) d)
unfolding walks
walks_step P S W K p d few = let more : most_events - length K ≡ suc (most_events - suc (length K)) = omega arith in rw more refl

-- ---- Where no history has so many delays, none has more

none_here : (xs ys : List Walk) → xs ++ ys ≡ [] → (xs ≡ []) × (ys ≡ [])
none_here [] ys e = (refl, e)
none_here (x ∷ xs) ys e = cc

none_both : (f g : List Walk) → filter is_spent (f ++ g) ≡ [] → (filter is_spent f ≡ []) × (filter is_spent g ≡ [])
none_both f g e = none_here (filter is_spent f) (filter is_spent g) (rw filter-append at e)

both_none : (f g : List Walk) → filter is_spent f ≡ [] → filter is_spent g ≡ [] → filter is_spent (f ++ g) ≡ []
both_none f g a b = rw (filter-append is_spent f g, a, b) refl

module _ (f : ℕ → ℕ → List Walk) (up : (q d : ℕ) → filter is_spent (f q d) ≡ [] → filter is_spent (f q (suc d)) ≡ []) (some : (q : ℕ) → filter is_spent (f q 0) ≡ [] → ⊥) where
  none_by_delays : (ps : List ℕ) (d : ℕ) → filter is_spent (by_delays f ps d) ≡ [] → filter is_spent (by_delays f ps (suc d)) ≡ []
  none_by_delays [] d e = refl
  none_by_delays (p ∷ more) zero e = absurd (some p e)
  none_by_delays (p ∷ more) (suc d) e =
      let parts = none_both (f p (suc d)) (by_delays f more d) e in
      both_none (f p (suc (suc d))) (by_delays f more (suc d)) (up p (suc d) parts.0) (none_by_delays more d parts.1)

  none_choice : (K : List Event) (ps : List ℕ) (d : ℕ) → filter is_spent (or_over ps (record { left = d; events = K }) (by_delays f ps d)) ≡ []
      → filter is_spent (or_over ps (record { left = suc d; events = K }) (by_delays f ps (suc d))) ≡ []
  none_choice K [] d e = refl
  none_choice K (p ∷ more) d e = none_by_delays (p ∷ more) d e

some_walk : (P : Policy) (S : Script) (W n : ℕ) (K : List Event) (p : ℕ) → ((H : List Event) × (walks P S W n K p 0 ≡ record { left = 0; events = H } ∷ [])) → filter is_spent (walks P S W n K p 0) ≡ [] → ⊥
some_walk P S W n K p (H, is) e = let both : filter is_spent (record { left = 0; events = H } ∷ []) ≡ [] = rw is at e in cc

pub none_later : (P : Policy) (S : Script) (W n : ℕ) (K : List Event) (p d : ℕ) → filter is_spent (walks P S W n K p d) ≡ [] → filter is_spent (walks P S W n K p (suc d)) ≡ []
unfolding walks
none_later P S W zero K p zero e = cc
none_later P S W zero K p (suc d) e = refl
none_later P S W (suc n) K p d e =
    none_choice (λ q r. walks P S W n (with_turn P S K q) q r) (λ q. none_later P S W n (with_turn P S K q) q) (λ q. some_walk P S W n (with_turn P S K q) q (one_walk P S W n (with_turn P S K q) q)) K (able P S W K p) d e

none_mapped : (f : Walk → List Event) (ws : List Walk) → map f ws ≡ [] → ws ≡ []
none_mapped f [] e = refl
none_mapped f (w ∷ ws) e = cc

none_of : (P : Policy) (S : Script) (W n : ℕ) (K : List Event) (d : ℕ) (f : Walk → List Event) → map f (filter is_spent (walks P S W n K 0 d)) ≡ [] → map f (filter is_spent (walks P S W n K 0 (suc d))) ≡ []
none_of P S W n K d f e = rw (none_later P S W n K 0 d (none_mapped f (filter is_spent (walks P S W n K 0 d)) e)) refl

-- no history has more delays
pub none_with_more : (P : Policy) (S : Script) (W d : ℕ) → with_delays P S W d ≡ [] → with_delays P S W (suc d) ≡ []
unfolding with_delays
none_with_more P S W d e = none_of P S W (most_events - 1) (started S) d (closed P S) e

none_with_any : (P : Policy) (S : Script) (W d k : ℕ) → with_delays P S W (suc d) ≡ [] → with_delays P S W (suc (d + k)) ≡ []
none_with_any P S W d zero e = let same : d + 0 ≡ d = omega arith in rw same e
none_with_any P S W d (suc k) e = let same : d + suc k ≡ suc (d + k) = omega arith in rw same (none_with_more P S W (suc (d + k)) (none_with_any P S W d k e))

-- so nothing is added
pub nothing_added : (P : Policy) (S : Script) (W d k : ℕ) → with_delays P S W (suc d) ≡ [] → explored P S W (d + k) ≡ explored P S W d
unfolding explored
nothing_added P S W d zero e = let same : d + 0 ≡ d = omega arith in rw same refl
nothing_added P S W d (suc k) e =
    let same : d + suc k ≡ suc (d + k) = omega arith in
    rw (same, none_with_any P S W d k e, append-nil) (nothing_added P S W d k e)
