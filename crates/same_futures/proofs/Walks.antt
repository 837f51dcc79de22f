-- The walks on from two histories after which all goes on alike are alike, one by one.
-- By induction on the steps that are left: the same places are able, and each turn leaves the histories the same.
use Rattle.std.proofs.Common.{◌≡◌, ℕ, zero, suc, ◌-◌, ◌<◌, ◌≤◌, true, List, [], ◌∷◌, ◌++◌, All, length, map, refl, sym, ap₂, subst, arith}
use Rattle.std.proofs.lemmas.List.Elements.{All-head, All-tail}
use Rattle.hist_model.specs.declared.event.Event.{Event}
use Rattle.hist_model.specs.declared.policy.Policy.{Policy}
use Rattle.hist_model.specs.declared.script.Script.{Script}
use Rattle.delay_bounded.specs.Circle.{able, at_place, is_able, places, with_turn}
use Rattle.delay_bounded.specs.Explored.{Walk, by_delays, most_events, or_over, walks, walks_on}
use Rattle.delay_bounded.specs.Laws.{IsWalked}
use Rattle.delay_bounded.proofs.LegalWalks.{able_able, able_inside, walked_on}
use Rattle.listener.specs.State as call_state
use Rattle.tasks.specs.State.{State, after}
use Rattle.same_futures.specs.Same.{Same}
use Rattle.same_futures.specs.Places.{turn_of}
use Rattle.same_futures.specs.Turns.{IsTurn}
use Rattle.same_futures.specs.Walks.{AreAlike, IsAlike, OneByOne, WalkAlike, left_of, length_of}
use Rattle.same_futures.proofs.Circles.{able-alike, turn-alike}
use Rattle.same_futures.proofs.Taken.{takes-turn}

append-alike : (R : Walk → Walk → Type 0) (a b c d : List Walk) → OneByOne R a b → OneByOne R c d → OneByOne R (a ++ c) (b ++ d)
append-alike R [] [] c d s t = t
append-alike R (v ∷ vs) (w ∷ ws) c d s t = (s.0, append-alike R vs ws c d s.1 t)
append-alike R [] (w ∷ ws) c d s t = absurd s
append-alike R (v ∷ vs) [] c d s t = absurd s

-- a walked history has begun
pub begun : (P : Policy) (S : Script) (W : ℕ) (K : List Event) → IsWalked P S W K → 0 < length K
begun P S W [] k = absurd k.goes_on.unclosed
begun P S W (e ∷ K) k = omega arith

-- what is so of two histories after which all goes on alike, and stays so by each turn, is so where the walks on from them end
module _ (P : Policy) (S : Script) (W : ℕ) (I : List Event → List Event → Type 0)
    (kept : (ts : State) (cs : call_state.State) (K L : List Event) → Same S ts cs K L → I K L → (q : ℕ) → IsTurn S K (turn_of P S K q) → I (with_turn P S K q) (with_turn P S L q)) where
  -- the walks end alike, and it is so of their events
  abbrev pub EndsSo : Walk → Walk → Type 0
  EndsSo v w = IsAlike S v w × I v.events w.events

  module _ (K : List Event) (f g : ℕ → ℕ → List Walk)
      (goes : (q r : ℕ) → q < places W K → is_able P S K (at_place K q) ≡ true → OneByOne EndsSo (f q r) (g q r)) where
    each : (qs : List ℕ) (d : ℕ) → All (λ q. q < places W K) qs → All (λ q. is_able P S K (at_place K q) ≡ true) qs → OneByOne EndsSo (by_delays f qs d) (by_delays g qs d)
    each [] d i a = tt
    each (q ∷ more) zero i a = goes q zero (All-head (λ q. q < places W K) q more i) (All-head (λ q. is_able P S K (at_place K q) ≡ true) q more a)
    each (q ∷ more) (suc d) i a = append-alike EndsSo (f q (suc d)) (g q (suc d)) (by_delays f more d) (by_delays g more d)
        (goes q (suc d) (All-head (λ q. q < places W K) q more i) (All-head (λ q. is_able P S K (at_place K q) ≡ true) q more a))
        (each more d (All-tail (λ q. q < places W K) q more i) (All-tail (λ q. is_able P S K (at_place K q) ≡ true) q more a))

  module _ (ts : State) (cs : call_state.State) (K L : List Event) (same : Same S ts cs K L) (so : I K L) (d : ℕ) where
    over : EndsSo (record { left = d; events = K }) (record { left = d; events = L })
    over = (record { left_is = refl; tasks = ts; calls = cs; same = same }, so)

    over-or : (qs : List ℕ) (a b : List Walk) → OneByOne EndsSo a b → OneByOne EndsSo (or_over qs (record { left = d; events = K }) a) (or_over qs (record { left = d; events = L }) b)
    over-or [] a b s = (over, tt)
    over-or (q ∷ qs) a b s = s

  walks-so : W ≤ 16 → (n : ℕ) (ts : State) (cs : call_state.State) (K L : List Event) (p d : ℕ) → n ≤ most_events - length K → IsWalked P S W K → Same S ts cs K L → I K L
      → OneByOne EndsSo (walks P S W n K p d) (walks P S W n L p d)
  unfolding walks
  walks-so limit zero ts cs K L p d few k same so = (over ts cs K L same so d, tt)
  walks-so limit (suc n) ts cs K L p d few k same so =
      let f = λ (q r : ℕ). walks P S W n (with_turn P S K q) q r in
      let g = λ (q r : ℕ). walks P S W n (with_turn P S L q) q r in
      let goes : (q r : ℕ) → q < places W K → is_able P S K (at_place K q) ≡ true → OneByOne EndsSo (f q r) (g q r) =
      λ q r l a.
      let t = takes-turn P S ts cs K same.states.here k.goes_on.legal (omega arith) (begun P S W K k) q a in
      walks-so limit n (after S ts (turn_of P S K q)) (call_state.after cs (turn_of P S K q)) (with_turn P S K q) (with_turn P S L q) q r
      (omega arith) (walked_on P S W limit K q l a k) (turn-alike S ts cs K L same P q t) (kept ts cs K L same so q t) in
      subst (λ (qs : List ℕ). OneByOne EndsSo (or_over (able P S W K p) (record { left = d; events = K }) (by_delays f (able P S W K p) d)) (or_over qs (record { left = d; events = L }) (by_delays g qs d)))
      (sym (able-alike S ts cs K L same P W p))
      (over-or ts cs K L same so d (able P S W K p) (by_delays f (able P S W K p) d) (by_delays g (able P S W K p) d)
      (each K f g goes (able P S W K p) d (able_inside P S W limit K p) (able_able P S W limit K p)))

  pub walks-on-so : W ≤ 16 → (ts : State) (cs : call_state.State) (K L : List Event) → IsWalked P S W K → Same S ts cs K L → I K L
      → (p d : ℕ) → OneByOne EndsSo (walks_on P S W K p d) (walks_on P S W L p d)
  walks-on-so limit ts cs K L k same so p d =
      subst (λ (m : ℕ). OneByOne EndsSo (walks_on P S W K p d) (walks P S W (most_events - m) L p d)) (sym same.length_is)
      (walks-so limit (most_events - length K) ts cs K L p d (omega arith) k same so)

-- what follows of two walks follows of the lists
weaker : (R Q : Walk → Walk → Type 0) → ((v w : Walk) → R v w → Q v w) → (vs ws : List Walk) → OneByOne R vs ws → OneByOne Q vs ws
weaker R Q f [] [] s = tt
weaker R Q f (v ∷ vs) (w ∷ ws) s = (f v w s.0, weaker R Q f vs ws s.1)
weaker R Q f [] (w ∷ ws) s = absurd s
weaker R Q f (v ∷ vs) [] s = absurd s

pub walk-alike : (P : Policy) (S : Script) (W : ℕ) → WalkAlike P S W
walk-alike P S W limit ts cs K L k same p d =
    weaker (EndsSo P S W (λ K L. Unit {0}) (λ ts cs K L same so q t. tt)) (IsAlike S) (λ v w s. s.0) (walks_on P S W K p d) (walks_on P S W L p d)
    (walks-on-so P S W (λ K L. Unit {0}) (λ ts cs K L same so q t. tt) limit ts cs K L k same tt p d)

-- ---- What is told of them

pub told-alike : {X : Type 0} (R : Walk → Walk → Type 0) (f : Walk → X) → ((v w : Walk) → R v w → f w ≡ f v) → (vs ws : List Walk) → OneByOne R vs ws → map f ws ≡ map f vs
told-alike R f same [] [] a = refl
told-alike R f same (v ∷ vs) (w ∷ ws) a = ap₂ (λ n ns. n ∷ ns) (same v w a.0) (told-alike R f same vs ws a.1)
told-alike R f same [] (w ∷ ws) a = absurd a
told-alike R f same (v ∷ vs) [] a = absurd a

pub as-long : (S : Script) (vs ws : List Walk) → AreAlike S vs ws → (map left_of ws ≡ map left_of vs) × (map length_of ws ≡ map length_of vs)
as-long S vs ws a =
    (told-alike (IsAlike S) left_of (λ v w s. s.left_is) vs ws a, told-alike (IsAlike S) length_of (λ v w s. s.same.length_is) vs ws a)
