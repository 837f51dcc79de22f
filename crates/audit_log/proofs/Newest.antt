-- A look-back that answers the place of the newest event of a kind answers a place among the events, and what stands there is of this kind.
-- By induction on the events: the kind is any test, and the look-back is given by what it answers at each event.
use Rattle.std.proofs.Common.{◌≡◌, ℕ, ◌+◌, ◌<◌, ◌≤◌, Bool, true, false, List, [], ◌∷◌, ◌++◌, length, Option, Some, None, refl, ap, ◌∙◌, sym, arith}
use Rattle.std.specs.Prelude.{if◌then◌else◌}
use Rattle.std.proofs.lemmas.Bool.{ne_eqb}
use Rattle.std.proofs.lemmas.List.{length-append}
use Rattle.hist_model.specs.Look.{is_place}
use Rattle.hist_model.specs.declared.event.Event.{Event}

-- it answers the place of the newest event that passes the test
abbrev pub FindsNewest : (Event → Bool) → (List Event → Option ℕ) → Type 0
FindsNewest test look = (look [] ≡ None) × ((e : Event) (K : List Event) → look (e ∷ K) ≡ (if test e then Some (length K) else look K))

-- its answer is among the events
pub newest_below : (test : Event → Bool) (look : List Event → Option ℕ) → FindsNewest test look → (c : ℕ) (K : List Event) → look K ≡ Some c → c < length K
newest_below test look t c [] h = let n = t.0 in cc
newest_below test look t c (e ∷ K) h = by (test e) (newest_below test look t c K) (sym (t.1 e K) ∙ h)
  where
    by : (b : Bool) → (look K ≡ Some c → c < length K) → (if b then Some (length K) else look K) ≡ Some c → c < length (e ∷ K)
    by true below h = let q : length K ≡ c = cc in omega arith
    by false below h = let q = below h in omega arith

-- the event at the place of its answer passes the test
pub newest_passes : (test : Event → Bool) (look : List Event → Option ℕ) → FindsNewest test look → (later K : List Event) (f : Event)
    → look (later ++ f ∷ K) ≡ Some (length K) → test f ≡ true
newest_passes test look t [] K f h = by (test f) (sym (t.1 f K) ∙ h)
  where
    by : (b : Bool) → (if b then Some (length K) else look K) ≡ Some (length K) → b ≡ true
    by true h = refl
    by false h = let l = newest_below test look t (length K) K h in absurd (omega arith)
newest_passes test look t (e ∷ later) K f h = by (test e) (newest_passes test look t later K f) (sym (t.1 e (later ++ f ∷ K)) ∙ h)
  where
    by : (b : Bool) → (look (later ++ f ∷ K) ≡ Some (length K) → test f ≡ true) → (if b then Some (length (later ++ f ∷ K)) else look (later ++ f ∷ K)) ≡ Some (length K) → test f ≡ true
    by true own h =
        let q : length (later ++ f ∷ K) ≡ length K = cc in
        let l : length (later ++ f ∷ K) ≡ length later + length (f ∷ K) = length-append later (f ∷ K) in
        absurd (omega arith)
    by false own h = own h

-- another place is not the one that was answered
pub elsewhere : (o : Option ℕ) (c : ℕ) → (o ≡ Some c → ⊥) → is_place o c ≡ false
elsewhere None c n = refl
elsewhere (Some k) c n = ne_eqb k c (λ q. n (ap Some q))

-- no answer is a place past the events
pub newest_not_past : (test : Event → Bool) (look : List Event → Option ℕ) → FindsNewest test look → (c : ℕ) (K : List Event) → length K ≤ c → is_place (look K) c ≡ false
newest_not_past test look t c K l = elsewhere (look K) c (λ q. past (newest_below test look t c K q))
  where
    past : c < length K → ⊥
    past b = omega arith
