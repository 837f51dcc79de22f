-- Groups after one more event, by their ordinals.
-- By the lemmas on ordinals, and since what was made before an event stays at its place.
use Rattle.std.proofs.Common.{◌≡◌, ℕ, ◌<◌, Bool, true, false, ◌&&◌, not, List, ◌∷◌, length, Option, Some, None, refl, ap, sym, ◌∙◌, arith}
use Rattle.std.proofs.lemmas.Bool.{and_parts, eq-eqb, ne_eqb}
use Rattle.hist_model.specs.Look.{Name, name_eq, event_at, task_name}
use Rattle.hist_model.specs.Kinds.{makes, shares_now}
use Rattle.hist_model.specs.Tasks.{name_of}
use Rattle.hist_model.specs.Steps.{group, makes_in, opened, place_or, task_place}
use Rattle.hist_model.specs.Memory.{group_named}
use Rattle.hist_model.specs.declared.event.Event.{Event}
use Rattle.hist_model.proofs.Look.{event_at-older, oldest-same, oldest-some, oldest-stays}
use Rattle.history_frames.specs.Ordinals.{makes_group, group_of}
use Rattle.history_frames.proofs.Ordinals.{place-old, place-below, place-one}

-- a group keeps its ordinal
pub group-stays : (e : Event) (K : List Event) (o g : ℕ) → group_of K o ≡ Some g → group_of (e ∷ K) o ≡ Some g
group-stays e K o g h = place-old makes_group e K o (place-below makes_group K o g h).0 ∙ h

-- it was made before the event
pub group-older : (K : List Event) (o g : ℕ) → group_of K o ≡ Some g → g < length K
group-older K o g h = (place-below makes_group K o g h).1

-- groups of different ordinals are different
pub groups-apart : (K : List Event) (o p g h : ℕ) → group_of K o ≡ Some g → group_of K p ≡ Some h → (o ≡ p → ⊥) → g ≡ h → ⊥
groups-apart K o p g h a b n q = n (place-one makes_group K o p g a (b ∙ ap Some (sym q)))

-- the group of a task that was made before the event
pub group-kept : (e : Event) (K : List Event) (t : ℕ) → t < length K → group (e ∷ K) t ≡ group K t
unfolding group
group-kept e K t l = let n : (t ≡ length K → ⊥) = omega arith in rw (ne_eqb t (length K) n)

-- a new task has a group of its own, or that of the task that made it
pub group-made : (e : Event) (K : List Event) → makes_group e.what ≡ true → group (e ∷ K) (length K) ≡ length K
unfolding group
group-made e K h = rw (eq-eqb (length K) (length K) refl, not-true (shares_now e.what) (and_parts (makes e.what) (not (shares_now e.what)) h).1)
  where
    not-true : (b : Bool) → not b ≡ true → b ≡ false
    not-true true h = cc
    not-true false h = refl

pub group-shared : (e : Event) (K : List Event) → shares_now e.what ≡ true → group (e ∷ K) (length K) ≡ group K (place_or (task_place K (task_name e.who)))
unfolding group
group-shared e K h = rw (eq-eqb (length K) (length K) refl, h)

-- a name leads to a task that was made, and still to the same one after the event
pub place-made : (K : List Event) (n : Name) (t : ℕ) → task_place K n ≡ Some t → t < length K
unfolding task_place
place-made K n t h = (oldest-some (λ u. makes_in (event_at K u) && name_eq (name_of K u) n) (length K) t h).1

pub place-kept : (e : Event) (K : List Event) (n : Name) (t : ℕ) → task_place K n ≡ Some t → task_place (e ∷ K) n ≡ Some t
unfolding task_place
place-kept e K n t h =
    let same = oldest-same (λ u. makes_in (event_at (e ∷ K) u) && name_eq (name_of (e ∷ K) u) n) (λ u. makes_in (event_at K u) && name_eq (name_of K u) n) (length K) (λ u l. rw (event_at-older e K u l)) in
    oldest-stays (λ u. makes_in (event_at (e ∷ K) u) && name_eq (name_of (e ∷ K) u) n) (length K) t (same ∙ h)

-- and to its group
pub group-named-kept : (e : Event) (K : List Event) (n : Name) (g : ℕ) → group_named K n ≡ Some g → group_named (e ∷ K) n ≡ Some g
group-named-kept e K n g h = go (task_place K n) refl h
  where
    go : (o : Option ℕ) → task_place K n ≡ o → opened K o ≡ Some g → opened (e ∷ K) (task_place (e ∷ K) n) ≡ Some g
    go None q h = cc
    go (Some t) q h = ap (opened (e ∷ K)) (place-kept e K n t q) ∙ (ap Some (group-kept e K t (place-made K n t q)) ∙ h)
