-- Names, ordinals and PIDs after one more event, and how often a task has spawned.
-- By the lemmas on ordinals, and since a task that was made keeps its place.
use Rattle.std.proofs.Common.{◌≡◌, ◌⊎◌, inl, inr, ℕ, ◌+◌, ◌<◌, ◌≤◌, true, false, ◌&&◌, List, [], ◌∷◌, length, Option, Some, None, refl, sym, ap, ◌∙◌, arith}
use Rattle.std.specs.Prelude.{Ok}
use Rattle.std.proofs.lemmas.Bool.{cases_Bool, and_parts, and_from, or_cases, both_ways}
use Rattle.hist_model.specs.Look.{Name, name_eq, event_at, oldest}
use Rattle.hist_model.specs.Kinds.{makes}
use Rattle.hist_model.specs.Tasks.{is_made, child_of, name_of}
use Rattle.hist_model.specs.Steps.{makes_in, task_place, pid_named, pid_at, steps_of, is_spawn}
use Rattle.hist_model.specs.declared.event.Event.{Event}
use Rattle.hist_model.specs.declared.event.Actor.TheVariants.{Task}
use Rattle.hist_model.specs.declared.event.SpawnKind.{SpawnKind}
use Rattle.hist_model.specs.declared.event.What.TheVariants.{Spawn}
use Rattle.hist_model.proofs.Look.{event_at-here, event_at-older, name_eq-true, name_eq-refl, oldest-some, oldest-same, oldest-found}
use Rattle.history_frames.specs.Ordinals.{tasks_made, place_of, task_name_of, name_at}
use Rattle.history_frames.proofs.Ordinals.{made-more, made-same, place-new, place-old, place-below, place-makes, made-place, makes-below, name-older, pid-older}
use Rattle.history_frames.proofs.Held.{made-is}
use Rattle.history_frames.proofs.Groups.{place-kept, place-made}

pub made-least : (e : Event) (K : List Event) → tasks_made K ≤ tasks_made (e ∷ K)
made-least e K = elim (cases_Bool (makes e.what)) [
  | inl h ↦ omega (arith, made-more makes e K h)
  | inr h ↦ omega (arith, made-same makes e K h)
]

-- a task keeps its name
pub name-kept : (e : Event) (K : List Event) (o : ℕ) → o < tasks_made K → task_name_of (e ∷ K) o ≡ task_name_of K o
name-kept e K o l =
    let p = made-place makes K o l in
    let b = place-below makes K o p.0 p.1 in
    ap (name_at (e ∷ K)) (place-old makes e K o l ∙ p.1) ∙ (name-older e K p.0 b.1 ∙ sym (ap (name_at K) p.1))

pub name-new : (e : Event) (K : List Event) → makes e.what ≡ true → task_name_of (e ∷ K) (tasks_made K) ≡ child_of e.what
name-new e K m = rw (place-new makes e K m, event_at-here e K) refl

pub name-made : (K : List Event) (o : ℕ) → o < tasks_made K → is_made K (task_name_of K o) ≡ true
name-made K o l =
    let p = made-place makes K o l in
    rw p.1 (made-is K p.0 (place-makes K o p.0 p.1))

-- and a place
pub name-place : (K : List Event) (o : ℕ) → o < tasks_made K → (t : ℕ) × (place_of K o ≡ Some t) × (name_of K t ≡ task_name_of K o)
name-place K o l = let p = made-place makes K o l in (p.0, p.1, sym (ap (name_at K) p.1))

-- past the tasks there is no name
pub name-none : (K : List Event) (o : ℕ) → tasks_made K ≤ o → task_name_of K o ≡ []
name-none K o l = go (place_of K o) refl
  where
    go : (r : Option ℕ) → place_of K o ≡ r → task_name_of K o ≡ []
    go None q = ap (name_at K) q
    go (Some t) q = absurd (omega (arith, (place-below makes K o t q).0))

pub made-cases : (e : Event) (K : List Event) (n : Name) → is_made (e ∷ K) n ≡ true → ((makes e.what ≡ true) × (child_of e.what ≡ n)) ⊎ (is_made K n ≡ true)
unfolding is_made
made-cases e K n h = elim (or_cases (makes e.what && name_eq (child_of e.what) n) (is_made K n) h) [
  | inl q ↦ let p = and_parts (makes e.what) (name_eq (child_of e.what) n) q in inl (p.0, name_eq-true (child_of e.what) n p.1)
  | inr q ↦ inr q
]

-- each task that was made has an ordinal
pub made-ordinal : (K : List Event) (n : Name) → is_made K n ≡ true → (o : ℕ) × (o < tasks_made K) × (task_name_of K o ≡ n)
made-ordinal [] n h = unfold is_made in cc
made-ordinal (e ∷ K) n h = elim (made-cases e K n h) [
  | inl p ↦ (tasks_made K, omega (arith, made-more makes e K p.0), name-new e K p.0 ∙ p.1)
  | inr p ↦ let m = made-ordinal K n p in (m.0, omega (arith, m.1, made-least e K), name-kept e K m.0 m.1 ∙ m.2)
]

pub made-same-name : (e : Event) (K : List Event) (n : Name) → makes e.what ≡ false → is_made (e ∷ K) n ≡ is_made K n
unfolding is_made
made-same-name e K n h = rw h

-- a name of which no task was made leads nowhere
unmade-place : (K : List Event) (n : Name) → is_made K n ≡ false → task_place K n ≡ None
unmade-place K n h = go (task_place K n) refl
  where
    go : (r : Option ℕ) → task_place K n ≡ r → task_place K n ≡ None
    go None q = q
    go (Some t) q =
        let s = (oldest-some (λ u. makes_in (event_at K u) && name_eq (name_of K u) n) (length K) t (unfold task_place in q)).0 in
        let p = and_parts (makes_in (event_at K t)) (name_eq (name_of K t) n) s in
        let m : is_made K n ≡ true = rw (name_eq-true (name_of K t) n p.1) at (made-is K t p.0) in
        absurd (both_ways (is_made K n) h m)

pub pid-none : (K : List Event) (n : Name) → is_made K n ≡ false → pid_named K n ≡ 0
pid-none K n h = ap (pid_at K) (unmade-place K n h)

-- and one of a task that was made to its place
pub found-place : (K : List Event) (n : Name) → is_made K n ≡ true → (t : ℕ) × (task_place K n ≡ Some t)
unfolding task_place
found-place K n h =
    let m = made-ordinal K n h in
    let p = made-place makes K m.0 m.1 in
    let q : name_of K p.0 ≡ n = sym (ap (name_at K) p.1) ∙ m.2 in
    let s = place-makes K m.0 p.0 p.1 in
    let r : name_eq (name_of K p.0) n ≡ true = rw q (name_eq-refl n) in
    oldest-found (λ u. makes_in (event_at K u) && name_eq (name_of K u) n) (length K) p.0 (makes-below K p.0 s) (and_from (makes_in (event_at K p.0)) (name_eq (name_of K p.0) n) s r)

-- a task keeps its number
pub pid-stays : (e : Event) (K : List Event) (n : Name) → is_made K n ≡ true → pid_named (e ∷ K) n ≡ pid_named K n
pid-stays e K n h =
    let p = found-place K n h in
    ap (pid_at (e ∷ K)) (place-kept e K n p.0 p.1) ∙ (rw (pid-older e K p.0 (place-made K n p.0 p.1)) refl ∙ sym (ap (pid_at K) p.1))

new-place : (e : Event) (K : List Event) → makes e.what ≡ true → is_made K (child_of e.what) ≡ false → task_place (e ∷ K) (child_of e.what) ≡ Some (length K)
unfolding task_place oldest
new-place e K m h =
    let c = child_of e.what in
    let same = oldest-same (λ u. makes_in (event_at (e ∷ K) u) && name_eq (name_of (e ∷ K) u) c) (λ u. makes_in (event_at K u) && name_eq (name_of K u) c) (length K) (λ u l. rw (event_at-older e K u l)) in
    rw (same, unmade-place K c h, event_at-here e K, m, name_eq-refl c)

-- the new task has the number that it was given
pub pid-new : (e : Event) (K : List Event) (n : Name) (p : ℕ) (kind : SpawnKind) → e.what ≡ Spawn n (Ok (p, kind)) → is_made K n ≡ false → pid_named (e ∷ K) n ≡ p
pid-new e K n p kind q h =
    let c : child_of e.what ≡ n = rw q in
    let m : makes e.what ≡ true = rw q in
    let h' : is_made K (child_of e.what) ≡ false = rw c h in
    let t : task_place (e ∷ K) n ≡ Some (length K) = rw c at (new-place e K m h') in
    ap (pid_at (e ∷ K)) t ∙ rw (event_at-here e K, q)

-- how often a task has spawned
pub spawns-own : (e : Event) (K : List Event) (n : Name) → e.who ≡ Task n → steps_of is_spawn (e ∷ K) n ≡ steps_of is_spawn K n + is_spawn e.what
unfolding steps_of
spawns-own e K n h = rw (h, name_eq-refl n)

pub spawns-least : (e : Event) (K : List Event) (n : Name) → steps_of is_spawn K n ≤ steps_of is_spawn (e ∷ K) n
unfolding steps_of
spawns-least e K n = omega arith
