-- A legal history without a skip, in which a worker that has no notification in hand steps only where all below it have one, is taken
-- turn by turn by actors that are able to step.
-- By cases on who takes a step, and by induction on the events: each task that was made has an ordinal.
use Rattle.std.proofs.Common.{◌≡◌, ◌⊎◌, inl, inr, ℕ, ◌+◌, ◌-◌, ◌<◌, ◌≤◌, Bool, true, false, ◌&&◌, ◌||◌, not, if◌then◌else◌, nat_lt, List, [], ◌∷◌, length, refl, ap, ◌∙◌, arith, le-ltb, lt-ltb}
use Rattle.std.proofs.lemmas.Bool.{and_parts}
use Rattle.hist_model.specs.Kinds.{closes, makes, skips}
use Rattle.hist_model.specs.Legal.{IsWithin, NoSkip, NoWorkerAbove, rules_of, system_of}
use Rattle.hist_model.specs.Look.{Name, ev, name_eq}
use Rattle.hist_model.specs.Signals.{call_of}
use Rattle.hist_model.specs.Steps.{is_actor, is_start, living_step, start, step, task_step}
use Rattle.hist_model.specs.Tasks.{alive, child_of, is_made, name_of}
use Rattle.hist_model.specs.declared.event.Actor.{Actor}
use Rattle.hist_model.specs.declared.event.Actor.TheVariants.{Listener, Start, Task, Worker}
use Rattle.hist_model.specs.declared.event.Event.{Event}
use Rattle.hist_model.specs.declared.event.What.{What}
use Rattle.hist_model.specs.declared.event.What.TheVariants.{Close, Skip}
use Rattle.hist_model.specs.declared.policy.Policy.{Policy}
use Rattle.hist_model.specs.declared.script.Script.{Script}
use Rattle.hist_model.proofs.Look.{event_at-here, event_at-older, name_eq-true}
use Rattle.history_frames.specs.Ordinals.{count_of, task_name_of, tasks_made}
use Rattle.history_frames.proofs.Ordinals.{made-more, made-place, place-below, place-new, place-old}
use Rattle.mediation.specs.Scheduled.{GoesOn}
use Rattle.delay_bounded.specs.Circle.{at_place, is_able, places, with_turn}
use Rattle.delay_bounded.specs.Laws.{IsLowest, IsTurnByTurn, StepsAsLowest}

-- ---- A task that was made has an ordinal

either : (a b : Bool) → (a || b) ≡ true → (a ≡ true) ⊎ (b ≡ true)
either true b e = inl refl
either false b e = inr e

name_here : (e : Event) (K : List Event) → name_of (e ∷ K) (length K) ≡ child_of e.what
name_here e K = rw (event_at-here e K) refl

name_older : (e : Event) (K : List Event) (t : ℕ) → t < length K → name_of (e ∷ K) t ≡ name_of K t
name_older e K t l = rw (event_at-older e K t l) refl

new_task : (e : Event) (K : List Event) → makes e.what ≡ true → task_name_of (e ∷ K) (tasks_made K) ≡ child_of e.what
new_task e K h = rw (place-new makes e K h) (name_here e K)

old_task : (e : Event) (K : List Event) (o : ℕ) → o < tasks_made K → task_name_of (e ∷ K) o ≡ task_name_of K o
old_task e K o l =
    let (t, at) = made-place makes K o l in
    let below = place-below makes K o t at in
    rw (place-old makes e K o l, at) (name_older e K t below.1)

more_made : (e : Event) (K : List Event) → tasks_made K ≤ tasks_made (e ∷ K)
unfolding count_of
more_made e K = omega arith

pub has_ordinal : (K : List Event) (n : Name) → is_made K n ≡ true → (o : ℕ) × (o < tasks_made K) × (task_name_of K o ≡ n)
unfolding is_made
has_ordinal [] n h = cc
has_ordinal (e ∷ K) n h = elim (either (makes e.what && name_eq (child_of e.what) n) (is_made K n) h) [
  | inl made ↦
      let parts = and_parts (makes e.what) (name_eq (child_of e.what) n) made in
      (tasks_made K, omega (arith, made-more makes e K parts.0), new_task e K parts.0 ∙ name_eq-true (child_of e.what) n parts.1)
  | inr before ↦
      let (o, few, named) = has_ordinal K n before in
      (o, omega (arith, more_made e K), old_task e K o few ∙ named)
]

-- ---- Who takes a step is able to

able_if : (a b : Bool) → a ≡ true → b ≡ false → (a && not b) ≡ true
able_if true false p q = refl
able_if true true p q = cc
able_if false b p q = cc

lives : (c : Bool) (x : What) → skips (if c then x else Skip) ≡ false → c ≡ true
lives true x e = refl
lives false x e = cc

pub worker_place : (t w : ℕ) (n : Name) → (if nat_lt (t + w) t then Task n else Worker (t + w - t)) ≡ Worker w
worker_place t w n =
    let none : nat_lt (t + w) t ≡ false = le-ltb (t + w) t (omega arith) in
    let same : t + w - t ≡ w = omega arith in
    rw (none, same) refl

module _ (P : Policy) (S : Script) (W : ℕ) where
  stepped : (K : List Event) (n : Name) → skips (step (system_of S) (rules_of P S.figures) K (Task n)) ≡ false → alive K n ≡ true
  unfolding step task_step
  stepped K n e = lives (alive K n) (living_step (system_of S) K n (call_of K n)) e

  no_close : (K : List Event) (b : What) → b ≡ step (system_of S) (rules_of P S.figures) K Listener → closes b ≡ false → ⊥
  unfolding step
  no_close K b is unclosed = let shut : closes Close ≡ false = rw is at unclosed in cc

  -- the place of who took the step
  turn_by : (K : List Event) (a : Actor) (b : What) → b ≡ step (system_of S) (rules_of P S.figures) K a → is_start a ≡ false → is_actor a ≡ true → skips b ≡ false → closes b ≡ false → IsWithin W a → IsLowest K a
      → (q : ℕ) × (q < places W K) × (is_able P S K (at_place K q) ≡ true) × (ev a b ∷ K ≡ with_turn P S K q)
  turn_by K (Task n) b is start actor goes unclosed within low =
      let due : skips (step (system_of S) (rules_of P S.figures) K (Task n)) ≡ false = rw is at goes in
      let (o, few, named) = has_ordinal K n (and_parts _ _ (stepped K n due)).0 in
      let inside : nat_lt o (tasks_made K) ≡ true = lt-ltb o (tasks_made K) few in
      let there : at_place K o ≡ Task n = rw inside (ap Task named) in
      (o, omega (arith, few), rw there (able_if _ _ actor due), rw (there, is) refl)
  turn_by K (Worker w) b is start actor goes unclosed within low =
      let due : skips (step (system_of S) (rules_of P S.figures) K (Worker w)) ≡ false = rw is at goes in
      let there : at_place K (tasks_made K + w) ≡ Worker w = worker_place (tasks_made K) w (task_name_of K (tasks_made K + w)) in
      (tasks_made K + w, omega (arith, within), rw there (able_if _ _ low due), rw (there, is) refl)
  turn_by K Start b is start actor goes unclosed within low = cc
  turn_by K Listener b is start actor goes unclosed within low = absurd (no_close K b is unclosed)

  pub turn_by_turn : (K : List Event) → GoesOn P S K → NoSkip K → NoWorkerAbove W K → StepsAsLowest K → IsTurnByTurn P S W K
  turn_by_turn [] g n w l = absurd g.unclosed
  turn_by_turn (e ∷ []) g n w l = ap (λ (x : Event). x ∷ []) g.legal.0
  turn_by_turn (e ∷ f ∷ K) g n w l =
      let is = g.legal.0 in
      let (q, inside, able, turn) = turn_by (f ∷ K) e.who e.what is.2 is.1 is.3 n.0 g.unclosed w.0 l.0 in
      (q, inside, able, turn, turn_by_turn (f ∷ K) (record { legal = g.legal.1; unclosed = is.0 }) n.1 w.1 l.1)
