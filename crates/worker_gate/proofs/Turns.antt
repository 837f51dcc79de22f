-- A turn whose only event is a worker's step, a task's, or none, adds one event at most.
-- By what the steps of the state behind the lock are said to add.
use Rattle.std.proofs.Common.{◌≡◌, ◌∙◌, ℕ, Bool, true, false, List, [], ◌∷◌, length, Some, ap, arith, inl, sym, ⊎_elim}
use Rattle.crew.specs.Errands.{StepsFor}
use Rattle.crew.specs.declared.crewed.Errand.{Errand}
use Rattle.hist_model.specs.Look.{Name, ev}
use Rattle.hist_model.specs.declared.event.Actor.{Actor}
use Rattle.hist_model.specs.declared.event.Actor.TheVariants.{Task, Worker}
use Rattle.hist_model.specs.declared.event.Event.{Event}
use Rattle.hist_model.specs.declared.event.What.{What}
use Rattle.worker_gate.specs.Keeping.{Adds, AddsTask, ServedFacts, TakesTurn}

module _ (old new : ServedFacts) (setup : new.setup ≡ old.setup) where
  -- no event more
  pub same_turn : new.history.events ≡ old.history.events → TakesTurn old new
  same_turn e = record { setup = setup; begins = ([], e); one = rw e (omega arith) }

  -- one event more
  pub one_turn : (f : Event) → new.history.events ≡ f ∷ old.history.events → TakesTurn old new
  one_turn f e = record { setup = setup; begins = (f ∷ [], e); one = rw e (omega arith) }

  pub step_turn : (a : Actor) (b : Bool) → Adds a b old.history.events new.history.events → TakesTurn old new
  step_turn a true s = one_turn (ev a s.0) s.1
  step_turn a false s = same_turn s

  pub task_turn : AddsTask old.history.events new.history.events → TakesTurn old new
  task_turn s = ⊎_elim (λ e. same_turn e) (λ (x : (n : Name) × (what : What) × (new.history.events ≡ ev (Task n) what ∷ old.history.events)). one_turn (ev (Task x.0) x.1) x.2) s

-- ---- For whom the step is

-- the newest step of a history is one actor's
pub same_actor : (a b : Actor) (s t : What) (K : List Event) → ev a s ∷ K ≡ ev b t ∷ K → a ≡ b
same_actor a b s t K same = let newest : ev a s ≡ ev b t = cc same in ap (λ (e : Event). e.who) newest

module _ (errand : Errand) (K H : List Event) where
  -- no event is nobody's step
  pub same_for : H ≡ K → StepsFor errand K H
  same_for e w what is = let longer : length K ≡ length (ev (Worker w) what ∷ K) = ap length (sym e ∙ is) in absurd (omega arith)

  -- a step of the worker that the errand has
  pub worker_for : (v : ℕ) (b : Bool) → errand.worker ≡ Some v → Adds (Worker v) b K H → StepsFor errand K H
  worker_for v true own s = λ w what is.
      let actor : Worker v ≡ Worker w = same_actor (Worker v) (Worker w) s.0 what K (sym s.1 ∙ is) in
      let who : v ≡ w = cc actor in
      inl (own ∙ ap Some who)
  worker_for v false own s = same_for s

  -- a task's step is no worker's
  pub task_for : AddsTask K H → StepsFor errand K H
  task_for s = ⊎_elim (λ e. same_for e)
      (λ (x : (n : Name) × (what : What) × (H ≡ ev (Task n) what ∷ K)). λ w what is. let actor : Task x.0 ≡ Worker w = same_actor (Task x.0) (Worker w) x.1 what K (sym x.2 ∙ is) in absurd (cc actor)) s
