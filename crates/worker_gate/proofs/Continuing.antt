-- What a machine that keeps a limit keeps after a try of an actor.
-- By cases on the limit and on whether the actor stepped: a step that was made is no skip, and its actor is within the limit.
use Rattle.std.proofs.Common.{◌≡◌, ℕ, Bool, true, false, List, [], ◌∷◌, Option, Some, None, inl, inr, arith}
use Rattle.std.specs.Prelude.{Result, Ok, Err, IfOk, OnErr, ⊤}
use Rattle.hist_model.specs.Kinds.{skips}
use Rattle.hist_model.specs.Legal.{IsWithin}
use Rattle.hist_model.specs.Look.{Name, ev}
use Rattle.hist_model.specs.declared.event.Actor.{Actor}
use Rattle.hist_model.specs.declared.event.Actor.TheVariants.{Task, Worker}
use Rattle.hist_model.specs.declared.event.Event.{Event}
use Rattle.hist_model.specs.declared.event.What.{What}
use Rattle.hist_model.specs.declared.policy.Policy.{Policy}
use Rattle.model_kernel.specs.Kernels.{past}
use Rattle.crew.specs.Duties.{MayServe}
use Rattle.worker_gate.specs.Keeping.{Adds, AddsTask, Continues, IsKept, IsWithinLimit}
use Rattle.broker_machine.specs.Serving.{Reaches, Tries}
use Rattle.broker_machine.specs.declared.machine.Machine.{Machine}

-- the actor is no worker above the limit
abbrev pub MayAct : Option ℕ → Actor → Type 0
MayAct None a = ⊤
MayAct (Some limit) a = IsWithin limit a

-- nor is a task
pub task_may : (limit : Option ℕ) (n : Name) → MayAct limit (Task n)
task_may None n = tt
task_may (Some l) n = tt

-- nor a worker that may be served, which is one of the seventeen
pub worker_may : (limit : Option ℕ) (w : ℕ) → MayServe limit (Some w) → MayAct limit (Worker w)
worker_may None w may = tt
worker_may (Some l) w may = may.0

within_more : (limit : Option ℕ) (K : List Event) (a : Actor) (what : What) → MayAct limit a → skips what ≡ false → IsWithinLimit limit K → IsWithinLimit limit (ev a what ∷ K)
within_more None K a what may steps within = tt
within_more (Some l) K a what may steps within = ((steps, within.0), (may, within.1))

module _ (P : Policy) (limit : Option ℕ) (old new : Machine) (kept : IsKept P limit old) where
  -- without a step
  pub stayed_on : Reaches P old (past old.kernel) new → Continues P limit old new
  stayed_on r = record { kept = record { served = r.served; within = rw r.events kept.within }; script = r.script; begins = ([], r.events); one = rw r.events (omega arith) }

  -- with a try
  pub tried_on : (a : Actor) → MayAct limit a → (b : Bool) → Tries P old a b new → Continues P limit old new
  tried_on a may true t = record {
    kept = record { served = t.0.served; within = rw t.0.events (within_more limit (past old.kernel) a _ may t.1 kept.within) };
    script = t.0.script;
    begins = (_ ∷ [], t.0.events);
    one = rw t.0.events (omega arith);
  }
  tried_on a may false t = stayed_on t.0

  -- with a try that may lack memory
  pub went_on : {E : Type 0} (a : Actor) → MayAct limit a → (r : Result Bool E) → IfOk r (λ b. Tries P old a b new) → OnErr r (Reaches P old (past old.kernel) new) → Continues P limit old new
  went_on a may (Ok b) done same = tried_on a may b done
  went_on a may (Err e) done same = stayed_on same

module _ (P : Policy) (old new : Machine) where
  -- what a try adds to the history
  adds : (a : Actor) (b : Bool) → Tries P old a b new → Adds a b (past old.kernel) (past new.kernel)
  adds a true t = (_, t.0.events)
  adds a false t = t.0.events

  pub tried : {E : Type 0} (a : Actor) (r : Result Bool E) → IfOk r (λ b. Tries P old a b new) → IfOk r (λ b. Adds a b (past old.kernel) (past new.kernel))
  tried a (Ok b) t = adds a b t
  tried a (Err e) t = tt

  -- without memory, nothing
  pub lacked : {T E : Type 0} (r : Result T E) → OnErr r (Reaches P old (past old.kernel) new) → OnErr r (past new.kernel ≡ past old.kernel)
  lacked (Ok t) same = tt
  lacked (Err e) same = same.events

  -- what a task's try adds, with memory or without
  pub task_tried : {E : Type 0} (n : Name) (r : Result Bool E) → IfOk r (λ b. Tries P old (Task n) b new) → OnErr r (Reaches P old (past old.kernel) new) → AddsTask (past old.kernel) (past new.kernel)
  task_tried n (Ok true) t same = inr (n, _, t.0.events)
  task_tried n (Ok false) t same = inl t.0.events
  task_tried n (Err e) t same = inl same.events
