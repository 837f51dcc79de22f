-- The turns of the kernel's and the broker's actors.
-- By the kernel after the actor's step, and what each worker remembers then.
use Rattle.std.proofs.Common.{◌≡◌, ℕ, ◌≤◌, Bool, List, [], length, true, false, refl}
use Rattle.std.specs.Prelude.{slice_set}
use Rattle.std.proofs.lemmas.List.{length-set}
use Rattle.hist_model.specs.Kinds.{skips}
use Rattle.hist_model.specs.Look.{Name, ev}
use Rattle.hist_model.specs.Names.{is_task_name}
use Rattle.hist_model.specs.Legal.{rules_of, started, system_of}
use Rattle.hist_model.specs.Sessions.{session}
use Rattle.hist_model.specs.Steps.{start, step, task_step, worker_step}
use Rattle.hist_model.specs.declared.event.Actor.{Actor}
use Rattle.hist_model.specs.declared.event.Actor.TheVariants.{Task, Worker as WorkerActor}
use Rattle.hist_model.specs.declared.event.Event.{Event}
use Rattle.hist_model.specs.declared.event.What.TheVariants.{Skip}
use Rattle.hist_model.specs.declared.policy.Policy.{Policy}
use Rattle.hist_model.specs.declared.script.Script.{Script}
use Rattle.mediation.specs.Scheduled.{GoesOn, IsScheduled}
use Rattle.mediation.proofs.Played.{goes_on-start, goes_on-step}
use Rattle.broker_core.specs.Remembered.{Remembers}
use Rattle.broker_core.specs.declared.worker.Worker.{Worker}
use Rattle.model_kernel.specs.Kernels.{IsAfter, IsBegun, IsKernel, past}
use Rattle.model_kernel.specs.Ready.{IsSame}
use Rattle.broker_machine.proofs.Remembering.{all-set, all_after, all_other, all_skipped, all_still, others-set}
use Rattle.broker_machine.specs.Serving.{IsAt, IsServed, IsStopped, Reaches, Tries, after_step, step_of}
use Rattle.broker_machine.specs.Workers.{AllRemember, TriesStep}
use Rattle.broker_machine.specs.declared.machine.Machine.{Machine}

module _ (P : Policy) (old new : Machine) (served : IsServed P old) where
  reached : (K : List Event) → IsKernel new.kernel → new.kernel.script ≡ old.kernel.script → past new.kernel ≡ K → GoesOn P old.kernel.script K → length new.workers.items ≡ 17
      → AllRemember P old.kernel.script.figures K new.workers.items → Reaches P old K new
  reached K k script events goes number workers = record {
    served = record { kernel = k; goes_on = rw (script, events) goes; number = number; workers = rw (script, events) workers };
    script = script;
    events = events;
  }

  -- an actor's step, which each worker remembers
  stepped : (a : Actor) → IsScheduled a → IsAfter old.kernel (ev a (step (system_of old.kernel.script) (rules_of P old.kernel.script.figures) (past old.kernel) a)) new.kernel
      → length new.workers.items ≡ 17 → AllRemember P old.kernel.script.figures (after_step P old a) new.workers.items → Reaches P old (after_step P old a) new
  stepped a can after = reached (after_step P old a) after.kernel after.script after.events (goes_on-step P old.kernel.script a (past old.kernel) can served.goes_on)

  -- no step
  stayed : IsSame old.kernel new.kernel → length new.workers.items ≡ 17 → AllRemember P old.kernel.script.figures (past old.kernel) new.workers.items → Reaches P old (past old.kernel) new
  stayed same = reached (past old.kernel) same.kernel same.script same.past_is served.goes_on

  module _ (v : ℕ) (x : Worker) (items : new.workers.items ≡ slice_set old.workers.items v x) (remembers : Remembers P (session (past new.kernel) v) x) (figures : x.figures ≡ old.kernel.script.figures) where
    number : length new.workers.items ≡ 17
    number = rw (items, length-set) served.number

    -- a worker's step
    pub worker_stepped : v ≤ 16 → IsAfter old.kernel (ev (WorkerActor v) (worker_step (system_of old.kernel.script) (rules_of P old.kernel.script.figures) (past old.kernel) v)) new.kernel
        → Reaches P old (after_step P old (WorkerActor v)) new
    unfolding step
    worker_stepped l after =
        stepped (WorkerActor v) l after number
        (rw items (all_after P old.kernel.script.figures (past old.kernel) v _ old.workers.items x served.workers (rw after.events at remembers) figures))

    -- and where it took none
    pub worker_stayed : IsSame old.kernel new.kernel → Reaches P old (past old.kernel) new
    worker_stayed same =
        stayed same number (rw items (all_still P old.kernel.script.figures (past old.kernel) v old.workers.items x served.workers (rw same.past_is at remembers) figures))

    -- and a try of one
    pub worker_tried : v ≤ 16 → (b : Bool) → TriesStep P old.kernel v b new.kernel → Tries P old (WorkerActor v) b new
    unfolding step
    worker_tried l true t = (worker_stepped l t.0, t.1)
    worker_tried l false t = (worker_stayed t.0, t.1)

  -- a worker's turn where it can't step
  pub worker_skipped : (v : ℕ) → v ≤ 16 → new.workers ≡ old.workers → step_of P old (WorkerActor v) ≡ Skip → IsAfter old.kernel (ev (WorkerActor v) Skip) new.kernel → Reaches P old (after_step P old (WorkerActor v)) new
  worker_skipped v l workers due after =
      stepped (WorkerActor v) l (rw due after) (rw workers served.number)
      (rw (workers, due) (all_skipped P old.kernel.script.figures (past old.kernel) (ev (WorkerActor v) Skip) old.workers.items refl served.workers))

  -- a task's step
  pub task_stepped : (n : Name) → is_task_name n ≡ true → new.workers ≡ old.workers → IsAfter old.kernel (ev (Task n) (task_step (system_of old.kernel.script) (past old.kernel) n)) new.kernel → Reaches P old (after_step P old (Task n)) new
  unfolding step
  task_stepped n named workers after =
      stepped (Task n) named after (rw workers served.number)
      (rw workers (all_other P old.kernel.script.figures (past old.kernel) (ev (Task n) (task_step (system_of old.kernel.script) (past old.kernel) n)) old.workers.items (λ w. refl) served.workers))

  -- and where it took none
  pub task_stayed : new.workers ≡ old.workers → IsSame old.kernel new.kernel → Reaches P old (past old.kernel) new
  task_stayed workers same = stayed same (rw workers served.number) (rw workers served.workers)

  -- a try of a task that made its step, and one where it can't step
  pub task_tried : (n : Name) → is_task_name n ≡ true → new.workers ≡ old.workers → IsAfter old.kernel (ev (Task n) (task_step (system_of old.kernel.script) (past old.kernel) n)) new.kernel
      → skips (task_step (system_of old.kernel.script) (past old.kernel) n) ≡ false → Tries P old (Task n) true new
  unfolding step
  task_tried n named workers after steps = (task_stepped n named workers after, steps)

  pub task_waits : (n : Name) → new.workers ≡ old.workers → IsSame old.kernel new.kernel → task_step (system_of old.kernel.script) (past old.kernel) n ≡ Skip → Tries P old (Task n) false new
  unfolding step
  task_waits n workers same due = (task_stayed workers same, due)

-- the start
pub at_start : (P : Policy) (S : Script) (m : Machine) → IsBegun S m.kernel → length m.workers.items ≡ 17 → AllRemember P S.figures [] m.workers.items → IsAt P S (started S) m
at_start P S m k number workers = record {
  served = record {
    kernel = k.kernel;
    goes_on = rw (k.script, k.events) (goes_on-start P S);
    number = number;
    workers = rw (k.script, k.events) (all_other P S.figures [] (start (system_of S)) m.workers.items (λ w. refl) workers);
  };
  script = k.script;
  events = k.events;
}

-- ---- A worker that another one replaces

-- another worker stands in its place
pub worker_stopped : (P : Policy) (old new : Machine) (v : ℕ) (x : Worker) → new.kernel ≡ old.kernel → new.workers.items ≡ slice_set old.workers.items v x → IsServed P old → IsStopped P v new
worker_stopped P old new v x k items s = record {
  kernel = rw k s.kernel;
  goes_on = rw k s.goes_on;
  number = rw (items, length-set) s.number;
  others = rw (k, items) (others-set P old.kernel.script.figures (past old.kernel) v old.workers.items x s.workers);
}

-- and one that remembers the session
pub worker_seated : (P : Policy) (old new : Machine) (v : ℕ) (x : Worker) → new.kernel ≡ old.kernel → new.workers.items ≡ slice_set old.workers.items v x → IsStopped P v old
    → Remembers P (session (past old.kernel) v) x → x.figures ≡ old.kernel.script.figures → Reaches P old (past old.kernel) new
worker_seated P old new v x k items s r f = record {
  served = record {
    kernel = rw k s.kernel;
    goes_on = rw k s.goes_on;
    number = rw (items, length-set) s.number;
    workers = rw (k, items) (all-set P old.kernel.script.figures (past old.kernel) v old.workers.items x s.others r f);
  };
  script = rw k refl;
  events = rw k refl;
}
