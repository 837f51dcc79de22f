-- What the workers of a broker remember, and what the kernel knows of a worker before a deed and after it.
use Rattle.std.specs.Prelude.{◌≡◌, ◌<◌, ◌^◌, ℕ, Bool, true, false, List, length, get_or, None, ⊤}
use Rattle.listener.specs.Puts.{is_known}
use Rattle.hist_model.specs.Legal.{rules_of}
use Rattle.hist_model.specs.Sessions.{deed, session}
use Rattle.hist_model.specs.Deeds as definition
use Rattle.hist_model.specs.Kinds.{skips}
use Rattle.hist_model.specs.Look.{ev}
use Rattle.hist_model.specs.Steps.{deed_step, mem, request_of, worker_step}
use Rattle.hist_model.specs.declared.event.Event.{Event}
use Rattle.hist_model.specs.declared.event.Actor.TheVariants.{Worker as WorkerActor}
use Rattle.hist_model.specs.declared.event.What.{What}
use Rattle.hist_model.specs.declared.event.What.TheVariants.{Skip}
use Rattle.hist_model.specs.declared.policy.Policy.{Policy}
use Rattle.hist_model.specs.declared.script.Figures.{Figures}
use Rattle.broker_core.specs.Answers.{shown}
use Rattle.broker_core.specs.Deeds.{due}
use Rattle.broker_core.specs.Remembered.{IsReady, Remembers}
use Rattle.broker_core.specs.declared.deed.Deed.{Deed}
use Rattle.broker_core.specs.declared.deed.Deed.TheVariants.{AddfdPut, AddfdTake, Plant}
use Rattle.broker_core.specs.declared.worker.Worker.{Worker}
use Rattle.model_kernel.specs.Kernels.{DoesDeed, IsAfter, past, system}
use Rattle.model_kernel.specs.Ready.{IsSame}
use Rattle.model_kernel.specs.declared.kernel.Kernel.{Kernel}
use Rattle.broker_machine.specs.declared.deeds.WorkerStep.{WorkerStep}
use Rattle.broker_machine.specs.declared.deeds.WorkerStep.TheVariants.{Waits}

-- each worker remembers its session, and knows the container's figures
abbrev pub AllRemember : Policy → Figures → List Event → List Worker → Type 0
AllRemember P F K workers =
    (w : ℕ) (d : Worker) → w < length workers → Remembers P (session K w) (get_or workers w d) × ((get_or workers w d).figures ≡ F)

-- each worker but this one does, and knows them
abbrev pub OthersRemember : Policy → Figures → List Event → ℕ → List Worker → Type 0
OthersRemember P F K n workers = (w : ℕ) (d : Worker) → w < length workers → (w ≡ n → ⊥)
    → Remembers P (session K w) (get_or workers w d) × ((get_or workers w d).figures ≡ F)

-- the worker plants into a memory that it has open, has no request when it puts one, and has the one that it takes
abbrev pub Allows : List Event → ℕ → Deed → Type 0
Allows K w (Plant addr cap) = mem K w ≡ None → ⊥
Allows K w (AddfdPut asked) = (request_of K w ≡ None) × (is_known asked ≡ true)
Allows K w AddfdTake = request_of K w ≡ None → ⊥
Allows K w deed = ⊤

-- the worker remembers what it did, the same deed is due, and it is as ready
pub record KeepsOn (old new : Worker) : Type 0 where
  pub known : (P : Policy) (own : List What) → Remembers P own old → Remembers P own new
  pub ready : IsReady old → IsReady new
  pub same : due new ≡ due old
  pub figures : new.figures ≡ old.figures

-- the deed that a worker has next, by the definitions
abbrev pub next_of : Policy → Kernel → ℕ → definition.Deed
next_of P k n = deed (rules_of P k.script.figures) (session (past k) n)

-- what the worker has open and asked for allows the deed that it has next
abbrev pub IsAllowed : Policy → Kernel → ℕ → Type 0
IsAllowed P k n = length (past k) < 2 ^ 64 → Allows (past k) n (shown (next_of P k n))

-- the deed was done, which was a step; or it waits, and nothing has changed
abbrev pub TriesDeed : Kernel → ℕ → definition.Deed → Bool → Kernel → Type 0
TriesDeed old n d true new = DoesDeed old n d new × (skips (deed_step (system old) (past old) n d) ≡ false)
TriesDeed old n d false new = IsSame old new × (deed_step (system old) (past old) n d ≡ Skip)

-- what was due for the worker was tried; the worker still remembers its session, and has not taken the answer
pub record HasTried (P : Policy) (old : Kernel) (n : ℕ) (d : Deed) (stepped : Bool) (new : Kernel) (worker : Worker) : Type 0 where
  pub tries : TriesDeed old n (next_of P old n) stepped new
  pub remembers : Remembers P (session (past old) n) worker
  pub figures : worker.figures ≡ old.script.figures
  pub due : d ≡ due worker
  pub next : d ≡ shown (next_of P old n)

-- the step that a worker has next, by the definitions
abbrev pub step_due : Policy → Kernel → ℕ → What
step_due P k n = worker_step (system k) (rules_of P k.script.figures) (past k) n

-- what came of a worker's turn says that it made a step
abbrev pub is_step : WorkerStep → Bool
is_step Waits = false
is_step came = true

-- the worker made its step; or it waits, and nothing has changed
abbrev pub TriesStep : Policy → Kernel → ℕ → Bool → Kernel → Type 0
TriesStep P old n true new = IsAfter old (ev (WorkerActor n) (step_due P old n)) new × (skips (step_due P old n) ≡ false)
TriesStep P old n false new = IsSame old new × (step_due P old n ≡ Skip)
