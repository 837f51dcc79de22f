-- What it means that a play is judged: it goes on to where its steps lead, unless a clause is broken before.
use Rattle.std.specs.Prelude.{◌≡◌, ◌⊎◌, ℕ, suc, false, List, ◌∷◌, ◌++◌, length, Option, Some, None, IsSome}
use Rattle.broker_core.specs.declared.worker.Worker.{Worker}
use Rattle.hist_model.specs.declared.event.Event.{Event}
use Rattle.hist_model.specs.declared.policy.Policy.{Policy}
use Rattle.judge_pass.specs.Finding.{Watches}
use Rattle.judge_pass.specs.declared.watch.FirstFault.{FirstFault}
use Rattle.model_kernel.specs.Kernels.{IsKernel, past}
use Rattle.hist_model.specs.declared.script.Script.{Script}
use Rattle.step_requests.specs.declared.request.Asked.{Asked}
use Rattle.step_requests.specs.declared.request.Turn.{Turn}
use Rattle.asked_steps.specs.Steps.{IsBegun, after_asked, is_closed}
use Rattle.turn_player.specs.Serving.{Knows, ServerKnows, ServersKnow}
use Rattle.turn_player.specs.declared.judged.Court.{Court}

-- the event that was found is the newest
abbrev pub StopsAt : List Event → Option FirstFault → Type 0
StopsAt K (Some found) = length K ≡ suc found.place
StopsAt K None = Unit {0}

-- the judge has heard all that the kernel's history has, which isn't closed, and goes no further than to what is found
pub record IsWatched (P : Policy) (c : Court) : Type 0 where
  pub kernel : IsKernel c.kernel
  pub begun : IsBegun c.kernel.script (past c.kernel)
  pub open_still : is_closed (past c.kernel) ≡ false
  pub watches : Watches P c.kernel.script (past c.kernel) c.watch
  pub stops : StopsAt (past c.kernel) c.watch.found

-- the first history is the second, or goes on from it
abbrev pub GoesOnFrom : List Event → List Event → Type 0
GoesOnFrom K H = (later : List Event) × (K ≡ later ++ H)

-- what leads to a history was played, and no further than to the first clause that is broken
pub record IsPlayed (P : Policy) (old : Court) (K : List Event) (new : Court) : Type 0 where
  pub watched : IsWatched P new
  pub script : new.kernel.script ≡ old.kernel.script
  -- all of it, where none is broken
  pub whole : new.watch.found ≡ None → past new.kernel ≡ K
  pub begins : GoesOnFrom K (past new.kernel)
  -- nothing, where one was broken before
  pub stays : IsSome old.watch.found → (past new.kernel ≡ past old.kernel) × IsSome new.watch.found

-- the judge has heard the first so many events of the kernel's history, which are all or all but the newest
pub record IsNewer (P : Policy) (c : Court) (heard : ℕ) : Type 0 where
  pub before : List Event
  pub number : length before ≡ heard
  pub watches : Watches P c.kernel.script before c.watch
  pub newer : (past c.kernel ≡ before) ⊎ ((e : Event) × (past c.kernel ≡ e ∷ before))

-- what a worker of another broker asks for
abbrev pub requested : Script → ℕ → Asked → List Event → List Event
requested S w asked K = after_asked S K w asked

-- ---- what workers remember

-- while no clause is broken, the worker remembers its session
abbrev pub StillKnows : Policy → Court → ℕ → Worker → Type 0
StillKnows P c w worker = c.watch.found ≡ None → Knows P c.kernel w worker

-- and so does each that steps in these lines, or in this one
abbrev pub ServersStillKnow : Policy → Court → List Turn → List Worker → Type 0
ServersStillKnow P c turns workers = c.watch.found ≡ None → ServersKnow P c.kernel turns workers

abbrev pub ServerStillKnows : Policy → Court → Turn → List Worker → Type 0
ServerStillKnows P c turn workers = c.watch.found ≡ None → ServerKnows P c.kernel turn workers
