-- The history after a step that is asked for. A history has its newest event first.
use Rattle.std.specs.Prelude.{◌<◌, ℕ, Bool, false, if◌then◌else◌, List, [], ◌∷◌, length, Option, Some, None}
use Rattle.hist_model.specs.Deeds.{Deed}
use Rattle.hist_model.specs.Kinds.{closes, skips}
use Rattle.hist_model.specs.Legal.{system_of}
use Rattle.hist_model.specs.Look.{Name, ev}
use Rattle.hist_model.specs.Steps.{IsOfKernel, deed_step, task_step}
use Rattle.hist_model.specs.Tasks.{is_made}
use Rattle.hist_model.specs.declared.event.Actor.{Actor}
use Rattle.hist_model.specs.declared.event.Actor.TheVariants.{Task, Worker}
use Rattle.hist_model.specs.declared.event.Event.{Event}
use Rattle.hist_model.specs.declared.event.What.{What}
use Rattle.hist_model.specs.declared.script.Script.{Script}
use Rattle.step_requests.specs.declared.request.Asked.{Asked}
use Rattle.asked_steps.specs.Asking.{deed_of, refused}
use Rattle.asked_steps.specs.declared.refusal.Refusal.{Refusal}

-- the history with an actor's step, which is an event unless it is a skip
abbrev pub with_step : Actor → What → List Event → List Event
with_step who what K = if skips what then K else ev who what ∷ K

-- the history after a task was to step; where none of this name was made, nothing happens
abbrev pub after_task : Script → List Event → Name → List Event
after_task S K n = if is_made K n then with_step (Task n) (task_step (system_of S) K n) K else K

-- the history after a worker's deed, and where the listener refuses the structure
abbrev pub after_deed : Script → List Event → ℕ → Option Deed → List Event
after_deed S K w None = K
after_deed S K w (Some d) = with_step (Worker w) (deed_step (system_of S) K w d) K

-- the history after what a worker asked for, unless it was refused
abbrev pub after_unless : Script → List Event → ℕ → Asked → Option Refusal → List Event
after_unless S K w asked (Some why) = K
after_unless S K w asked None = after_deed S K w (deed_of asked)

-- the history after what a worker asked for
abbrev pub after_asked : Script → List Event → ℕ → Asked → List Event
after_asked S K w asked = after_unless S K w asked (refused K w asked)

-- ---- of which histories these are

-- a history of the kernel, whoever its workers are, with its first event at least
abbrev pub IsBegun : Script → List Event → Type 0
IsBegun S K = (0 < length K) × IsOfKernel (system_of S) K

-- the newest event is that the listener was closed
abbrev pub is_closed : List Event → Bool
is_closed [] = false
is_closed (e ∷ K) = closes e.what
