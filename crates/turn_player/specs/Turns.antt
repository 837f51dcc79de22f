-- The history that a schedule plays in which a worker of another broker has requests. A history has its newest event first.
use Rattle.std.specs.Prelude.{◌≡◌, ℕ, zero, suc, ◌≤◌, Bool, true, not, if◌then◌else◌, List, [], ◌∷◌, is_some}
use Rattle.broker_core.specs.Answers.{shown}
use Rattle.broker_core.specs.declared.deed.Deed.{Deed}
use Rattle.broker_core.specs.declared.deed.Deed.TheVariants.{AddfdPut, AddfdTake, Plant}
use Rattle.hist_model.specs.Legal.{rules_of, started, system_of}
use Rattle.hist_model.specs.Look.{Name, ev}
use Rattle.hist_model.specs.Names.{is_task_name}
use Rattle.hist_model.specs.Sessions.{deed, session}
use Rattle.hist_model.specs.Steps.{mem, request_of, worker_step}
use Rattle.hist_model.specs.declared.event.Actor.{Actor}
use Rattle.hist_model.specs.declared.event.Actor.TheVariants.{Listener, Task, Worker}
use Rattle.hist_model.specs.declared.event.Event.{Event}
use Rattle.hist_model.specs.declared.event.What.TheVariants.{Close}
use Rattle.hist_model.specs.declared.policy.Policy.{Policy}
use Rattle.hist_model.specs.declared.script.Script.{Script}
use Rattle.hist_model.specs.declared.script.Step.{Step}
use Rattle.step_requests.specs.declared.request.Turn.{Turn}
use Rattle.step_requests.specs.declared.request.Turn.TheVariants as turn
use Rattle.asked_steps.specs.Steps.{after_asked, after_task, with_step}

-- ---- steps

-- the history after the same was done so often
unfoldable pub after_times : (List Event → List Event) → List Event → ℕ → List Event
after_times f K zero = K
after_times f K (suc count) = f (after_times f K count)

-- the history after a task's step; one that it can't make leaves nothing
abbrev pub stepped : Script → Name → List Event → List Event
stepped S n K = after_task S K n

-- what a worker of this project does next
abbrev pub next_deed : Policy → Script → ℕ → List Event → Deed
next_deed P S w K = shown (deed (rules_of P S.figures) (session K w))

-- what the worker has open, and whether it has a request for a descriptor, allow this; in a legal history they always do
abbrev pub is_allowed : List Event → ℕ → Deed → Bool
is_allowed K w (Plant addr cap) = is_some (mem K w)
is_allowed K w (AddfdPut want) = not (is_some (request_of K w))
is_allowed K w AddfdTake = is_some (request_of K w)
is_allowed K w next = true

-- the history after what the worker does next, if that is allowed; a step that it can't make leaves nothing
abbrev pub served : Policy → Script → ℕ → List Event → List Event
served P S w K =
    if is_allowed K w (next_deed P S w K) then with_step (Worker w) (worker_step (system_of S) (rules_of P S.figures) K w) K else K

-- ---- lines

-- the line of so many steps of an actor; nobody else is scheduled than tasks and workers
abbrev pub turn_by : Actor → ℕ → Turn
turn_by (Task n) count = turn.Steps n count
turn_by (Worker w) count = turn.Serves w count
turn_by _ count = turn.Serves 0 0

-- the line of a schedule's step
abbrev pub turn_of : Step → Turn
turn_of step = turn_by step.who step.count

-- the history after a line; what a worker of another broker asks for and isn't done leaves nothing
abbrev pub after_turn : Policy → Script → List Event → Turn → List Event
after_turn P S K (turn.Steps n count) = after_times (stepped S n) K count
after_turn P S K (turn.Serves w count) = after_times (served P S w) K count
after_turn P S K (turn.Asks w asked) = after_asked S K w asked

-- the history after lines
unfoldable pub after_turns : Policy → Script → List Event → List Turn → List Event
after_turns P S K [] = K
after_turns P S K (t ∷ turns) = after_turns P S (after_turn P S K t) turns

-- the history of a script's start and such a schedule under a policy, at whose end the listener is closed
abbrev pub turned : Policy → Script → List Turn → List Event
turned P S turns = ev Listener Close ∷ after_turns P S (started S) turns

-- tasks have names of the form, and workers numbers from 0 to 15
abbrev pub IsTurn : Turn → Type 0
IsTurn (turn.Steps n count) = is_task_name n ≡ true
IsTurn (turn.Serves w count) = w ≤ 15
IsTurn (turn.Asks w asked) = w ≤ 15
