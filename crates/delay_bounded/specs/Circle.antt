-- Who may step next after a history. The actors stand in a circle, and each has a place in it, which it keeps.
use Rattle.std.specs.Prelude.{ℕ, zero, suc, ◌+◌, ◌-◌, ◌%◌, Bool, true, false, ◌&&◌, ◌||◌, not, if◌then◌else◌, nat_lt, List, map, filter}
use Rattle.std.specs.List.{range_with_len}
use Rattle.hist_model.specs.Kinds.{skips}
use Rattle.hist_model.specs.Legal.{is_open_session, rules_of, system_of, with_step}
use Rattle.hist_model.specs.Names.{is_task_name}
use Rattle.hist_model.specs.Sessions.{session}
use Rattle.hist_model.specs.Steps.{step}
use Rattle.hist_model.specs.declared.event.Actor.{Actor}
use Rattle.hist_model.specs.declared.event.Actor.TheVariants.{Task, Worker}
use Rattle.hist_model.specs.declared.event.Event.{Event}
use Rattle.hist_model.specs.declared.policy.Policy.{Policy}
use Rattle.hist_model.specs.declared.script.Script.{Script}
use Rattle.history_frames.specs.Ordinals.{task_name_of, tasks_made}

-- how many actors stand in the circle: the tasks that got a PID, and the workers 0 to W
abbrev pub places : ℕ → List Event → ℕ
places W K = tasks_made K + (W + 1)

-- the actor at a place: the tasks, in the order of their spawns, and then the workers from 0 on
abbrev pub at_place : List Event → ℕ → Actor
at_place K p = if nat_lt p (tasks_made K) then Task (task_name_of K p) else Worker (p - tasks_made K)

-- the worker has a notification in hand
abbrev pub in_hand : List Event → ℕ → Bool
in_hand K w = is_open_session (session K w)

-- so has each worker below it
abbrev pub all_in_hand : List Event → ℕ → Bool
all_in_hand K zero = true
all_in_hand K (suc w) = all_in_hand K w && in_hand K w

-- the actor may step: a task with a name of the form; of the workers that have no notification in hand, the lowest alone
abbrev pub may_step : List Event → Actor → Bool
may_step K (Task n) = is_task_name n
may_step K (Worker w) = in_hand K w || all_in_hand K w
may_step K _ = false

-- the actor is able to step: it may, and its step isn't Skip
abbrev pub is_able : Policy → Script → List Event → Actor → Bool
is_able P S K a = may_step K a && not (skips (step (system_of S) (rules_of P S.figures) K a))

-- the places of a circle of n, from one of them on
abbrev pub round : ℕ → ℕ → List ℕ
round p n = map (λ q. (p + q) % n) (range_with_len 0 n)

-- the places of those that are able to step, in the order of their turns: from the place of the actor that stepped last on
unfoldable pub able : Policy → Script → ℕ → List Event → ℕ → List ℕ
able P S W K p = filter (λ q. is_able P S K (at_place K q)) (round p (places W K))

-- the history with the step of the actor at a place
abbrev pub with_turn : Policy → Script → List Event → ℕ → List Event
with_turn P S K p = with_step P S (at_place K p) K
