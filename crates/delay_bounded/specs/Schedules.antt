-- The schedule with which a script plays a history.
use Rattle.std.specs.Prelude.{◌+◌, Bool, false, if◌then◌else◌, ◌==◌, List, [], ◌∷◌}
use Rattle.hist_model.specs.Look.{name_eq}
use Rattle.hist_model.specs.declared.event.Actor.{Actor}
use Rattle.hist_model.specs.declared.event.Actor.TheVariants.{Task, Worker}
use Rattle.hist_model.specs.declared.event.Event.{Event}
use Rattle.hist_model.specs.declared.script.Step.{Step}

-- the two are one task, or one worker
abbrev pub is_same : Actor → Actor → Bool
is_same (Task m) (Task n) = name_eq m n
is_same (Worker v) (Worker w) = v == w
is_same _ _ = false

-- a schedule's lines, the newest first, with one more step of an actor
abbrev pub with_one : Actor → List Step → List Step
with_one a [] = record { who = a; count = 1 } ∷ []
with_one a (s ∷ more) =
    if is_same s.who a then record { who = s.who; count = s.count + 1 } ∷ more else record { who = a; count = 1 } ∷ s ∷ more

-- tasks and workers are scheduled
abbrev pub with_step_of : Actor → List Step → List Step
with_step_of (Task n) steps = with_one (Task n) steps
with_step_of (Worker w) steps = with_one (Worker w) steps
with_step_of _ steps = steps

-- the schedule of a history, the newest line first: a line for each run of an actor's steps
unfoldable pub schedule_of : List Event → List Step
schedule_of [] = []
schedule_of (e ∷ K) = with_step_of e.who (schedule_of K)
