-- Who is able to step.
use Rattle.std.specs.Prelude.{ℕ, zero, suc, Bool, not, if◌then◌else◌, ◌==◌, List, [], ◌++◌, codes}
use Rattle.hist_model.specs.Calls.{count}
use Rattle.hist_model.specs.Kinds.{skips}
use Rattle.hist_model.specs.Legal.{system_of}
use Rattle.hist_model.specs.Look.{Name}
use Rattle.hist_model.specs.ReportWords.{name_text}
use Rattle.hist_model.specs.Steps.{task_step}
use Rattle.hist_model.specs.declared.event.Event.{Event}
use Rattle.hist_model.specs.declared.script.Script.{Script}
use Rattle.history_frames.specs.Ordinals.{task_name_of, tasks_made}

abbrev pub able_name : Bool → Name → List ℕ
able_name able n = if able then codes " " ++ name_text n else []

abbrev pub able_recv : Bool → List ℕ
able_recv able = if able then codes " recv" else []

-- the task of this name is able to step
abbrev pub can_step : Script → List Event → Name → Bool
can_step S K n = not (skips (task_step (system_of S) K n))

-- so is the one that was made after so many others
abbrev pub is_able : Script → List Event → ℕ → Bool
is_able S K o = can_step S K (task_name_of K o)

-- those of the first n tasks that are able to step
unfoldable pub able_tasks : Script → List Event → ℕ → List ℕ
able_tasks S K zero = []
able_tasks S K (suc n) = able_tasks S K n ++ able_name (is_able S K n) (task_name_of K n)

-- all of them, and whether a receive wouldn't wait
abbrev pub able_text : Script → List Event → List ℕ
able_text S K = codes "able" ++ able_tasks S K (tasks_made K) ++ able_recv (not (count K == 0)) ++ codes "\n"
