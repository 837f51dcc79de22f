use Rattle.std.proofs.Common.{◌≡◌, ◌<◌, List, ◌++◌, drop}
use Rattle.hist_model.specs.declared.event.Event.{Event}
use Rattle.hist_model.specs.declared.script.Script.{Script}
use Rattle.history_frames.specs.Ordinals.{tasks_made, task_name_of}
use Rattle.tasks.specs.Stands.{StandsFor}
use Rattle.tasks.proofs.table.Tasks.find.Given as goal

abbrev pub invariant-loop-number : goal.invariant-loop-number
invariant-loop-number l = (S : Script) (K : List Event) → StandsFor S K l.self → (l.task < tasks_made K) × (task_name_of K l.task ++ drop l.number-index l.children ≡ l.fn.name)
