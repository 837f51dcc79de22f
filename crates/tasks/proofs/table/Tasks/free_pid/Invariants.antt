use Rattle.std.proofs.Common.{◌≡◌, ◌-◌, ◌+◌, List}
use Rattle.hist_model.specs.Tasks.{free_from}
use Rattle.hist_model.specs.declared.event.Event.{Event}
use Rattle.hist_model.specs.declared.script.Script.{Script}
use Rattle.tasks.specs.Stands.{StandsFor}
use Rattle.tasks.proofs.table.Tasks.free_pid.Given as goal

abbrev pub invariant-loop-pid : goal.invariant-loop-pid
invariant-loop-pid l = (S : Script) (K : List Event) → StandsFor S K l.self → free_from K (l.last - l.below) (l.below + 1) ≡ free_from K (l.last - l.pid) (l.pid + 1)

abbrev pub decreases-loop-pid : goal.decreases-loop-pid
decreases-loop-pid l = l.last - l.pid
