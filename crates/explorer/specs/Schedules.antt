-- Who is scheduled.
use Rattle.std.specs.Prelude.{Bool, true, false}
use Rattle.hist_model.specs.declared.event.Actor.{Actor}
use Rattle.hist_model.specs.declared.event.Actor.TheVariants.{Task, Worker}

-- tasks and workers are
abbrev pub is_scheduled : Actor → Bool
is_scheduled (Task n) = true
is_scheduled (Worker w) = true
is_scheduled _ = false
