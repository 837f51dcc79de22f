-- What holds of the sessions of any list of events.
use Rattle.std.specs.Prelude.{◌≡◌, ℕ, false, List, Some, Ok}
use Rattle.hist_model.specs.Look.{ev, event_at}
use Rattle.hist_model.specs.Sessions.{session}
use Rattle.hist_model.specs.ReportAudit.{session_at, is_shut}
use Rattle.hist_model.specs.declared.event.Actor.TheVariants.{Worker}
use Rattle.hist_model.specs.declared.event.Event.{Event}
use Rattle.hist_model.specs.declared.event.What.TheVariants.{Recv}
use Rattle.sys_abi.specs.declared.wire.Notif.{Notif}

-- the steps of a session that worker w began at place r, and that isn't over, are the worker's own since its last good receive
abbrev pub OpenIsOwn : Type 0
OpenIsOwn = (w r : ℕ) (n : Notif) (K : List Event) → event_at K r ≡ Some (ev (Worker w) (Recv (Ok n)))
    → is_shut (session_at w r K) ≡ false → session_at w r K ≡ session K w
