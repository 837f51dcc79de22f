-- What is kept of the calls and of the sessions while the events are gone through.
use Rattle.std.specs.Prelude.{List}
use Rattle.hist_model.specs.declared.event.Event.{Event}
use Rattle.hist_model.specs.declared.policy.Rule.{Rule}
use Rattle.audit_log.specs.CallPass.{TellsPast}
use Rattle.audit_log.specs.Counts.{AreCounted}
use Rattle.audit_log.specs.Sessions.{begun}
use Rattle.audit_log.specs.SessionTable.{StandsFor}
use Rattle.audit_log.specs.declared.tables.Pass.{Pass}

-- it is so of these events, by these rules
pub record HasPast (rules : List Rule) (K : List Event) (p : Pass) : Type 0 where
  pub calls : TellsPast K p.calls
  pub sessions : StandsFor rules (begun K K) p.sessions
  pub counts : AreCounted K p.counts
