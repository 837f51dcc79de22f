-- What is kept of the calls and of the sessions of a history.
use Rattle.std.specs.Prelude.{◌≡◌, List, map}
use Rattle.hist_model.specs.ReportAudit.{judging_by}
use Rattle.hist_model.specs.declared.event.Event.{Event}
use Rattle.hist_model.specs.declared.policy.Rule.{Rule}
use Rattle.audit_log.specs.Begun.{told}
use Rattle.audit_log.specs.CallTable.{TellsCalls}
use Rattle.audit_log.specs.Counts.{AreCounted}
use Rattle.audit_log.specs.Sessions.{begun}
use Rattle.audit_log.specs.declared.tables.Tables.{Tables}

-- what is kept is so of the history, by these rules
pub record TellsTables (rules : List Rule) (H : List Event) (t : Tables) : Type 0 where
  pub calls : TellsCalls H t.calls
  pub sessions : t.sessions.items ≡ map (told (judging_by rules)) (begun H H)
  pub counts : AreCounted H t.counts
