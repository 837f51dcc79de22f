-- What is written of a session by what is kept of it.
use Rattle.std.specs.Prelude.{ℕ, ℤ, ◌||◌, List, [], Option, is_some}
use Rattle.hist_model.specs.ReportAudit.{Judging, answer_of, arrival_of, audit_line_of}
use Rattle.hist_model.specs.declared.report.Audit.{Audit}
use Rattle.sys_abi.specs.declared.wire.Notif.{Notif}
use Rattle.audit_log.specs.Begun.{finding_in}
use Rattle.audit_log.specs.declared.session.SessionRecord.{SessionRecord}
use Rattle.audit_log.specs.CallTable.{number_in}
use Rattle.audit_log.specs.declared.kept_calls.CallTable.{CallTable}

-- what came of a session for whose call this number was installed
abbrev pub audited : Option ℕ → SessionRecord → Audit
audited number x =
    record { finding = finding_in x; answer = answer_of x.back number; arrival = arrival_of (x.facts.sent || is_some number) x.facts.lost }

-- what its line tells of a notification, by its id and the number of its call
abbrev pub named : ℕ → ℤ → Notif
named id nr = record { id = id; pid = 0; flags = 0; call = record { nr = nr; arch = 0; ip = 0; args = [] } }

-- its line
abbrev pub session_line : Judging → CallTable → SessionRecord → List ℕ
session_line J t x = audit_line_of J x.place x.worker (named x.id x.nr) (audited (number_in t x.place) x)
