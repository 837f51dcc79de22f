-- A session with its own steps, and what is kept of it.
use Rattle.std.specs.Prelude.{◌≡◌, ℕ, false, if◌then◌else◌, List, []}
use Rattle.hist_model.specs.Copies.{heard, plan}
use Rattle.hist_model.specs.ReportAudit.{Judging, checked_twice, finding_of, joined, reads, sent_back}
use Rattle.hist_model.specs.declared.event.What.{What}
use Rattle.hist_model.specs.declared.report.Finding.{Finding}
use Rattle.hist_model.specs.declared.report.Finding.TheVariants.{Gone, Open, Spent, Granted, Denied, Passed, Injected}
use Rattle.arg_capture.specs.Captures.{Captured, Follows}
use Rattle.sys_abi.specs.declared.wire.Notif.{Notif}
use Rattle.audit_log.specs.SessionFacts.{facts_of}
use Rattle.audit_log.specs.SessionStages.{stages_joined}
use Rattle.audit_log.specs.declared.session.SessionRecord.{SessionRecord}
use Rattle.audit_log.specs.declared.session_stages.Stages.{Stages}

-- a session: the place of the event that begins it, its worker, the notification, its own steps, the newest first, and where they stand
pub record Begun : Type 0 where
  pub place : ℕ
  pub worker : ℕ
  pub notif : Notif
  pub steps : List What
  pub stages : Stages

-- a session with one more step of its worker, which has this place
abbrev pub with_step : ℕ → What → Begun → Begun
with_step place a s = record {
  place = s.place;
  worker = s.worker;
  notif = s.notif;
  steps = joined s.steps a;
  stages = stages_joined place s.steps a s.stages;
}

-- ---- What is kept of a session

-- what it came to once its second check was good, whether or not its effect was refused
abbrev pub found_so_far : Judging → Notif → List What → Finding
found_so_far J notif own = if checked_twice own then finding_of (J.judge notif (reads own)) false else Open

-- what it came to where its effect was refused since the rule's times were spent
abbrev pub spent : Finding → Finding
spent (Granted i) = Spent i
spent (Denied i) = Spent i
spent (Passed i) = Spent i
spent (Injected i) = Spent i
spent found = found

-- what it came to, by what is kept of it
abbrev pub finding_in : SessionRecord → Finding
finding_in x = if x.facts.gone then Gone else (if x.facts.spent then spent x.found else x.found)

-- what is kept of a session with these steps
abbrev pub told : Judging → Begun → SessionRecord
told J s = record {
  place = s.place;
  worker = s.worker;
  id = s.notif.id;
  nr = s.notif.call.nr;
  facts = facts_of s.steps;
  back = sent_back s.steps;
  found = found_so_far J s.notif s.steps;
  stages = s.stages;
}

-- it received the notification, and up to its second good check, a capture follows what it reads
abbrev pub IsRead : Begun → Notif → Captured → Type 0
IsRead s n c = (s.notif ≡ n)
    × (checked_twice s.steps ≡ false → Follows (plan n.call.nr n.call.args) (heard (plan n.call.nr n.call.args) [] (reads s.steps)) c)
