use Rattle.std.proofs.Common.{◌≡◌, take, reverse}
use Rattle.hist_model.specs.ReportJournal.{journal_line, lines_of}
use Rattle.audit_log.specs.Written.{Gathered}
use Rattle.audit_log.proofs.journal.write_events.Given as goal

-- the lines so far are gathered, and the next place is counted
abbrev pub invariant-loop-place : goal.invariant-loop-place
invariant-loop-place g l = record {
  gathered : Gathered (g.O.Sink.state l.fn.out) (lines_of journal_line (reverse (take l.place l.events))) l.line (g.O.Sink.state l.out);
  counted : l.number ≡ l.place;
}
