use Rattle.std.proofs.Common.{take, reverse}
use Rattle.hist_model.specs.ReportJournal.{lines_of}
use Rattle.audit_log.specs.Written.{Gathered}
use Rattle.audit_log.proofs.part.write_lines.Given as goal

abbrev pub invariant-loop-place : goal.invariant-loop-place
invariant-loop-place g l = Gathered (g.O.Sink.state l.fn.out) (lines_of (g.P.Part.text l.fn.part) (reverse (take l.place l.events))) l.line (g.O.Sink.state l.out)
