use Rattle.std.proofs.Common.{take}
use Rattle.std.specs.List.{flat_map}
use Rattle.audit_log.specs.Records.{line_at}
use Rattle.audit_log.specs.Written.{Gathered}
use Rattle.audit_log.proofs.calls.write_entered.Given as goal

abbrev pub invariant-loop-row : goal.invariant-loop-row
invariant-loop-row g l = Gathered (g.O.Sink.state l.fn.out) (flat_map (line_at l.entered l.history.events) (take l.row l.entered.places.items)) l.line (g.O.Sink.state l.out)
