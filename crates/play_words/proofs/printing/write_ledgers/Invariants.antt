use Rattle.std.proofs.Common.{take, Ok}
use Rattle.std.specs.List.{flat_map}
use Rattle.audit_log.specs.Written.{Wrote}
use Rattle.play_words.proofs.Handovers.{line_of_handed}
use Rattle.play_words.proofs.printing.write_ledgers.Given as goal

abbrev pub invariant-loop-index : goal.invariant-loop-index
invariant-loop-index g l = Wrote (g.O.Sink.state l.fn.out) (flat_map line_of_handed (take l.index l.handed)) (Ok tt) (g.O.Sink.state l.out)
