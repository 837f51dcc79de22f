use Rattle.std.proofs.Common.{take, Ok}
use Rattle.audit_log.specs.Written.{Wrote}
use Rattle.explorer.specs.Printed.{blocks}
use Rattle.explore_words.proofs.outcomes.write_outcomes.Given as goal

abbrev pub invariant-loop-index : goal.invariant-loop-index
invariant-loop-index g l = Wrote (g.O.Sink.state l.fn.out) (blocks 1 (take l.index l.outcomes)) (Ok tt) (g.O.Sink.state l.out)
