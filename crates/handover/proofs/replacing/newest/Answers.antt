-- The newest event is the one at the place before the length.
use Rattle.std.proofs.Common.{arith}
use Rattle.handover.proofs.Newest.{newest_got, newest_none, not_empty}
use Rattle.handover.proofs.replacing.newest.Goals as goal

pub returns-then-is_empty : goal.returns-then-is_empty
returns-then-is_empty c = newest_none c.args.history.now.events c.is_empty.result c.if-is_empty.true c.is_empty.ensures

pub returns-else-is_empty : goal.returns-else-is_empty
returns-else-is_empty c = newest_got (λ e. e.now) c.args.history.now.events _ c.get.result (not_empty c.args.history.now.events c.is_empty.result c.if-is_empty.false c.is_empty.ensures) (omega arith) c.get.ensures.some c.get.ensures.none
