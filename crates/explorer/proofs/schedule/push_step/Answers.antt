-- The newest line has one more step.
use Rattle.std.proofs.Common.{sym, ◌-◌, ◌∙◌, arith}
use Rattle.explorer.proofs.Scheduling.{one_more}
use Rattle.explorer.proofs.schedule.push_step.Goals as goal

pub returns-then-is_same : goal.returns-then-is_same
returns-then-is_same c =
    one_more c.args.who.now c.args.lines.now.items (c.len-len.result - 1) c.index.result.now c.index_mut.result.now (omega (arith, c.len-len.ensures, c.if-len-gt0.true)) c.index.ensures c.index_mut.ensures.value (sym c.is_same.ensures ∙ c.if-is_same.true)
