use Rattle.std.proofs.Common.{◌∙◌, sym, refl}
use Rattle.tasks.proofs.Asked.{held-next, free-now, free-end}
use Rattle.tasks.proofs.table.Tasks.free_pid.Goals as goal

pub loop-pid-init : goal.loop-pid-init
loop-pid-init c S K s = refl

pub loop-pid-preserved : goal.loop-pid-preserved
loop-pid-preserved c S K s = c.loop-pid.invariant S K s ∙ held-next c.args.self.now c.holder.result c.args.last c.loop-pid.pid c.loop-pid-test.true c.if-is_none.ensures c.holder.ensures.some S K s

pub returns-then-is_none : goal.returns-then-is_none
returns-then-is_none c S K s = sym (c.loop-pid.invariant S K s ∙ free-now c.args.self.now c.holder.result c.args.last c.loop-pid.pid c.loop-pid-test.true c.if-is_none.ensures c.holder.ensures.none S K s)

pub returns : goal.returns
returns c S K s = sym (c.loop-pid.invariant S K s ∙ free-end K c.args.last c.loop-pid.pid c.loop-pid-test.false)
