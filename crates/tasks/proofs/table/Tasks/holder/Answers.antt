use Rattle.tasks.specs.Table.{table_of}
use Rattle.tasks.proofs.Asked.{none-holds, reaped-holds, entry-holds}
use Rattle.tasks.proofs.table.Tasks.holder.Goals as goal

pub returns-in_err-entry-clause-none : goal.returns-in_err-entry-clause-none
returns-in_err-entry-clause-none c = rw c.from_residual.ensures (λ S K s.
    none-holds S K (table_of c.args.self.now) s.is_table c.args.pid ((rw c.deref.ensures.value at c.in_err-entry.ensures) s.is_table.whole.indexed.ordered))

pub returns-then-is_reaped-clause-none : goal.returns-then-is_reaped-clause-none
returns-then-is_reaped-clause-none c S K s =
    reaped-holds S K (table_of c.args.self.now) s.is_table c.args.pid c.in_ok-entry.entry c.is_reaped.result ((rw c.deref.ensures.value at c.in_ok-entry.ensures) s.is_table.whole.indexed.ordered) c.is_reaped.ensures c.if-is_reaped.true

pub returns-clause-some : goal.returns-clause-some
returns-clause-some c S K s =
    entry-holds S K (table_of c.args.self.now) s.is_table c.args.pid c.in_ok-entry.entry c.is_reaped.result ((rw c.deref.ensures.value at c.in_ok-entry.ensures) s.is_table.whole.indexed.ordered) c.is_reaped.ensures c.if-is_reaped.false
