-- By `advanced_ok`, or by `idle_ok` where the worker began no session.
use Rattle.std.proofs.Common.{refl, arith}
use Rattle.std.specs.Vec.{with_item}
use Rattle.audit_log.proofs.SessionRows.{advanced_ok, idle_ok}
use Rattle.audit_log.specs.declared.session_table.SessionTable.{SessionTable}
use Rattle.audit_log.proofs.session_table.SessionTable.advance.Goals as goal

pub returns : goal.returns
returns c = λ S k.
    let u : SessionTable = record { alloc = c.args.self.now.alloc; rows = c.step.new.rows; workers = with_item c.args.self.now.workers c.from-number.result c.step.new.self } in
    advanced_ok c.step.result c.args.policy.now.rules S c.args.self.now u c.args.place c.args.worker c.from-number.result c.args.what.now c.index_mut-current.result.now c.step.new.self _
    k (omega arith) c.from-number.ensures c.requires c.index_mut-current.ensures.value c.step.ensures refl

pub returns-then-number-len : goal.returns-then-number-len
returns-then-number-len c = λ S k. idle_ok c.args.policy.now.rules S c.args.self.now c.args.place c.args.worker c.from-number.result c.args.what.now k c.from-number.ensures (omega arith)
