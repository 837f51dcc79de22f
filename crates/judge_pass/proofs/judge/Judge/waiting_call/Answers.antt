-- The first row that waits, or none.
use Rattle.std.proofs.Common.{sym, ap, arith, ◌∙◌}
use Rattle.std.specs.Prelude.{is_some}
use Rattle.judge_pass.proofs.WaitingRows.{first_waits, none_waits, some_waits}
use Rattle.judge_pass.proofs.judge.Judge.waiting_call.Goals as goal

pub returns-then-is_unanswered-clause-call : goal.returns-then-is_unanswered-clause-call
returns-then-is_unanswered-clause-call c P S K stands =
    first_waits P S K c.args.self.now c.rows.number c.index.result.now stands (omega arith) c.index.ensures (sym c.is_unanswered.ensures ∙ c.if-is_unanswered.true) c.rows.invariant

pub returns-then-is_unanswered-clause-some : goal.returns-then-is_unanswered-clause-some
returns-then-is_unanswered-clause-some c P S K stands =
    sym (some_waits P S K c.args.self.now c.rows.number c.index.result.now stands (omega arith) (returns-then-is_unanswered-clause-call c P S K stands))

pub returns-clause-call : goal.returns-clause-call
returns-clause-call c P S K stands = sym (none_waits P S K c.args.self.now c.rows.number stands (omega arith) c.rows.invariant)

pub returns-clause-some : goal.returns-clause-some
returns-clause-some c P S K stands = ap is_some (returns-clause-call c P S K stands)
