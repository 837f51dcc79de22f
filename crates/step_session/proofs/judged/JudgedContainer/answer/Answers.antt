use Rattle.std.proofs.Common.{sym, subst}
use Rattle.step_session.specs.Judged.{IsServed}
use Rattle.step_session.proofs.Told.{on_ok}
use Rattle.step_session.proofs.judged.JudgedContainer.answer.Goals as goal

pub returns-in-Judge : goal.returns-in-Judge
returns-in-Judge c =
    on_ok c.judge.result (subst (λ r. IsServed c.args.origin.now r c.args.self.now c.args.line.now c.judge.new.line c.args.self.now) (sym c.in-Judge.is)) c.judge.ensures
