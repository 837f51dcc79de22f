use Rattle.std.proofs.Common.{sym, ◌∙◌}
use Rattle.judge_pass.proofs.WorkerEvents.{found-valid, found-still}
use Rattle.judge_pass.proofs.HandTests.{as-event}
use Rattle.judge_pass.proofs.judge.Judge.check.Goals as goal

pub returns-then-is_own_id : goal.returns-then-is_own_id
returns-then-is_own_id c P S K e s history kind =
    as-event P S K e _ kind history _ (λ h.
    found-valid P S K c.args.worker c.args.self.now s c.requires.worker c.index_mut.result.now c.index_mut.ensures.value c.args.id h (sym (c.is_own_id.ensures P S K s) ∙ c.if-is_own_id.true)
    c.check.new.self c.check.ensures.rest c.check.ensures.reads c.check.ensures.followed c.check.ensures.checked c.check.ensures.worth)

pub returns-else-is_own_id : goal.returns-else-is_own_id
returns-else-is_own_id c P S K e s history kind =
    as-event P S K e _ kind history _ (λ h. found-still P S K c.args.worker c.args.self.now s c.requires.worker c.args.id h (sym (c.is_own_id.ensures P S K s) ∙ c.if-is_own_id.false))
