use Rattle.std.proofs.Common.{sym, ◌∙◌}
use Rattle.model_kernel.proofs.CallStates.{is_answered, is_fetched, is_unfetched}
use Rattle.model_kernel.proofs.Words.{past}
use Rattle.model_kernel.proofs.kernel.Kernel.state_of.Goals as goal

pub returns-then-not-was_received : goal.returns-then-not-was_received
returns-then-not-was_received c place here =
    let k = c.args.self.now in
    let stands = c.requires.resources.listener in
    is_unfetched k.script.firstid (past k) k.resources.listener stands place c.args.id here (sym (c.was_received.ensures k.script.firstid (past k) place stands here) ∙ c.if-not-was_received.true)

pub returns-in-Ok : goal.returns-in-Ok
returns-in-Ok c place here =
    let k = c.args.self.now in
    let stands = c.requires.resources.listener in
    is_fetched k.script.firstid (past k) k.resources.listener stands place c.args.id here (sym (c.was_received.ensures k.script.firstid (past k) place stands here) ∙ c.if-not-was_received.false)
    (c.in-Ok.ensures k.script.firstid (past k) stands)

pub returns-in-Err : goal.returns-in-Err
returns-in-Err c place here =
    let k = c.args.self.now in
    let stands = c.requires.resources.listener in
    is_answered k.script.firstid (past k) k.resources.listener stands place c.args.id here _ (sym (c.was_received.ensures k.script.firstid (past k) place stands here) ∙ c.if-not-was_received.false)
    (c.in-Err.ensures k.script.firstid (past k) stands)
