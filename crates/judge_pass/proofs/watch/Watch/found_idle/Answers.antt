use Rattle.std.proofs.Common.{◌∙◌}
use Rattle.judge_pass.proofs.WaitingRows.{left_found}
use Rattle.judge_pass.proofs.watch.Watch.found_idle.Goals as goal

pub returns-in-None : goal.returns-in-None
returns-in-None c P S K watches all open-still =
    c.unanswered.ensures
    ∙ left_found P S K c.args.self.now c.args.events c.waiting_call.result watches c.in-None.is all open-still (c.waiting_call.ensures.some P S K (watches.stands c.in-None.is))
