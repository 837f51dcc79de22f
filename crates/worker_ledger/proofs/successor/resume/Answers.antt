-- A worker without a session replays the ledger's answers.
use Rattle.std.proofs.Common.{◌∙◌, [], refl}
use Rattle.worker_ledger.proofs.Fitting.{resumed_none, resumed_some}
use Rattle.worker_ledger.proofs.successor.resume.Goals as goal

pub returns-then-branch : goal.returns-then-branch
returns-then-branch c =
    let r = resumed_some c.args.policy.now c.args.figures c.new-worker.result.figures c.answers.result.now c.args.ledger.own.items c.in_ok-replay.field-0 c.replay.new.worker c.new-worker.ensures.figures c.answers.ensures c.if-branch.true
    (c.in_ok-replay.ensures.replays [] (c.new-worker.ensures.idle c.args.policy.now)) in
    (r.0, r.1, c.in_ok-replay.ensures.figures ∙ c.new-worker.ensures.figures, refl)

pub returns-else-branch : goal.returns-else-branch
returns-else-branch c =
    resumed_none c.args.policy.now c.args.figures c.new-worker.result.figures c.answers.result.now c.args.ledger.own.items c.in_ok-replay.field-0 c.replay.new.worker c.new-worker.ensures.figures c.answers.ensures c.if-branch.false
    (c.in_ok-replay.ensures.replays [] (c.new-worker.ensures.idle c.args.policy.now))
