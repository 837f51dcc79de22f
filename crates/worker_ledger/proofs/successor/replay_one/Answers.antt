-- The deed that is due is that of the worker's steps, and its answer is taken as the definitions have it.
use Rattle.std.proofs.Common.{◌∙◌}
use Rattle.broker_core.specs.Answers.{told}
use Rattle.worker_ledger.proofs.Fitting.{due_stands, taken_as}
use Rattle.worker_ledger.proofs.successor.replay_one.Goals as goal

pub returns-then-not-may_stand-clause-replays : goal.returns-then-not-may_stand-clause-replays
returns-then-not-may_stand-clause-replays c = λ own r.
    let k = c.in_ok-ready.ensures.known own r in
    due_stands c.args.policy.now c.args.worker.now.figures c.ready.new.self.figures own c.next-deed.result (told c.args.got.now) c.may_stand.result c.in_ok-ready.ensures.figures (c.next-deed.ensures.deed c.args.policy.now own k) c.may_stand.ensures ∙ c.if-not-may_stand.true

pub returns-clause-replays : goal.returns-clause-replays
returns-clause-replays c = λ own r.
    let k = c.in_ok-ready.ensures.known own r in (
      due_stands c.args.policy.now c.args.worker.now.figures c.ready.new.self.figures own c.next-deed.result (told c.args.got.now) c.may_stand.result c.in_ok-ready.ensures.figures (c.next-deed.ensures.deed c.args.policy.now own k) c.may_stand.ensures ∙ c.if-not-may_stand.false,
      taken_as c.args.policy.now c.args.worker.now.figures c.ready.new.self.figures own (told c.args.got.now) c.took.new.self c.in_ok-ready.ensures.figures (c.took.ensures.known c.args.policy.now own k),
    )
