-- Each turn of the loop replays one answer more.
use Rattle.std.proofs.Common.{◌≡◌, ◌∷◌, ◌∙◌, length, rules}
use Rattle.broker_core.specs.Answers.{told}
use Rattle.worker_ledger.proofs.Fitting.{none_left, replay_end, replay_step, replay_stop}
use Rattle.worker_ledger.proofs.successor.replay.Goals as goal

pub returns-then-not-branch-clause-replays : goal.returns-then-not-branch-clause-replays
returns-then-not-branch-clause-replays c = λ own r.
    let e : c.loop-heard.left.now ≡ c.in-Some.heard.now ∷ c.in-Some.rest.now = search rules in
    replay_stop c.args.policy.now c.args.worker.now.figures c.loop-heard.worker.figures own c.args.answers.now c.loop-heard.left.now c.in-Some.rest.now c.in-Some.heard.now (told c.got.result) c.in_ok-replay_one.field-0 c.loop-heard.worker c.replay_one.new.worker
    c.loop-heard.invariant.0 e c.got.ensures c.if-not-branch.true (c.loop-heard.invariant.1 own r) (λ steps k. c.in_ok-replay_one.ensures.replays steps k)

pub loop-heard-preserved : goal.loop-heard-preserved
loop-heard-preserved c =
    let e : c.loop-heard.left.now ≡ c.in-Some.heard.now ∷ c.in-Some.rest.now = search rules in (
      c.in_ok-replay_one.ensures.figures ∙ c.loop-heard.invariant.0,
      λ own r. replay_step c.args.policy.now c.args.worker.now.figures c.loop-heard.worker.figures own c.args.answers.now c.loop-heard.left.now c.in-Some.rest.now c.in-Some.heard.now (told c.got.result) c.in_ok-replay_one.field-0 c.loop-heard.worker c.replay_one.new.worker
          c.loop-heard.invariant.0 e c.got.ensures c.if-not-branch.false (c.loop-heard.invariant.1 own r) (λ steps k. c.in_ok-replay_one.ensures.replays steps k),
    )

pub returns-clause-replays : goal.returns-clause-replays
returns-clause-replays c = λ own r.
    let none : length c.loop-heard.left.now ≡ 0 = search rules in
    replay_end c.args.policy.now c.args.worker.now.figures own c.args.answers.now c.loop-heard.left.now c.loop-heard.worker (none_left c.loop-heard.left.now none) (c.loop-heard.invariant.1 own r)
