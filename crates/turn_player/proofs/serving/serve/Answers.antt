-- The worker's step, where what it has open and asked for allows it.
-- By `allowed`, which says that the test is enough, and by what came of the worker's turn.
use Rattle.std.proofs.Common.{ap, sym, refl, ◌∙◌}
use Rattle.hist_model.specs.Legal.{rules_of}
use Rattle.hist_model.specs.Sessions.{deed, session}
use Rattle.model_kernel.specs.Kernels.{past, system}
use Rattle.broker_machine.specs.Workers.{is_step}
use Rattle.turn_player.specs.Turns.{is_allowed}
use Rattle.turn_player.proofs.Servers.{allowed, knows_after, next_is, unserved, worker_came}
use Rattle.turn_player.proofs.serving.serve.Goals as goal

pub returns-then-not-is_allowed-clause-came : goal.returns-then-not-is_allowed-clause-came
returns-then-not-is_allowed-clause-came c =
    let k = c.args.kernel.now in
    let next = next_is c.args.policy.now k c.args.number c.args.worker.now c.next.result c.requires.knows c.next.ensures.deed in
    unserved c.args.policy.now k c.args.number c.requires.kernel (ap (is_allowed (past k) c.args.number) (sym next) ∙ sym c.is_allowed.ensures ∙ c.if-not-is_allowed.true)

pub worker_turn-requires-clause-allowed : goal.worker_turn-requires-clause-allowed
worker_turn-requires-clause-allowed c few =
    let k = c.args.kernel.now in
    let R = rules_of c.args.policy.now k.script.figures in
    let next = next_is c.args.policy.now k c.args.number c.args.worker.now c.next.result c.requires.knows c.next.ensures.deed in
    allowed (system k) R (past k) c.args.number (deed R (session (past k) c.args.number)) refl
    (ap (is_allowed (past k) c.args.number) (sym next) ∙ sym c.is_allowed.ensures ∙ c.if-not-is_allowed.false)

pub returns-clause-came : goal.returns-clause-came
returns-clause-came c =
    let k = c.args.kernel.now in
    let next = next_is c.args.policy.now k c.args.number c.args.worker.now c.next.result c.requires.knows c.next.ensures.deed in
    worker_came c.args.policy.now k c.args.number c.worker_turn.new.kernel (is_step c.in_ok-_came._came)
    (ap (is_allowed (past k) c.args.number) (sym next) ∙ sym c.is_allowed.ensures ∙ c.if-not-is_allowed.false) c.in_ok-_came.ensures.step

pub returns-clause-knows : goal.returns-clause-knows
returns-clause-knows c =
    knows_after c.args.policy.now c.args.kernel.now c.args.number c.worker_turn.new.kernel _ c.worker_turn.new.worker (returns-clause-came c) c.in_ok-_came.ensures.remembers c.in_ok-_came.ensures.figures
