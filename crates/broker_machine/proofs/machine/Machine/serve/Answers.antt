-- A worker's turn in a legal history, whose order of deeds allows what is due.
-- By `allows`, and by the lemmas of `Turns` on what came of the turn.
use Rattle.std.proofs.Common.{refl, arith}
use Rattle.std.proofs.lemmas.Result.{IfOk-weaker, on_err_weaker}
use Rattle.hist_model.specs.Legal.{rules_of}
use Rattle.model_kernel.specs.Kernels.{past, system}
use Rattle.broker_machine.specs.Workers.{is_step}
use Rattle.broker_machine.proofs.Allowed.{allows}
use Rattle.broker_machine.proofs.Turns.{worker_stayed, worker_tried}
use Rattle.broker_machine.proofs.machine.Machine.serve.Goals as goal

pub worker_turn-requires-clause-allowed : goal.worker_turn-requires-clause-allowed
worker_turn-requires-clause-allowed c few =
    let old = c.args.self.now.kernel in
    allows (system old) (rules_of c.args.policy.now old.script.figures) (past old) c.args.number c.requires.served.goes_on.legal few

pub returns-clause-done : goal.returns-clause-done
returns-clause-done c =
    IfOk-weaker c.worker_turn.result _ _
    (λ came. worker_tried c.args.policy.now c.args.self.now _ c.requires.served c.args.number c.worker_turn.new.worker refl c.worker_turn.ensures.remembers c.worker_turn.ensures.figures (omega arith) (is_step came))
    c.worker_turn.ensures.step

pub returns-clause-same : goal.returns-clause-same
returns-clause-same c =
    on_err_weaker c.worker_turn.result
    (worker_stayed c.args.policy.now c.args.self.now _ c.requires.served c.args.number c.worker_turn.new.worker refl c.worker_turn.ensures.remembers c.worker_turn.ensures.figures)
    c.worker_turn.ensures.same
