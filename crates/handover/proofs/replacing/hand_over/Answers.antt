-- The ledger's text hands over, so the successor remembers the session and has its ledger.
use Rattle.std.proofs.Common.{◌∙◌}
use Rattle.model_kernel.specs.Kernels.{past}
use Rattle.handover.proofs.Replaced.{step_at}
use Rattle.handover.proofs.replacing.hand_over.Goals as goal

pub successor-requires-clause-step : goal.successor-requires-clause-step
successor-requires-clause-step g c = step_at c.args.number (past c.args.machine.now.kernel) c.args.ledger.now c.requires.behind

pub successor-requires-clause-text : goal.successor-requires-clause-text
successor-requires-clause-text g c = rw c.as_slice.ensures.value (c.args.is_behind, c.in_ok-text.ensures.text c.args.policy.now c.requires.served)

pub successor-requires-clause-count : goal.successor-requires-clause-count
successor-requires-clause-count g c =
    let keeps = c.in_ok-text.ensures.keeps c.args.policy.now c.requires.served in
    c.count-count.ensures ∙ keeps.count

pub returns-clause-text : goal.returns-clause-text
returns-clause-text g c = c.in_ok-text.ensures.text c.args.policy.now c.requires.served

pub returns-clause-served : goal.returns-clause-served
returns-clause-served g c =
    (c.seat_worker.ensures.seated c.args.policy.now (c.stop_worker.ensures.stopped c.args.policy.now c.requires.served) (rw c.stop_worker.ensures.kernel c.in_ok-next.ensures.remembers) (rw c.stop_worker.ensures.kernel c.in_ok-next.ensures.figures)).served
