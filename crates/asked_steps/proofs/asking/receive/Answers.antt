use Rattle.std.proofs.Common.{subst, sym, ◌∙◌}
use Rattle.model_kernel.proofs.Buffers.{zeros}
use Rattle.step_requests.specs.declared.request.Asked.TheVariants as asks
use Rattle.asked_steps.specs.Stands.{Comes}
use Rattle.asked_steps.proofs.Asked.{no_error, received}
use Rattle.asked_steps.proofs.asking.receive.Goals as goal

pub returns : goal.returns
returns c =
    let k = c.args.kernel.now in
    let new = c.receive-received.new.self in
    let all = zeros c.args.buffer.now (c.check_recv.ensures.zeros.0 (no_error c.check_recv.result (sym c.is_err.ensures.value ∙ c.if-is_err.false))) in
    subst (λ x. Comes k c.args.worker (asks.Recv c.args.buffer.now) x new) (sym c.receipt.ensures) (received k new c.args.worker c.args.buffer.now c.receive-received.result c.requires.kernel all c.receive-received.ensures.done c.receive-received.ensures.counted c.receive-received.ensures.empty c.receive-received.ensures.same)
