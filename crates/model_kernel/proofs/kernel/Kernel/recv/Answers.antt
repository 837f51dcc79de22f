use Rattle.std.proofs.Common.{Ok, Err, refl, ap, ◌∙◌}
use Rattle.hist_model.specs.Steps.{recv_answer}
use Rattle.sys_abi.specs.Errnos.{enoent}
use Rattle.model_kernel.proofs.Words.{past}
use Rattle.model_kernel.proofs.Buffers.{answered, buffer-filled, told-answer, told-empty}
use Rattle.model_kernel.proofs.kernel.Kernel.recv.Goals as goal

pub returns-in-Ok-clause-answer : goal.returns-in-Ok-clause-answer
returns-in-Ok-clause-answer c = told-answer (past c.args.self.now) c.args.buf.now (Ok c.in-Ok.notif) (c.in_default.ensures.zeros.0 refl) (c.in-Ok.ensures.counted (λ e. cc)) c.in-Ok.ensures.next

pub returns-in-Ok-clause-buffer : goal.returns-in-Ok-clause-buffer
returns-in-Ok-clause-buffer c = c.to_bytes.ensures.bytes ∙ buffer-filled (past c.args.self.now) c.args.buf.now (Ok c.in-Ok.notif) (c.in_default.ensures.zeros.0 refl) (c.in-Ok.ensures.counted (λ e. cc)) c.in-Ok.ensures.next

pub returns-in-Ok-clause-same : goal.returns-in-Ok-clause-same
returns-in-Ok-clause-same c none = cc (answered (past c.args.self.now) c.args.buf.now (c.in_default.ensures.zeros.0 refl) (c.in-Ok.ensures.counted (λ e. cc)))

pub returns-in-Err-Gone-clause-answer : goal.returns-in-Err-Gone-clause-answer
returns-in-Err-Gone-clause-answer c =
    let gone = rw c.in-Err-Gone.field-0-is at c.in-Err-Gone.ensures in
    told-answer (past c.args.self.now) c.args.buf.now (Err enoent) (c.in_default.ensures.zeros.0 refl) (gone.counted (λ e. cc)) (ap (recv_answer (past c.args.self.now)) (gone.gone refl))

pub returns-in-Err-Gone-clause-same : goal.returns-in-Err-Gone-clause-same
returns-in-Err-Gone-clause-same c none =
    let gone = rw c.in-Err-Gone.field-0-is at c.in-Err-Gone.ensures in
    cc (answered (past c.args.self.now) c.args.buf.now (c.in_default.ensures.zeros.0 refl) (gone.counted (λ e. cc)))

pub returns-in-Err-Empty-clause-answer : goal.returns-in-Err-Empty-clause-answer
returns-in-Err-Empty-clause-answer c =
    let empty = rw c.in-Err-Empty.field-0-is at c.in-Err-Empty.ensures in
    told-empty (past c.args.self.now) c.args.buf.now (c.in_default.ensures.zeros.0 refl) (empty.none refl)
