-- The ledger that was read is the one that is resumed.
use Rattle.std.proofs.lemmas.Result.{IfOk-weaker}
use Rattle.worker_ledger.specs.Notes.{HasText}
use Rattle.worker_ledger.specs.Successors.{IsResumed, ResumesIf}
use Rattle.worker_ledger.proofs.Fitting.{resumed_text}
use Rattle.worker_ledger.proofs.successor.resume_text.Goals as goal

pub returns-in-Some : goal.returns-in-Some
returns-in-Some c =
    let t : HasText c.args.bytes.now c.args.no c.in-Some.ledger = rw c.in-Some.is at c.in_ok-ledger.ensures in
    IfOk-weaker c.resume.result (λ o. ResumesIf c.args.policy.now c.args.figures c.in-Some.ledger o) (λ o. IsResumed c.args.policy.now c.args.figures c.args.no c.args.bytes.now o)
    (λ o k. resumed_text c.args.policy.now c.args.figures c.args.no c.args.bytes.now c.in-Some.ledger o t k) c.resume.ensures
