-- EFAULT ends the capture.
use Rattle.std.proofs.Common.{◌∷◌, ◌∙◌, sym, ap, append_assoc, Err, []}
use Rattle.arg_capture.specs.Captures.{Captured, continued, wanted, answer_of, Answers}
use Rattle.hist_model.specs.Copies.{progress}
use Rattle.arg_capture.proofs.Steps.{faults}
use Rattle.sys_abi.specs.Errnos.{efault}
use Rattle.arg_capture.proofs.capture.Capture.feed.Goals as goal

pub returns-in-Err-clause-goes_on : goal.returns-in-Err-clause-goes_on
returns-in-Err-clause-goes_on c = λ later.
    let v : Captured = record { reached = c.self.inside.reading; fault = c.self.inside.fault } in
    let h : Answers (wanted (continued c.args.self.now [])) (Err efault) = rw c.in-Err.is at c.requires in
    rw c.in-Err.is (faults c.args.self.now v later c.self.view_is c.self.invariant h)

pub returns-in-Err-clause-follows : goal.returns-in-Err-clause-follows
returns-in-Err-clause-follows c = λ parts answers f later.
    returns-in-Err-clause-goes_on c later ∙ f (answer_of c.args.got ∷ later) ∙ sym (ap (progress parts) (append_assoc answers (answer_of c.args.got ∷ []) later))
