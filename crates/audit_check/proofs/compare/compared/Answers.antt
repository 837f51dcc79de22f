-- What was written to the sink tells how the texts compare.
-- By what the sink keeps of its text, and what was written of it (`Compared`).
use Rattle.std.proofs.Common.{◌≤◌, None, Ok, Err, length, sym, subst}
use Rattle.std.specs.Prelude.{IfSome}
use Rattle.audit_log.specs.Written.{Wrote}
use Rattle.audit_log.specs.declared.error.ReportError.TheVariants.{WriteFault}
use Rattle.audit_check.specs.Pass.{Compares}
use Rattle.audit_check.specs.Reading.{rest_of}
use Rattle.audit_check.proofs.Compared.{compares_failed, compares_wrote, known}
use Rattle.audit_check.proofs.compare.compared.Goals as goal

pub returns-in-Err-WriteFault : goal.returns-in-Err-WriteFault
returns-in-Err-WriteFault c =
    let text = c.args.text.now in
    let rest = rest_of c.args.policy.now c.args.history.now.events in
    let out = c.write_rest_by.new.out in
    let wrote : Wrote (known text 0 None) rest (Err WriteFault) (known out.text.now out.same out.other) = rw c.in-Err-WriteFault.field-0-is at c.in-Err-WriteFault.ensures in
    let found = compares_failed text out.text.now rest out.same out.other out.within out.differs wrote in
    record {
      compares = subst (Compares rest text) (sym c.parted.ensures.parts) found.1;
      few = subst (λ same. IfSome c.parted.result (λ n. n ≤ length same)) found.0 c.parted.ensures.few;
    }

pub returns-in-Ok : goal.returns-in-Ok
returns-in-Ok c =
    let text = c.args.text.now in
    let rest = rest_of c.args.policy.now c.args.history.now.events in
    let out = c.write_rest_by.new.out in
    let wrote : Wrote (known text 0 None) rest (Ok tt) (known out.text.now out.same out.other) = c.in-Ok.ensures in
    let found = compares_wrote text out.text.now rest out.same out.other out.within out.differs wrote in
    record {
      compares = subst (Compares rest text) (sym c.parted-in-Ok.ensures.parts) found.1;
      few = subst (λ same. IfSome c.parted-in-Ok.result (λ n. n ≤ length same)) found.0 c.parted-in-Ok.ensures.few;
    }
