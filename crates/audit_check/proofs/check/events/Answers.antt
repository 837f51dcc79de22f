-- Each line of the journal is read, or is a fault.
-- By what the machine's step makes of the pass (`Machines`).
use Rattle.std.proofs.Common.{◌≡◌, ◌-◌, sym, ◌∙◌, arith}
use Rattle.model_kernel.specs.Kernels.{past}
use Rattle.audit_check.specs.declared.stages.Stepped.TheVariants.{Faulty, Went}
use Rattle.audit_check.proofs.Cut.{empty_text}
use Rattle.audit_check.proofs.Machines.{closed_read, faulty_line, journal_missing, went_read, went_to}
use Rattle.audit_check.proofs.check.events.Goals as goal

pub returns-then-is_empty-clause-ended : goal.returns-then-is_empty-clause-ended
returns-then-is_empty-clause-ended c bytes h =
    journal_missing c.args.policy.now c.args.machine.now.kernel.script bytes c.loop-more.number (past c.loop-more.machine.kernel) c.loop-more.more c.loop-more.text.now c.loop-more-test.true
    (c.loop-more.invariant.read bytes h) c.requires.policy (empty_text c.loop-more.text.now (sym c.is_empty.ensures ∙ c.if-is_empty.true))

pub loop-more-preserved : goal.loop-more-preserved
loop-more-preserved c = record {
  here =
      went_to c.args.policy.now c.args.machine.now c.loop-more.machine c.step.new.machine c.split_line.result.0.now (c.loop-more.more - 1) c.in_ok-stepped.stepped c.loop-more.invariant.here
      (λ e. let q : Went ≡ Faulty = sym c.in-Went.is ∙ e in cc) c.in_ok-stepped.ensures;
  room = omega (arith, c.split_line.ensures.shorter, c.loop-more.invariant.room);
  read = λ bytes h.
      went_read c.args.policy.now bytes c.args.machine.now c.loop-more.machine c.step.new.machine c.loop-more.invariant.here c.loop-more.number c.loop-more.more c.loop-more.text.now
      c.split_line.result.0.now c.split_line.result.1.now c.loop-more-test.true c.split_line.ensures.lines (c.loop-more.invariant.read bytes h) c.in_ok-stepped.stepped c.in-Went.is c.in_ok-stepped.ensures;
}

pub returns-in-Closed-clause-ended : goal.returns-in-Closed-clause-ended
returns-in-Closed-clause-ended c bytes h =
    closed_read c.args.policy.now bytes c.args.machine.now c.loop-more.machine c.step.new.machine c.loop-more.invariant.here c.loop-more.number c.loop-more.more c.loop-more.text.now
    c.split_line.result.0.now c.split_line.result.1.now c.loop-more-test.true c.split_line.ensures.lines (c.loop-more.invariant.read bytes h) c.in_ok-stepped.stepped c.in-Closed.is c.in_ok-stepped.ensures

pub returns-in-Faulty-clause-ended : goal.returns-in-Faulty-clause-ended
returns-in-Faulty-clause-ended c bytes h =
    faulty_line c.args.policy.now bytes c.args.machine.now c.loop-more.machine c.step.new.machine c.loop-more.invariant.here c.loop-more.number c.loop-more.more c.loop-more.text.now
    c.split_line.result.0.now c.split_line.result.1.now c.loop-more-test.true c.split_line.ensures.lines (c.loop-more.invariant.read bytes h) c.requires.policy c.in_ok-stepped.stepped c.in-Faulty.is
    c.in_ok-stepped.ensures
