-- What was written and what is left of the session are the whole, whichever event comes next.
use Rattle.std.proofs.Common.{◌∙◌, sym, arith}
use Rattle.std.proofs.lemmas.Result.{on_ok_weaker}
use Rattle.explorer.proofs.SessionParts.{first_written, never_over, other_written, step_written}
use Rattle.explorer.proofs.session_key.push_session.Goals as goal

pub steps-preserved-then-not-is_step_of : goal.steps-preserved-then-not-is_step_of
steps-preserved-then-not-is_step_of c =
    let i = c.steps.invariant in
    record {
      within = omega (arith, i.within);
      written = other_written c.args.events.now c.args.worker c.steps.left c.index-events-left.result c.args.key.now.items c.steps.key.items c.steps-test.true i.within c.index-events-left.is i.written
          (sym c.is_step_of.ensures ∙ c.if-not-is_step_of.true);
    }

pub returns-then-starts : goal.returns-then-starts
returns-then-starts c =
    let i = c.steps.invariant in
    let last = first_written c.args.events.now c.args.worker c.steps.left c.index-events-left.result c.args.key.now.items c.steps.key.items c.steps-test.true i.within c.index-events-left.is i.written
    (sym c.is_step_of.ensures ∙ c.if-not-is_step_of.false) (sym c.starts.ensures ∙ c.if-starts.true) c.push_step.new.key.items c.in_ok-push_step.ensures in
    on_ok_weaker c.push_flag.result (λ h. h ∙ last) c.push_flag.ensures

pub steps-preserved : goal.steps-preserved
steps-preserved c =
    let i = c.steps.invariant in
    record {
      within = omega (arith, i.within);
      written = step_written c.args.events.now c.args.worker c.steps.left c.index-events-left.result c.args.key.now.items c.steps.key.items c.steps-test.true i.within c.index-events-left.is i.written
          (sym c.is_step_of.ensures ∙ c.if-not-is_step_of.false) (sym c.starts.ensures ∙ c.if-starts.false) c.push_step.new.key.items c.in_ok-push_step.ensures;
    }

pub returns : goal.returns
returns c = absurd (never_over c.args.events.now c.args.worker c.steps.left c.args.key.now.items c.steps.key.items (omega arith) c.steps.invariant.written)
