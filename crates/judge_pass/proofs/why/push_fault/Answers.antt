-- The event's line is written first, and behind it all else.
use Rattle.std.proofs.Common.{◌≡◌, reverse, ap, sym, ◌∙◌}
use Rattle.std.proofs.lemmas.Result.{on_ok_weaker}
use Rattle.model_kernel.specs.Kernels.{past}
use Rattle.judge_pass.proofs.EventTold.{begins, newest_line}
use Rattle.judge_pass.proofs.why.push_fault.Goals as goal

pub returns : goal.returns
returns c = λ K e is.
    let seen : past c.args.kernel.now ≡ reverse c.events.result.now = ap (λ h. h.events) (sym c.history.ensures) ∙ c.events.ensures in
    let same = newest_line (past c.args.kernel.now) c.in-Some.before.now c.events.result.now c.in-Some.event.now e K seen c.in-Some.ensures.cases.0 is in
    on_ok_weaker c.push_bytes.result (λ h. begins c.args.line.now c.push_bytes.new.self _ c.bytes.result.now c.push_event_line.new.line _ c.in_ok-push_event_line.ensures h same) c.push_bytes.ensures
