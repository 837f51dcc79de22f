-- The newest event stands at the last place.
-- By the history's length, which is one more than the place.
use Rattle.std.proofs.Common.{◌≡◌, ◌-◌, Some, length, sym, ap, ◌∙◌, arith}
use Rattle.std.proofs.lemmas.Result.{IfOk-weaker}
use Rattle.hist_model.proofs.Look.{event_at-here}
use Rattle.audit_check.proofs.check.is_newest_line.Goals as goal

pub returns : goal.returns
returns c =
    IfOk-weaker c.is_line_of.result _ _
    (λ b h e K is.
    let place : c.len-place.result - 1 ≡ length K = omega (arith, c.len-place.ensures, ap length is) in
    let newest : Some c.in-Some.event.now ≡ Some e = sym (rw (is, place) at c.in-Some.ensures.some) ∙ event_at-here e K in
    let same : c.in-Some.event.now ≡ e = cc in
    rw (place, same) at h)
    c.is_line_of.ensures
