use Rattle.std.proofs.Common.{◌≡◌, ◌-◌, Some, length, sym, ap, ◌∙◌, arith}
use Rattle.hist_model.specs.declared.event.Event.{Event}
use Rattle.hist_model.proofs.Look.{event_at-here}
use Rattle.explorer.proofs.run.newest.Goals as goal

pub returns : goal.returns
returns c = λ e K is.
    let place : c.len.result - 1 ≡ length K = omega (arith, c.len.ensures, ap length is) in
    let newest : Some c.in-Some.event.now ≡ Some e = sym (rw (is, place) at c.in-Some.ensures.some) ∙ event_at-here e K in
    let same : c.in-Some.event.now ≡ e = cc in
    ap (λ (x : Event). x.what) same
