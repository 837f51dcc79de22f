use Rattle.std.proofs.Common.{◌≡◌, arith, sym, ◌∙◌}
use Rattle.lane_seats.proofs.Sittings.{finds_earlier, finds_next}
use Rattle.lane_seats.proofs.seats.Seats.is_next.Goals as goal

pub returns-then-comes_before : goal.returns-then-comes_before
returns-then-comes_before c =
    let same : c.self.inside.seats ≡ c.args.self.now = c.self.view_is in
    finds_earlier _ _ c.loop-other.other _ (rw same at c.in-Some.is) (rw same at (sym c.comes_before.ensures ∙ c.if-comes_before.true))

pub returns : goal.returns
returns c =
    let same : c.self.inside.seats ≡ c.args.self.now = c.self.view_is in
    finds_next _ _ _ (rw same at c.in-Some.is) (λ k h. c.loop-other.invariant k (omega arith))
