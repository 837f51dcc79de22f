use Rattle.std.proofs.Common.{◌≡◌, arith, below_more}
use Rattle.lane_seats.proofs.Sittings.{finds_free, finds_none, no_entry}
use Rattle.lane_seats.proofs.seats.Seats.lowest_free.Goals as goal

pub returns-in_default : goal.returns-in_default
returns-in_default c =
    let same : c.self.inside.seats ≡ c.args.self.now = c.self.view_is in
    finds_free _ _ (omega arith) (rw same at (no_entry _ c.in_default.not-Some)) c.loop-seat.invariant

pub returns : goal.returns
returns c = finds_none _ (λ k h. c.loop-seat.invariant k (omega arith))

pub loop-seat-preserved : goal.loop-seat-preserved
loop-seat-preserved c =
    let same : c.self.inside.seats ≡ c.args.self.now = c.self.view_is in
    below_more _ _ c.loop-seat.invariant (λ none. let is = rw same at c.in-Some.is in cc)
