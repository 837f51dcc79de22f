use Rattle.std.proofs.Common.{◌≡◌, ℕ, ◌<◌, false, get_or, None}
use Rattle.lane_seats.specs.Sittings.{comes_before}
use Rattle.lane_seats.proofs.seats.Seats.is_next.Given as goal

abbrev pub invariant-loop-other : goal.invariant-loop-other
invariant-loop-other l = (k : ℕ) → k < l.other → comes_before (get_or l.self k None) l.own ≡ false
