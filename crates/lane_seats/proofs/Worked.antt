-- The small histories.
-- By computing who sits where after each event.
use Rattle.std.proofs.Common.{[], ◌∷◌, refl, sym, arith, true≢false, lit<}
use Rattle.hist_model.specs.Sessions.{session}
use Rattle.lane_seats.specs.Examples.{FirstSeat, InOrder, OtherSeat, Overlap, SideBySide, first_served, receives}
use Rattle.lane_seats.specs.Lanes.{IsLowestFree, IsNext, taken_at}
use Rattle.sys_abi.specs.Calls.{nr_mknod}

pub in_order : InOrder
unfolding session taken_at
in_order = grind arith

pub side_by_side : SideBySide
unfolding session taken_at
side_by_side = grind arith

pub refused : Overlap × OtherSeat × FirstSeat
unfolding session taken_at
refused = (
  (λ h. let next : IsNext (receives 1 2 nr_mknod ∷ receives 0 1 nr_mknod ∷ []) 1 = h.0 in absurd (let late = next 0 refl refl in omega arith)),
  (λ h. let lowest : IsLowestFree first_served 2 = h.0 in true≢false (sym (lowest.2 0 (lit< tt)))),
  (λ h. let lowest : IsLowestFree [] 1 = h.0 in true≢false (sym (lowest.2 0 (lit< tt)))),
)
