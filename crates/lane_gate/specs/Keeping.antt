-- What the state behind the lock of lanes keeps of its history.
use Rattle.std.specs.Prelude.{◌≡◌, List, Option, Some}
use Rattle.lane_seats.specs.Lanes.{Laned}
use Rattle.lane_seats.specs.Sittings.{StandsFor}
use Rattle.lane_seats.specs.declared.seats.Sitting.{Sitting}
use Rattle.worker_gate.specs.Keeping.{ServedFacts}

-- workers 0 to 15 may serve, the history is laned, and the table of seats stands for it
pub record KeepsLanes (s : ServedFacts) (seats : List (Option Sitting)) : Type 0 where
  pub limit : s.setup.limit ≡ Some 15
  pub laned : Laned s.history.events
  pub stands : StandsFor s.history.events seats
