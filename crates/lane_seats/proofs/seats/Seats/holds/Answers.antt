use Rattle.std.proofs.Common.{◌≡◌, refl}
use Rattle.lane_seats.proofs.Sittings.{finds_held, finds_nobody}
use Rattle.lane_seats.proofs.seats.Seats.holds.Goals as goal

pub returns-in-Some : goal.returns-in-Some
returns-in-Some c =
    let same : c.self.inside.seats ≡ c.args.self.now = c.self.view_is in
    finds_held _ _ c.in-Some.sitting _ _ (rw same at c.in-Some.is) refl

pub returns-in-None : goal.returns-in-None
returns-in-None c =
    let same : c.self.inside.seats ≡ c.args.self.now = c.self.view_is in
    finds_nobody _ _ _ (rw same at c.in-None.is)
