use Rattle.std.proofs.Common.{◌≡◌, sym, ◌∙◌}
use Rattle.lane_seats.proofs.Sittings.{noted_leaves, noted_stays, noted_takes}
use Rattle.lane_seats.proofs.seats.Seats.note.Goals as goal

pub returns-in-Takes : goal.returns-in-Takes
returns-in-Takes c =
    let same : c.self.inside.seats ≡ c.args.self.now = c.self.view_is in
    rw same (λ K at st. noted_takes c.args.step.now K c.args.self.now c.args.seat c.requires st c.args.place c.in-Takes.sitting at (sym c.change_by.ensures ∙ c.in-Takes.is))

pub returns-in-Leaves : goal.returns-in-Leaves
returns-in-Leaves c =
    let same : c.self.inside.seats ≡ c.args.self.now = c.self.view_is in
    rw same (λ K at st. noted_leaves c.args.step.now K c.args.self.now c.args.seat c.requires st c.args.place (sym c.change_by.ensures ∙ c.in-Leaves.is))

pub returns-in-Stays : goal.returns-in-Stays
returns-in-Stays c = λ K at st. noted_stays c.args.step.now K c.args.self.now c.args.seat c.requires st c.args.place (sym c.change_by.ensures ∙ c.in-Stays.is)
