use Rattle.std.proofs.Common.{◌≡◌, ◌∙◌, length, Some, ap, sym, subst}
use Rattle.crew.specs.Errands.{IsReceived}
use Rattle.hist_model.specs.Histories.{Seen}
use Rattle.hist_model.specs.Look.{event_at}
use Rattle.hist_model.specs.declared.event.Actor.TheVariants.{Worker}
use Rattle.lane_gate.proofs.KeptLanes.{keeps_step, noted_event}
use Rattle.lane_seats.specs.Lanes.{KeepsLanes as MayStep}
use Rattle.worker_gate.proofs.Turns.{step_turn}
use Rattle.worker_gate.specs.Keeping.{ServedFacts}
use Rattle.lane_gate.proofs.served.LaneServed.step_seat.Goals as goal

pub invariant_of-self-in-Some : goal.invariant_of-self-in-Some
invariant_of-self-in-Some c =
    let seat = c.args.seat in
    let old = c.self.inside.served in
    let new = c.step_worker.new.self in
    let event = c.in-Some.event.now in
    let place : c.len-place.result ≡ length old.history.events = c.len-place.ensures ∙ ap (λ (h : Seen). length h.events) c.journal.ensures in
    let found : event_at new.history.events c.len-place.result ≡ Some event = ap (λ (h : Seen). event_at h.events c.len-place.result) (sym c.journal-2.ensures) ∙ c.in-Some.ensures.some in
    let newest = noted_event old.history.events new.history.events seat c.len-place.result c.in_ok-stepped.stepped event c.in_ok-stepped.ensures.step place found in
    let may = subst (λ (s : ServedFacts). MayStep s.history.events (Worker seat)) (sym c.self.view_is) c.requires.may in
    keeps_step old new c.step_worker.ensures.setup c.self.inside.seats c.self.invariant seat event.what c.note.new.self may newest
    (c.note.ensures old.history.events (sym place) c.self.invariant.stands)

pub returns-clause-turn : goal.returns-clause-turn
returns-clause-turn c =
    rw (← c.self.view_is)
    (step_turn c.self.inside.served c.step_worker.new.self c.step_worker.ensures.setup (Worker c.args.seat) c.in_ok-stepped.stepped c.in_ok-stepped.ensures.step)

pub returns-clause-received : goal.returns-clause-received
returns-clause-received c =
    let seat = c.args.seat in
    let old = c.self.inside.served in
    let new = c.step_worker.new.self in
    let event = c.in-Some.event.now in
    let place : c.len-place.result ≡ length old.history.events = c.len-place.ensures ∙ ap (λ (h : Seen). length h.events) c.journal.ensures in
    let found : event_at new.history.events c.len-place.result ≡ Some event = ap (λ (h : Seen). event_at h.events c.len-place.result) (sym c.journal-2.ensures) ∙ c.in-Some.ensures.some in
    let newest = noted_event old.history.events new.history.events seat c.len-place.result c.in_ok-stepped.stepped event c.in_ok-stepped.ensures.step place found in
    rw (← c.self.view_is) (subst (IsReceived c.came_to.result old.history.events) (sym newest) (c.came_to.ensures old.history.events))
