-- The notification that was handed over is the one that is in hand at its seat.
use Rattle.std.proofs.Common.{Some, inl, inr, refl, subst, sym}
use Rattle.crew.specs.Errands.{IsHanded, StepsFor}
use Rattle.lane_seats.specs.Sittings.{FindsHeld}
use Rattle.worker_gate.proofs.Turns.{same_for}
use Rattle.worker_gate.specs.Keeping.{ServedFacts}
use Rattle.lane_gate.proofs.served.LaneServed.serve_handed.Goals as goal

pub returns-in_err-came-clause-errand : goal.returns-in_err-came-clause-errand
returns-in_err-came-clause-errand c = λ errand is.
    let item = c.args.item in
    let held = subst (FindsHeld c.self.inside.seats item.seat item.id) c.if-holds.true c.holds.ensures c.self.inside.served.history.events c.self.invariant.stands in
    let here : IsHanded c.args.self.now.history.events item.seat (Some item) = subst (λ (s : ServedFacts). IsHanded s.history.events item.seat (Some item)) c.self.view_is (refl, held.0, held.1) in
    c.step_seat.ensures.errand errand (inr (inl (subst (IsHanded c.args.self.now.history.events item.seat) (sym is) here)))

pub returns-in_ok-came-clause-errand : goal.returns-in_ok-came-clause-errand
returns-in_ok-came-clause-errand c = λ errand is.
    let item = c.args.item in
    let held = subst (FindsHeld c.self.inside.seats item.seat item.id) c.if-holds.true c.holds.ensures c.self.inside.served.history.events c.self.invariant.stands in
    let here : IsHanded c.args.self.now.history.events item.seat (Some item) = subst (λ (s : ServedFacts). IsHanded s.history.events item.seat (Some item)) c.self.view_is (refl, held.0, held.1) in
    let steps = c.step_seat.ensures.errand errand (inr (inl (subst (IsHanded c.args.self.now.history.events item.seat) (sym is) here))) in
    subst (λ (s : ServedFacts). StepsFor errand c.args.self.now.history.events s.history.events) (sym c.reached.ensures.same) steps

pub returns-else-seat-lt-SEATS-clause-errand : goal.returns-else-seat-lt-SEATS-clause-errand
returns-else-seat-lt-SEATS-clause-errand c = λ errand is. same_for errand c.args.self.now.history.events c.args.self.now.history.events refl
