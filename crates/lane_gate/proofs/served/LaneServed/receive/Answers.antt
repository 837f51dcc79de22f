use Rattle.std.proofs.Common.{◌≡◌, false, inr, refl, subst}
use Rattle.lane_seats.specs.Lanes.{is_taken}
use Rattle.worker_gate.proofs.Turns.{same_for}
use Rattle.worker_gate.specs.Keeping.{ServedFacts}
use Rattle.lane_gate.proofs.served.LaneServed.receive.Goals as goal

pub step_seat-requires-clause-seat : goal.step_seat-requires-clause-seat
step_seat-requires-clause-seat c = (c.in-Some.ensures c.self.inside.served.history.events c.self.invariant.stands).0

pub returns-in-Some-clause-errand : goal.returns-in-Some-clause-errand
returns-in-Some-clause-errand c = λ errand none.
    let found = c.in-Some.ensures c.self.inside.served.history.events c.self.invariant.stands in
    let free = subst (λ (s : ServedFacts). is_taken s.history.events c.in-Some.seat ≡ false) c.self.view_is found.1 in
    c.step_seat.ensures.errand errand (inr (inr (none, free)))

pub returns-in-None-clause-errand : goal.returns-in-None-clause-errand
returns-in-None-clause-errand c = λ errand none. same_for errand c.args.self.now.history.events c.args.self.now.history.events refl
