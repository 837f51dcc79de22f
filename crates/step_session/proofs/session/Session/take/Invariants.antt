use Rattle.std.proofs.Common.{length}
use Rattle.step_session.specs.Judged.{IsStanding}
use Rattle.step_session.specs.Owing.{Continues}
use Rattle.step_session.proofs.session.Session.take.Given as goal

abbrev pub invariant-lines : goal.invariant-lines
invariant-lines g l = record {
  continues : Continues l.origin l.initial.self (g.O.Sink.state l.initial.out) l.piece l.self (g.O.Sink.state l.out) l.rest;
  standing : IsStanding l.origin l.self.container;
}

abbrev pub decreases-lines : goal.decreases-lines
decreases-lines g l = length l.rest
