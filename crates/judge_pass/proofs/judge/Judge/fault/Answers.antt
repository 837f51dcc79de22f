-- The class is that of the clause and of what is broken behind it, lessened where nothing was done, and the call is the one in hand.
use Rattle.std.proofs.Common.{ap, reverse, sym, ◌∙◌}
use Rattle.broker_verdict.specs.Trusted.{class_of, did_nothing, graver, lessened}
use Rattle.broker_verdict.specs.declared.clause.Class.{Class}
use Rattle.hist_model.specs.Look.{ev}
use Rattle.hist_model.specs.declared.event.Actor.TheVariants.{Worker}
use Rattle.judge_pass.specs.Stands.{IsSeat}
use Rattle.judge_pass.proofs.Judging.{class-here}
use Rattle.judge_pass.proofs.judge.Judge.fault.Goals as goal

pub returns-clause-class : goal.returns-clause-class
returns-clause-class c = λ s.
    let K = reverse c.args.before.now in
    let later = c.in_ok-later.later in
    let failed = did_nothing c.args.what.now in
    c.lessened-class.ensures
    ∙ (ap (lessened c.graver.result) c.did_nothing.ensures
    ∙ (ap (λ (x : Class). lessened x failed) c.graver.ensures
    ∙ (ap (λ (x : Class). lessened (graver x later) failed) c.class_of.ensures
    ∙ (ap (λ o. lessened (graver (class_of c.args.clause) o) failed) (c.in_ok-later.ensures s)
    ∙ sym (class-here c.args.policy.now c.args.script.now K (ev (Worker c.args.worker) c.args.what.now) c.args.clause)))))

pub returns-clause-call : goal.returns-clause-call
returns-clause-call c = λ K s.
    let seat = c.index-seat.result.now in
    let is : IsSeat c.args.script.now K c.args.worker seat = rw (← c.index-seat.ensures) at (s.seats c.args.worker seat c.requires.worker) in
    sym is.call_is
