-- A read of the wanted worth is one answer more, if it is of the piece that is wanted.
use Rattle.std.proofs.Common.{[], ◌++◌, refl, subst, sym}
use Rattle.std.specs.Prelude.{All}
use Rattle.std.proofs.lemmas.List.Elements.{All-head, All-tail}
use Rattle.hist_model.specs.Copies.{Progress}
use Rattle.broker_judge.specs.Copied.{Comes, IsAnswered, WantsSome, with_read}
use Rattle.broker_judge.proofs.Planned.{planned_all, planned_on}
use Rattle.broker_judge.proofs.copies.planned_copy.Goals as goal

pub loop-read-init : goal.loop-read-init
loop-read-init c = record { answered = c.requires.answered; answers = []; follows = c.in_ok-capture.ensures; goes_on = refl }

pub take_worth-requires-clause-piece : goal.take_worth-requires-clause-piece
take_worth-requires-clause-piece c = subst WantsSome (sym (c.loop-read.invariant.follows [])) (c.requires.pieces (c.loop-read.invariant.answers ++ []))

pub take_worth-requires-clause-answered : goal.take_worth-requires-clause-answered
take_worth-requires-clause-answered c = All-head IsAnswered c.in-Some.read.now c.in-Some.later.now (subst (All IsAnswered) c.in-Some.ensures.cases.0 c.loop-read.invariant.answered)

pub loop-read-preserved : goal.loop-read-preserved
loop-read-preserved c =
    let answers = c.loop-read.invariant.answers in
    record {
      answered = All-tail IsAnswered c.in-Some.read.now c.in-Some.later.now (subst (All IsAnswered) c.in-Some.ensures.cases.0 c.loop-read.invariant.answered);
      answers = with_read c.args.least c.args.plan answers c.in-Some.read.now;
      follows = c.in_ok-take_worth.ensures c.args.plan answers c.loop-read.invariant.follows;
      goes_on = planned_on c.args.least c.args.plan answers c.in-Some.read.now c.loop-read.rest.now c.in-Some.later.now _ c.in-Some.ensures.cases.0 c.loop-read.invariant.goes_on;
    }

pub returns : goal.returns
returns c =
    let answers = c.loop-read.invariant.answers in
    subst (λ (p : Progress). Comes p c.copied_by.result)
    (planned_all c.args.least c.args.plan answers c.args.reads.now c.loop-read.rest.now c.in_default.ensures.cases c.loop-read.invariant.goes_on)
    (c.copied_by.ensures c.args.plan answers c.loop-read.invariant.follows)
