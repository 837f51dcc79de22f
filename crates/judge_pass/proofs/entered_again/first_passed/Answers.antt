-- Each event that is passed leaves one fewer, and the first that isn't says from where on all are.
use Rattle.std.proofs.Common.{sym, arith}
use Rattle.judge_pass.proofs.EnteredAnew.{at-first, first-found, one-fewer}
use Rattle.judge_pass.proofs.entered_again.first_passed.Goals as goal

pub events-init : goal.events-init
events-init c = record {
  within = omega arith;
  left = λ d. at-first c.args.events.now c.args.place d c.args.name.now c.args.called.now.nr c.args.called.now.args c.requires;
}

pub events-preserved : goal.events-preserved
events-preserved c = record {
  within = omega (arith, c.events.invariant.within);
  left = λ d. one-fewer c.args.events.now _ c.index-events-first.result c.args.name.now c.args.called.now.nr c.args.called.now.args (omega (arith, c.events.invariant.within, c.requires)) c.index-events-first.is d c.events.first _ (omega arith)
      (sym c.if-not-is_passed.ensures) (c.events.invariant.left d);
}

pub returns-then-not-is_passed : goal.returns-then-not-is_passed
returns-then-not-is_passed c = λ d.
    first-found c.args.events.now _ c.index-events-first.result c.args.name.now c.args.called.now.nr c.args.called.now.args (omega (arith, c.events.invariant.within, c.requires)) c.index-events-first.is d c.events.first _ (omega arith)
    (sym c.if-not-is_passed.ensures) (c.events.invariant.left d)
