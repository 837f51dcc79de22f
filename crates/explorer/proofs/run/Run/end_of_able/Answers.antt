use Rattle.std.proofs.Common.{arith}
use Rattle.explorer.proofs.AbleRuns.{none_behind, one_fewer}
use Rattle.explorer.proofs.run.Run.end_of_able.Goals as goal

pub places-init : goal.places-init
places-init c = record {
  number = c.places-places.ensures;
  within = omega arith;
  none = λ P going. none_behind P c.args.self.now c.args.workers c.args.last c.places-places.result c.places-places.ensures;
}

pub places-preserved : goal.places-preserved
places-preserved c =
    let i = c.places.invariant in
    record {
      number = i.number;
      within = omega (arith, i.within);
      none = λ P going. one_fewer P c.args.self.now c.args.workers c.args.last c.places.end c.places-places.result i.number c.places-test.true i.within (c.may_be_able.ensures P going c.if-may_be_able.false) (i.none P going);
    }
