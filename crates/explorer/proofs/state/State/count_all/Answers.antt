use Rattle.std.proofs.Common.{◌≡◌, ◌∙◌, None, Some, arith}
use Rattle.explorer.specs.Joining.{place_of}
use Rattle.explorer.proofs.CountsPlaced.{all_counted, place_counted, place_passed}
use Rattle.explorer.proofs.state.State.count_all.Goals as goal

pub loop-before-preserved : goal.loop-before-preserved
loop-before-preserved c =
    let i = c.loop-before.invariant in
    let there : place_of c.args.bound c.loop-before.before c.args.delays ≡ Some c.in-Some.place = cc in
    record {
      counts = place_counted c.args.bound c.args.delays c.loop-before.before c.args.from.now.counts.items c.args.self.now.counts.items c.loop-before.self.counts.items c.count_more.new.self.counts.items i.counts
          (omega arith) c.in-Some.place there c.index.result.now c.index.ensures c.in_ok-count_more.ensures.counts;
      frames = c.in_ok-count_more.ensures.frames ∙ i.frames;
      left = c.in_ok-count_more.ensures.left ∙ i.left;
      least = c.in_ok-count_more.ensures.least ∙ i.least;
    }

pub loop-before-preserved-in_default : goal.loop-before-preserved-in_default
loop-before-preserved-in_default c =
    let i = c.loop-before.invariant in
    let none : place_of c.args.bound c.loop-before.before c.args.delays ≡ None = cc in
    record {
      counts = place_passed c.args.bound c.args.delays c.loop-before.before c.args.from.now.counts.items c.args.self.now.counts.items c.loop-before.self.counts.items c.loop-before.self.counts.items i.counts (omega arith) none;
      frames = i.frames;
      left = i.left;
      least = i.least;
    }

pub returns-clause-counts : goal.returns-clause-counts
returns-clause-counts c =
    all_counted c.args.bound c.args.delays c.loop-before.before c.args.from.now.counts.items c.args.self.now.counts.items c.loop-before.self.counts.items c.loop-before.self.counts.items c.loop-before.invariant.counts (omega arith)
