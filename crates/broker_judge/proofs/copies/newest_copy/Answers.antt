-- Each part leads the copy of those behind it.
use Rattle.std.proofs.Common.{[], subst}
use Rattle.hist_model.specs.Copies.{Complete, Progress}
use Rattle.broker_verdict.specs.SeatCopies.{newest_at, newest_copy, part_seen}
use Rattle.broker_judge.specs.Copied.{Comes, with_more, worth_so}
use Rattle.broker_judge.proofs.Joined.{joined_first, known_all, known_more}
use Rattle.broker_judge.proofs.copies.newest_copy.Goals as goal

pub loop-part-init : goal.loop-part-init
loop-part-init c = record { known = Complete []; comes = c.new.ensures.items; whole = joined_first (newest_copy (worth_so c.args.least c.args.reads.now) c.args.plan) }

pub loop-part-preserved : goal.loop-part-preserved
loop-part-preserved c =
    let all = worth_so c.args.least c.args.reads.now in
    let known = c.loop-part.invariant.known in
    record {
      known = with_more known (part_seen (newest_at all) c.in-Some.part);
      comes = c.in_ok-copied.ensures known (part_seen (newest_at all) c.in-Some.part) c.loop-part.invariant.comes c.in_ok-known.ensures;
      whole = known_more all c.loop-part.parts c.drop_first.new.self c.in-Some.part known _ c.in-Some.ensures.part c.drop_first.ensures c.loop-part.invariant.whole;
    }

pub returns : goal.returns
returns c =
    let all = worth_so c.args.least c.args.reads.now in
    subst (λ (p : Progress). Comes p c.loop-part.copied) (known_all all c.loop-part.parts c.loop-part.invariant.known _ c.in_default.ensures.part c.loop-part.invariant.whole)
    c.loop-part.invariant.comes
