use Rattle.std.proofs.Common.{arith}
use Rattle.task_groups.proofs.Ranges.{mapped-more}
use Rattle.task_groups.proofs.map.mapped_count.Goals as goal

pub loop-count-preserved : goal.loop-count-preserved
loop-count-preserved c = record {
  most = omega (arith, c.min-count.ensures);
  mapped = mapped-more c.args.map.now c.args.addr c.loop-count.count c.min-count.result c.loop-count.invariant.mapped
      (λ i l. c.mapped_behind-more.ensures.within i (omega (arith, c.min-count.ensures)));
}
