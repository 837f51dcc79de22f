use Rattle.std.proofs.Common.{arith}
use Rattle.task_groups.proofs.FirstFree.{full-up-to, thin-from, first-free}
use Rattle.task_groups.proofs.descriptors.first_free.Goals as goal

pub loop-low-preserved-then-entries-middle : goal.loop-low-preserved-then-entries-middle
loop-low-preserved-then-entries-middle c =
    let i = c.loop-low.invariant in
    record {
      ordered = omega arith;
      within = i.within;
      full = λ r. full-up-to _ _ _ r (omega arith) c.if-entries-middle.true;
      thin = i.thin;
    }

pub loop-low-preserved : goal.loop-low-preserved
loop-low-preserved c =
    let i = c.loop-low.invariant in
    record {
      ordered = omega arith;
      within = omega arith;
      full = i.full;
      thin = λ r. thin-from _ _ _ r (omega arith) c.if-entries-middle.false;
    }

pub returns : goal.returns
returns c r = let i = c.loop-low.invariant in first-free _ _ r (omega arith) (i.full r) (λ j d l m. i.thin r j d (omega arith) m)
