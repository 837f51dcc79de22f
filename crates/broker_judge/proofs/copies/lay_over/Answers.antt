-- What is told of a byte is laid over what is known of it, and the others stay.
use Rattle.std.proofs.Common.{arith}
use Rattle.std.proofs.Math.ListN.{length-set}
use Rattle.hist_model.specs.Copies.{further}
use Rattle.broker_verdict.specs.SeatCopies.{told}
use Rattle.broker_judge.specs.declared.reads.Seen.TheVariants.{Byte}
use Rattle.broker_judge.proofs.Written.{laid_on, left_on}
use Rattle.broker_judge.proofs.copies.lay_over.Goals as goal

pub loop-place-preserved : goal.loop-place-preserved
loop-place-preserved c = record {
  size = simp length-set c.loop-place.invariant.size;
  laid = λ i under within. laid_on c.args.seen.now c.loop-place.seen c.loop-place.place c.laid_over.result c.told-told.result (Byte 0)
      (λ n. told c.args.read.now.addr c.args.read.now.len c.args.read.now.answer (further c.args.addr n)) (omega (arith, c.places-from.ensures.within))
      c.told-told.ensures c.laid_over.ensures c.loop-place.invariant.laid c.loop-place.invariant.left i under
      (simp length-set at within);
  left = left_on c.args.seen.now c.loop-place.seen c.loop-place.place c.laid_over.result c.loop-place.invariant.left;
}
