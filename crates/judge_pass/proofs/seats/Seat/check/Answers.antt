use Rattle.std.proofs.Common.{refl, arith}
use Rattle.judge_pass.proofs.Confirmed.{confirmed-first, confirmed-step}
use Rattle.judge_pass.proofs.seats.Seat.check.Goals as goal

pub loop-place-init : goal.loop-place-init
loop-place-init c = record { reads = confirmed-first _ _ c.requires.some c.requires.followed; rest = refl }

pub loop-place-preserved : goal.loop-place-preserved
loop-place-preserved c = record {
  reads = confirmed-step c.args.self.now.reads.items c.loop-place.self.reads.items c.loop-place.place c.confirm.new.self c.index_mut.result.now _ c.loop-place.invariant.reads (omega arith) c.index_mut.ensures.value c.confirm.ensures;
  rest = rw c.loop-place.invariant.rest refl;
}
