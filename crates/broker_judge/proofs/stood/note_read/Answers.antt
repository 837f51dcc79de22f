-- A byte is noted as the read gives it, and the others stay.
use Rattle.std.proofs.Common.{length, get_or, false, arith, ap, ◌∙◌}
use Rattle.std.proofs.Math.ListN.{length-set}
use Rattle.hist_model.specs.Copies.{further}
use Rattle.broker_verdict.specs.SeatCopies.{Seen}
use Rattle.broker_judge.specs.Copied.{told_by}
use Rattle.broker_judge.specs.Stood.{given}
use Rattle.broker_judge.proofs.Standing.{left_on, noted_on}
use Rattle.broker_judge.proofs.stood.note_read.Goals as goal

pub loop-place-preserved : goal.loop-place-preserved
loop-place-preserved c =
    let now = c.note_at-wrong.ensures.noted in
    let same = length-set c.loop-place.right c.loop-place.place c.is_given-is.result in
    record {
      size = ap length now ∙ same ∙ c.loop-place.invariant.size;
      wrong = c.note_at-wrong.ensures.wrong;
      noted = λ i under within. rw now
          (noted_on c.args.right.now c.loop-place.right c.loop-place.place c.is_given-is.result _ (λ n. told_by c.args.read.now (further c.args.addr n)) c.args.wanted.now _ 0
          (omega (arith, c.places-from.ensures.within, c.loop-place.invariant.size)) (c.is_given-is.ensures
          ∙ ap (λ (s : Seen). given s (get_or c.args.wanted.now c.loop-place.place 0) (get_or c.loop-place.right c.loop-place.place false)) c.told-told.ensures)
          (omega (arith, c.places-from.ensures.within, c.loop-place.invariant.size, c.requires.size)) c.loop-place.invariant.noted c.loop-place.invariant.left i under
          (omega (arith, within, ap length now, same)));
      left = λ i behind. rw now (left_on c.args.right.now c.loop-place.right c.loop-place.place c.is_given-is.result c.loop-place.invariant.left i behind);
    }
