-- One text more is led by those before it.
use Rattle.std.proofs.Common.{Bool, ap, sym, ◌∙◌}
use Rattle.std.specs.Prelude.{◌&&◌, nat_le}
use Rattle.broker_verdict.specs.SeatCopies.{gives_text}
use Rattle.broker_verdict.specs.Seats.{rank}
use Rattle.broker_judge.specs.Copied.{worth_so}
use Rattle.broker_judge.specs.Reads.{worth_of}
use Rattle.broker_judge.proofs.Fitted.{fit_next, gives_next, rests_on}
use Rattle.broker_judge.proofs.texts.rank_of_texts.Goals as goal

pub loop-part-preserved : goal.loop-part-preserved
loop-part-preserved c =
    let part = c.in-Some.part in
    let text = c.in-Some-split_first.text.now in
    let behind = c.in-Some-split_first.behind.now in
    record {
      fit = fit_next c.loop-part.parts c.drop_first.new.self part c.loop-part.rest.now behind text c.in-Some.ensures.part c.drop_first.ensures c.in-Some-split_first.ensures.cases.0
          c.loop-part.invariant.fit;
      rests = λ least.
          let all = worth_so least c.args.reads.now in
          rests_on (rank (worth_of least)) c.loop-part.found c.in_ok-rank_of_text.field-0 c.min-found.result (gives_text all part text) _ _ c.min-found.ensures
          (ap (gives_text all part) (sym c.items.ensures) ∙ c.in_ok-rank_of_text.ensures least)
          (ap (λ (b : Bool). nat_le (rank (worth_of least)) c.loop-part.found && b)
          (sym (gives_next all c.loop-part.parts c.drop_first.new.self part c.loop-part.rest.now behind text c.in-Some.ensures.part c.drop_first.ensures c.in-Some-split_first.ensures.cases.0))
          ∙ c.loop-part.invariant.rests least);
    }
