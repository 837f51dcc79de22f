-- One more part was written and counted, or failed.
use Rattle.std.proofs.Common.{rules, arith, ◌≡◌, ◌+◌, ◌∙◌, drop, sym, ap, Err}
use Rattle.audit_log.specs.declared.summary.Counts.{Counts}
use Rattle.run_words.proofs.PodTexts.{part_failed, part_written, parts_written, sums_all, sums_more}
use Rattle.run_words.specs.PodText.{sums_on}
use Rattle.run_words.proofs.pod_printing.write_parts.Goals as goal

pub returns-in_err-write_part-clause-wrote : goal.returns-in_err-write_part-clause-wrote
returns-in_err-write_part-clause-wrote g c =
    let failed : c.from_residual.result ≡ Err c.in_err-write_part.field-0.0 = search rules in
    rw failed
    (part_failed c.args.ended.now c.loop-number.number c.index-ended-number.result (omega arith) c.index-ended-number.is c.in_err-write_part.field-0.0
    (g.O.Sink.state c.args.out.now) (g.O.Sink.state c.loop-number.out) (g.O.Sink.state c.write_part.new.out)
    c.loop-number.invariant.wrote c.in_err-write_part.ensures.wrote)

pub loop-number-preserved : goal.loop-number-preserved
loop-number-preserved g c = record {
  wrote = part_written c.args.ended.now c.loop-number.number c.index-ended-number.result (omega arith) c.index-ended-number.is
      (g.O.Sink.state c.args.out.now) (g.O.Sink.state c.loop-number.out) (g.O.Sink.state c.write_part.new.out)
      c.loop-number.invariant.wrote c.in_ok-write_part.ensures.wrote;
  sums = ap (λ (counts : Counts). sums_on counts (drop (c.loop-number.number + 1) c.args.ended.now)) c.in_ok-write_part.ensures.sums
      ∙ (sym (sums_more c.args.ended.now c.loop-number.number c.index-ended-number.result c.loop-number.sums (omega arith) c.index-ended-number.is) ∙ c.loop-number.invariant.sums);
}

pub returns : goal.returns
returns g c = record {
  wrote = parts_written c.args.ended.now c.loop-number.number (g.O.Sink.state c.args.out.now) (g.O.Sink.state c.loop-number.out) (omega arith) c.loop-number.invariant.wrote;
  sums = sym (sums_all c.args.ended.now c.loop-number.number c.loop-number.sums (omega arith)) ∙ c.loop-number.invariant.sums;
}
