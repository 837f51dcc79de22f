-- The parts are written, and then the sums of their counts.
use Rattle.std.proofs.Common.{length, subst}
use Rattle.audit_log.proofs.Writing.{wrote_more}
use Rattle.audit_log.specs.Written.{Wrote}
use Rattle.audit_log.specs.declared.summary.Counts.{Counts}
use Rattle.run_words.specs.PodText.{kept_in, parts, pod_line, sums_of}
use Rattle.run_words.proofs.pod_printing.write_pod.Goals as goal

pub returns : goal.returns
returns g c =
    let ended = c.args.ended.now in
    wrote_more _ _ _ (parts kept_in 0 ended) (pod_line (length ended) (sums_of ended)) _ c.in_ok-write_parts.ensures.wrote
    (subst (λ (counts : Counts). Wrote (g.O.Sink.state c.write_parts.new.out) (pod_line (length ended) counts) c.write_sums.result (g.O.Sink.state c.write_sums.new.out))
    c.in_ok-write_parts.ensures.sums c.write_sums.ensures)
