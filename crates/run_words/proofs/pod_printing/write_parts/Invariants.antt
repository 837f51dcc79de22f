use Rattle.std.proofs.Common.{◌≡◌, take, drop, Ok}
use Rattle.audit_log.specs.Written.{Wrote}
use Rattle.run_words.specs.PodText.{kept_in, parts, sums_of, sums_on}
use Rattle.run_words.proofs.pod_printing.write_parts.Given as goal

abbrev pub invariant-loop-number : goal.invariant-loop-number
invariant-loop-number g l = record {
  wrote : Wrote (g.O.Sink.state l.fn.out) (parts kept_in 0 (take l.number l.ended)) (Ok tt) (g.O.Sink.state l.out);
  sums : sums_on l.sums (drop l.number l.ended) ≡ sums_of l.ended;
}
