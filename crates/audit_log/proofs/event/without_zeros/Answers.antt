-- So many more zero bytes are passed: by `trimmed_zeros`.
use Rattle.std.proofs.Common.{◌∙◌, arith}
use Rattle.audit_log.proofs.Trimmed.{trimmed_zeros}
use Rattle.audit_log.proofs.event.without_zeros.Goals as goal

pub loop-len-preserved : goal.loop-len-preserved
loop-len-preserved g c = record {
  within = omega arith;
  same = trimmed_zeros g.row.N c.args.bytes.now c.loop-len.len c.loop-len-test.true c.loop-len.invariant.within (c.are_zero.ensures c.if-are_zero.true) ∙ c.loop-len.invariant.same;
}
