use Rattle.std.proofs.Common.{◌≡◌, ◌≤◌, take, length}
use Rattle.hist_model.specs.ReportWords.{trimmed}
use Rattle.audit_log.proofs.event.without_zeros.Given as goal

abbrev pub invariant-loop-len : goal.invariant-loop-len
invariant-loop-len g l = record {
  within : l.len ≤ length l.bytes;
  same : trimmed (take l.len l.bytes) ≡ trimmed l.bytes;
}

abbrev pub decreases-loop-len : goal.decreases-loop-len
decreases-loop-len g l = l.len
