-- No instruction before the place has a fault.
use Rattle.std.proofs.Common.{◌≡◌, drop}
use Rattle.hist_model.specs.Filters as definitions
use Rattle.bpf_filter.proofs.checks.fault_among.Given as goal

abbrev pub invariant-loop-place : goal.invariant-loop-place
invariant-loop-place l = definitions.fault_among 0 l.insns ≡ definitions.fault_among l.place (drop l.place l.insns)
