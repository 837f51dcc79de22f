-- The answer that counts among the filters so far.
use Rattle.std.proofs.Common.{◌≡◌, reverse, take}
use Rattle.hist_model.specs.Filters as definitions
use Rattle.bpf_filter.proofs.answers.verdict.Given as goal

abbrev pub invariant-loop-filter : goal.invariant-loop-filter
invariant-loop-filter l = l.chosen ≡ definitions.chosen (reverse (take l.filter-index l.filters)) (definitions.seccomp_data l.fn.nr l.fn.args)
