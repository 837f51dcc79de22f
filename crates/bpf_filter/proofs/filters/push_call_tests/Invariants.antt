-- The tests of the calls so far.
use Rattle.std.proofs.Common.{◌≡◌, ◌+◌, ◌-◌, ◌≤◌, ◌++◌, length, drop, vec_len, vec_capacity}
use Rattle.hist_model.specs.Filters as definitions
use Rattle.bpf_filter.proofs.filters.push_call_tests.Given as goal

abbrev pub invariant-loop-place : goal.invariant-loop-place
invariant-loop-place l =
    (l.insns.items ++ definitions.call_tests (drop l.place l.calls) ≡ l.fn.insns.items ++ definitions.call_tests l.calls)
    × (vec_len l.insns + (length l.calls - l.place) + 2 ≤ vec_capacity l.insns)
