-- The best of the answers from the place on, which counts less than there are.
use Rattle.std.proofs.Common.{◌≡◌, ◌+◌, ◌≤◌, length, drop}
use Rattle.hist_model.specs.Filters as definitions
use Rattle.bpf_filter.proofs.answers.combine.Given as goal

abbrev pub invariant-loop-place : goal.invariant-loop-place
invariant-loop-place l =
    (l.best ≡ definitions.combine (drop l.place l.values)) × (l.best.1 + l.place ≤ length l.values) × (l.place ≤ length l.values)

abbrev pub decreases-loop-place : goal.decreases-loop-place
decreases-loop-place l = l.place
