-- What is left to run gives the answer.
use Rattle.std.proofs.Common.{◌≡◌, ◌-◌, length, drop}
use Rattle.hist_model.specs.Filters as definitions
use Rattle.bpf_filter.proofs.machine.run_insns.Given as goal

abbrev pub invariant-loop-place : goal.invariant-loop-place
invariant-loop-place l =
    definitions.run_from l.words l.insns 0 0 ≡ definitions.run_from l.words (drop l.place l.insns) 0 l.a

abbrev pub decreases-loop-place : goal.decreases-loop-place
decreases-loop-place l = length l.insns - l.place
