-- The first fault is that of the place.
use Rattle.std.proofs.Common.{sym, ◌∙◌}
use Rattle.bpf_filter.proofs.checks.fault_among.Goals as goal
use Rattle.bpf_filter.proofs.Faults.{faults_here}

pub returns-in-Some : goal.returns-in-Some
returns-in-Some c =
    let h = sym c.insn_fault.ensures ∙ c.in-Some.is in
    sym (c.loop-place.invariant ∙ faults_here c.args.insns.now c.loop-place.place _ c.in-Some.reason c.loop-place-test.true h)
