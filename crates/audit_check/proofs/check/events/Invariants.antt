-- So many lines are read, and so many events are left to come.
-- By the machine's history, which is that of the pass.
use Rattle.std.proofs.Common.{ℕ, ◌+◌, ◌-◌, ◌^◌, ◌<◌, List, length}
use Rattle.model_kernel.specs.Kernels.{past}
use Rattle.broker_machine.specs.Serving.{Reaches}
use Rattle.audit_check.specs.Lines.{lines}
use Rattle.audit_check.specs.Pass.{HasRead}
use Rattle.audit_check.specs.Reading.{behind}
use Rattle.audit_check.proofs.check.events.Given as goal

abbrev pub invariant-loop-more : goal.invariant-loop-more
invariant-loop-more l = record {
  here : Reaches l.fn.policy l.fn.machine (past l.machine.kernel) l.machine;
  room : l.number + length l.text < 2 ^ 32 - 1;
  read : (bytes : List ℕ) → HasRead l.fn.policy l.fn.machine.kernel.script bytes l.fn.start.number (lines l.fn.start.text.now) (behind l.fn.policy (past l.fn.machine.kernel) l.fn.count)
      → HasRead l.fn.policy l.fn.machine.kernel.script bytes l.number (lines l.text) (behind l.fn.policy (past l.machine.kernel) l.more);
}

abbrev pub decreases-loop-more : goal.decreases-loop-more
decreases-loop-more l = l.more
