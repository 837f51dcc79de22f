-- The history begins with what it was, and has one event more at most, with memory and without.
use Rattle.std.proofs.Common.{◌≡◌, ◌+◌, ◌≤◌, ◌++◌, length, ap, ◌∙◌}
use Rattle.model_kernel.specs.Kernels.{past}
use Rattle.worker_gate.specs.Keeping.{ServedFacts}
use Rattle.worker_gate.specs.declared.served.Serving.{Serving}
use Rattle.worker_gate.proofs.Stepped.{still_begins, still_one}
use Rattle.worker_gate.proofs.served.Served.step.Goals as goal

pub returns-clause-history : goal.returns-clause-history
returns-clause-history c =
    let old = c.deref_mut.result.now in
    let begins = still_begins old.policy old.machine c.step.new.self.machine c.args.who.now c.step.result c.step.ensures.done c.step.ensures.same in
    let viewed = ap (λ (s : ServedFacts). s.history.events) c.self.view_is in
    let lent = ap (λ (s : Serving). past s.machine.kernel) c.deref_mut.ensures.value in
    let same : past old.machine.kernel ≡ c.args.self.now.history.events = cc (viewed, lent) in
    (begins.0, begins.1 ∙ ap (λ h. begins.0 ++ h) same)

pub returns-clause-one : goal.returns-clause-one
returns-clause-one c =
    let old = c.deref_mut.result.now in
    let new = c.step.new.self.machine in
    let one : length (past new.kernel) ≤ length (past old.machine.kernel) + 1 = still_one old.policy old.machine new c.args.who.now c.step.result c.step.ensures.done c.step.ensures.same in
    let viewed = ap (λ (s : ServedFacts). s.history.events) c.self.view_is in
    let lent = ap (λ (s : Serving). past s.machine.kernel) c.deref_mut.ensures.value in
    let same : past old.machine.kernel ≡ c.args.self.now.history.events = cc (viewed, lent) in
    rw same at one
