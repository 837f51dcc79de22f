-- A worker that waits changes nothing. Another one's step is noted of its hands, and marked, as the history has it.
use Rattle.std.proofs.Common.{◌≡◌, ◌∷◌, true, List, refl, sym, ap, subst, ◌∙◌}
use Rattle.delay_bounded.specs.Circle.{may_step}
use Rattle.hist_model.specs.Look.{ev}
use Rattle.hist_model.specs.declared.event.Actor.TheVariants.{Worker}
use Rattle.hist_model.specs.declared.event.Event.{Event}
use Rattle.hist_model.specs.declared.event.What.{What}
use Rattle.hist_model.specs.declared.history.History.{History}
use Rattle.model_kernel.specs.Kernels.{IsKernel, past}
use Rattle.explorer.specs.InHand.{Tells}
use Rattle.explorer.specs.Runs.{story}
use Rattle.explorer.proofs.Running.{step_marked, worker_stepped, worker_waits}
use Rattle.explorer.proofs.run.Run.try_worker.Goals as goal

pub returns-then-not-stepped : goal.returns-then-not-stepped
returns-then-not-stepped c =
    let old = c.args.self.now in
    let may : may_step (story old) (Worker c.args.worker) ≡ true = sym (c.may_step.ensures (story old) c.requires.going.hands) ∙ c.if-not-may_step.false in
    worker_waits c.args.policy.now old _ c.requires.going c.args.worker may refl refl (rw c.if-not-stepped.true at c.in_ok-stepped.ensures.done)

pub mark-requires-clause-kernel : goal.mark-requires-clause-kernel
mark-requires-clause-kernel c =
    let tried = rw c.if-not-stepped.false at c.in_ok-stepped.ensures.done in
    subst IsKernel (sym c.kernel.ensures) tried.0.served.kernel

pub returns : goal.returns
returns c =
    let old = c.args.self.now in
    let K = story old in
    let w = c.args.worker in
    let may : may_step K (Worker w) ≡ true = sym (c.may_step.ensures K c.requires.going.hands) ∙ c.if-not-may_step.false in
    let tried = rw c.if-not-stepped.false at c.in_ok-stepped.ensures.done in
    let newest = λ (e : Event) (H : List Event) (is : past c.try_worker.new.self.kernel ≡ e ∷ H). c.newest-what.ensures e H (ap (λ (h : History). h.events) c.history.ensures ∙ is) in
    let hands = subst (λ (a : What). Tells (ev (Worker w) a ∷ K) c.note.new.self) (newest _ K tried.0.events) (c.note.ensures K c.requires.going.hands) in
    worker_stepped c.args.policy.now old _ c.requires.going w may hands
    (step_marked c.args.policy.now old c.try_worker.new.self c.requires.going w tried c.kernel.result.now c.kernel.ensures c.newest-what.result.now newest _ c.in_ok-mark.ensures) tried
