use Rattle.std.proofs.Common.{◌≡◌, Some, rules, of_z, to_z, w32, sym, ap, subst, ◌∙◌}
use Rattle.hist_model.specs.Signals.{call_of}
use Rattle.hist_model.specs.Steps.{pid_named}
use Rattle.model_kernel.proofs.Received.{notif-is}
use Rattle.model_kernel.proofs.kernel.Kernel.notification.Goals as goal

pub returns : goal.returns
returns c S K next T waits =
    let told = c.entered_call-nr.ensures S K next.place T next.made (subst (λ n. call_of K n ≡ Some next.place) (sym next.owner_is) waits) in
    let same : to_z w32 (of_z w32 c.entered_call-nr.result.0) ≡ c.entered_call-nr.result.0 = search rules in
    notif-is K next.place c.args.call.id c.pid.result _ c.entered_call-nr.result.1 next.id_is (c.pid.ensures S K T ∙ ap (pid_named K) next.owner_is) (same ∙ told.0) told.1
