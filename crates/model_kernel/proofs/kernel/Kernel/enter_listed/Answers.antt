use Rattle.std.proofs.Common.{rules, ◌≡◌, w32, to_z, of_z, ◌+◌, ◌%◌, ◌^◌, refl, sym, ap, ◌∙◌}
use Rattle.hist_model.specs.Calls.{calls}
use Rattle.hist_model.specs.declared.event.Entered.TheVariants.{Notify}
use Rattle.model_kernel.proofs.Words.{Enter, past, step_by}
use Rattle.model_kernel.proofs.TaskSteps.{acted, entering, groups-other, same-counts}
use Rattle.model_kernel.proofs.kernel.Kernel.enter_listed.Goals as goal

pub returns : goal.returns
returns c =
    let k = c.args.self.now in
    let m = c.requires.ready in
    let o = c.args.task in
    let L = m.kernel.resources.listener in
    let nr = to_z w32 (of_z w32 c.args.nr) in
    let from : nr ≡ c.args.nr = search rules in
    let w = Enter nr c.args.args.now (Notify c.enter-id.result) in
    let due = (c.requires.due ∙ ap (λ x. Enter x c.args.args.now (Notify ((k.script.firstid + calls (past k)) % 2 ^ 64))) (sym from)) ∙ ap (λ x. Enter nr c.args.args.now (Notify x)) (sym (c.enter-id.ensures.id k.script.firstid (past k) L)) in
    acted k o w c.stepped.new.self m due _ _ c.enter-id.new.self refl refl refl (λ own. c.stepped.ensures.stands k.script (past k) (step_by k o w) m.kernel.tasks own refl refl)
    (same-counts k.tasks c.stepped.new.self o w refl c.stepped.ensures.count) (groups-other k o w m.kernel refl)
    (c.enter-id.ensures.step k.script.firstid (past k) (step_by k o w) L (entering k o c.enter-id.result nr c.args.args.now m c.requires.outside))
