use Rattle.std.proofs.Common.{rules, ◌≡◌, w32, to_z, of_z, refl, sym, ap, ◌∙◌}
use Rattle.model_kernel.proofs.Words.{Enter, named, past, step_by, Task}
use Rattle.model_kernel.proofs.TaskSteps.{acted, entry-plain, groups-other, listener-other, same-counts}
use Rattle.model_kernel.proofs.kernel.Kernel.enter_unlisted.Goals as goal

pub returns : goal.returns
returns c =
    let k = c.args.self.now in
    let m = c.requires.ready in
    let o = c.args.task in
    let nr = to_z w32 (of_z w32 c.args.nr) in
    let from : nr ≡ c.args.nr = search rules in
    let w = Enter nr c.args.args.now c.args.verdict in
    let entry = entry-plain (past k) (Task (named k o)) nr c.args.args.now c.args.verdict c.requires.unlisted in
    let plain = entry.plain in
    acted k o w c.stepped.new.self m (c.requires.due ∙ ap (λ x. Enter x c.args.args.now c.args.verdict) (sym from)) _ _ _ plain.is_step plain.makes_none plain.tree
    (λ own. c.stepped.ensures.stands k.script (past k) (step_by k o w) m.kernel.tasks own refl entry.keeps) (same-counts k.tasks c.stepped.new.self o w entry.ends_none c.stepped.ensures.count)
    (groups-other k o w m.kernel plain.keeps) (listener-other k o w m.kernel plain.other)
