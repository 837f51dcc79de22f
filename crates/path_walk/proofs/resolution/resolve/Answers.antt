use Rattle.std.proofs.Common.{◌<◌, length, [], refl, sym, ◌∙◌, rules}
use Rattle.path_walk.proofs.Steps.{reaches_from, walk_end}
use Rattle.path_walk.proofs.resolution.resolve.Goals as goal

pub returns-in-Ok : goal.returns-in-Ok
returns-in-Ok c =
    let some : 0 < length c.args.path.now = search rules in
    c.arrived.ensures c.args.walk.now
    ∙ reaches_from _ _ _ c.args.path.now _ _ _ some (sym c.in-Some.ensures) (c.in-Ok.ensures.place [] refl ∙ walk_end _ _ _ _ _)

pub returns-in-Err : goal.returns-in-Err
returns-in-Err c =
    let some : 0 < length c.args.path.now = search rules in
    c.ended.ensures ∙ reaches_from _ _ _ c.args.path.now _ _ _ some (sym c.in-Some.ensures) (c.in-Err.ensures.place [] refl)
