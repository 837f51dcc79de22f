use Rattle.std.proofs.Common.{◌∷◌, [], ◌++◌, map, ap, refl, ◌∙◌}
use Rattle.explorer.proofs.LevelParts.{joins_last, joins_there, one_key_more}
use Rattle.explorer.proofs.level.Level.join.Goals as goal

pub returns-in-Some : goal.returns-in-Some
returns-in-Some c =
    joins_there c.args.bound c.args.delays c.args.frame c.args.from.now c.args.key.items c.args.self.now _ c.in-Some.place c.in-Some.ensures.0 (λ k. c.in-Some.ensures.1 k ∙ c.as_slice-2.ensures.value)
    c.index_mut.result.now c.join.new.self c.index_mut.ensures.value c.in_ok-join.ensures refl refl

pub returns : goal.returns
returns c =
    joins_last c.args.bound c.args.delays c.args.frame c.args.from.now c.args.key.items c.args.self.now _ c.in_ok-state.state c.in_ok-state.ensures c.in_ok-push.ensures.items
    (one_key_more (λ key. key.items) c.args.self.now.keys.items c.push-2.new.self.items c.shrink_to_fit.new.self c.in_ok-push-2.ensures.items
    ∙ ap (λ key. map (λ key. key.items) c.args.self.now.keys.items ++ key ∷ []) c.shrink_to_fit.ensures.items)
