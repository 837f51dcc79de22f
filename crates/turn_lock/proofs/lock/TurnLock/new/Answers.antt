use Rattle.std.proofs.Common.{rules, ◌≡◌, ap, sym, ◌∙◌, subst, [], ◌∷◌, Some, length, List, Option}
use Rattle.atomic_table.specs.Table.{opening}
use Rattle.turn_lock.specs.Rule.{LockRule, first_view}
use Rattle.turn_lock.proofs.Steps.{opens}
use Rattle.turn_lock.proofs.lock.TurnLock.new.Goals as goal

pub new-requires : goal.new-requires
new-requires g c = let h = g.S.Journalled.history in let t = g.S.Journalled.setup in
    let same : c.args.state ≡ c.of-about.result.value = sym c.of-about.ensures in
    let slots : c.in_ok-slots.slots.items ≡ Some c.args.state ∷ [] = search rules in
    subst (λ (z : List (Option g.row.S.Denot)). LockRule t h c.of-about.result.value (opening (c.len-count.result ∷ 0 ∷ 0 ∷ []) z (first_view t h c.of-about.result.value))) (sym slots)
    (opens t h c.of-about.result.value 1 c.len-count.result c.args.state same (c.len-count.ensures ∙ ap (λ x. length x.events) c.journal.ensures ∙ ap (λ x. length (h x).events) same))
