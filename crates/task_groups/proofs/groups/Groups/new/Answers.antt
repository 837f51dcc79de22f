use Rattle.std.proofs.Common.{◌≡◌, refl, subst, sym, ◌∙◌}
use Rattle.task_groups.specs.Ranges.{AllEndLow}
use Rattle.task_groups.proofs.Answered.{ends-low, holds-new}
use Rattle.task_groups.proofs.groups.Groups.new.Goals as goal

pub returns : goal.returns
returns c =
    let S = c.args.script.now in
    let map : S.map ≡ c.items.result.now = rw (← c.script.view_is) (sym c.items.ensures) in
    let low : AllEndLow c.items.result.now = rw c.items.ensures (ends-low _ c.script.invariant.map) in
    holds-new S.map S.rlimit _ (subst AllEndLow (sym map) low) (c.in_ok-from_slice.ensures.items ∙ sym map) (rw (← c.script.view_is) refl) c.new.ensures.items c.new-2.ensures
