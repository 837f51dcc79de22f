use Rattle.std.proofs.Common.{[], List, ap, refl, sym, ◌∙◌}
use Rattle.hist_model.specs.Trees.{stated}
use Rattle.task_groups.proofs.Events.{at_first}
use Rattle.model_kernel.proofs.Words.{Event, respects, state}
use Rattle.model_kernel.proofs.Others.{stated-tree}
use Rattle.model_kernel.proofs.Starts.{fresh}
use Rattle.model_kernel.proofs.resources.Resources.new.Goals as goal

pub returns : goal.returns
returns c e is =
    let S = c.args.script.now in
    let K : List Event = [] in
    fresh S e _ is (c.in_ok-fresh.ensures (state S K (λ o. 0) (λ o. 0)) (respects _ _ _ (at_first S) c.in_ok-new.ensures)) (rw (← c.script.view_is) c.in_ok-new-2.ensures)
    (c.in_ok-stated.ensures ∙ (ap stated c.items.ensures ∙ rw (← c.script.view_is) (sym (stated-tree _)))) c.new-4.ensures c.new-5.ensures (rw (← c.script.view_is) (record { root_is = refl; figures_are = refl }))
