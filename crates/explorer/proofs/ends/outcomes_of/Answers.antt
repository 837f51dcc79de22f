use Rattle.std.proofs.Common.{◌≡◌, ◌∷◌, ◌++◌, [], sym, ap, ◌∙◌}
use Rattle.explorer.specs.Tallies.{CountedOutcome}
use Rattle.explorer.proofs.EndsSorted.{all_sorted, one_sorted}
use Rattle.explorer.proofs.ends.outcomes_of.Goals as goal

pub ends-preserved : goal.ends-preserved
ends-preserved c =
    let left = c.ends.ends.items in
    let found = c.ends.outcomes.items in
    let more = c.in_ok-push.ensures.items ∙ ap (λ (o : CountedOutcome). found ++ o ∷ []) c.into_outcome.ensures in
    rw c.remove-end.ensures.items
    (one_sorted c.args.ends.items left found c.push.new.self.items c.in-Some.first c.remove-end.result c.ends.invariant (rw c.as_slice.ensures.value at c.in-Some.ensures) c.remove-end.ensures.value more)

pub returns : goal.returns
returns c =
    let none : c.ends.ends.items ≡ [] = sym c.as_slice.ensures.value ∙ c.in_default.ensures in
    all_sorted c.args.ends.items c.ends.ends.items c.ends.outcomes.items none c.ends.invariant
