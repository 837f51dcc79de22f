-- The outcome stands where its text is found, or nowhere.
use Rattle.std.proofs.Common.{get_or, set, sym, ap, ◌∙◌}
use Rattle.std.specs.List.{position}
use Rattle.explorer.specs.Tallies.{has_text, with_more}
use Rattle.explorer.proofs.Counts.{found_at, none_found}
use Rattle.explorer.proofs.found.count.Goals as goal

pub returns-in-Some : goal.returns-in-Some
returns-in-Some c = λ o text histories.
    let old = c.args.outcomes.now in
    let found = found_at o c.index-outcomes-place.result old c.in-Some.place (ap (λ t. position (has_text t) old) text ∙ (sym c.place_of.ensures ∙ c.in-Some.is)) in
    found ∙ ap (set old c.in-Some.place) (ap (with_more (get_or old c.in-Some.place c.index-outcomes-place.result)) histories ∙ sym c.count.ensures)

pub returns-in-None : goal.returns-in-None
returns-in-None c = λ o text histories. none_found o c.args.outcomes.now (ap (λ t. position (has_text t) c.args.outcomes.now) text ∙ (sym c.place_of.ensures ∙ c.in-None.is))
