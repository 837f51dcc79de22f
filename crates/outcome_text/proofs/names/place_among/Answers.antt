-- By `placed_here`, `one_before` and `placed_last`.
use Rattle.std.proofs.Common.{◌≡◌, ap₂, arith, false, refl, sym, true, ◌∙◌}
use Rattle.outcome_text.specs.Outcomes.{stands_before}
use Rattle.outcome_text.proofs.NamePlaces.{one_before, placed_here, placed_last}
use Rattle.outcome_text.proofs.names.place_among.Goals as goal

pub returns-then-stands_before-clause-inserted : goal.returns-then-stands_before-clause-inserted
returns-then-stands_before-clause-inserted c =
    let before : stands_before c.args.name.now c.index-names-place.result ≡ true =
    sym (ap₂ stands_before c.items.ensures c.items-in-loop-place.ensures) ∙ (sym c.stands_before.ensures ∙ c.if-stands_before.true) in
    placed_here c.args.name.now c.args.names.now c.loop-place.place c.index-names-place.result (omega arith) c.index-names-place.is before c.loop-place.invariant

pub loop-place-preserved : goal.loop-place-preserved
loop-place-preserved c =
    let behind : stands_before c.args.name.now c.index-names-place.result ≡ false =
    sym (ap₂ stands_before c.items.ensures c.items-in-loop-place.ensures) ∙ (sym c.stands_before.ensures ∙ c.if-stands_before.false) in
    one_before c.args.name.now c.args.names.now c.loop-place.place c.index-names-place.result (omega arith) c.index-names-place.is behind c.loop-place.invariant

pub returns-clause-inserted : goal.returns-clause-inserted
returns-clause-inserted c = placed_last c.args.name.now c.args.names.now c.loop-place.place _ (omega arith) refl c.loop-place.invariant
