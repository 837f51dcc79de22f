-- The record in the row is that of the event at the place, by `row_line`.
use Rattle.std.proofs.Common.{◌≡◌, ◌≤◌, ◌++◌, ◌∙◌, List, ℕ, ap, get_or, length, subst}
use Rattle.std.specs.Prelude.{OnOk, Some}
use Rattle.std.proofs.lemmas.Grind.{get_or_default_zero}
use Rattle.hist_model.specs.Look.{event_at}
use Rattle.audit_log.specs.Records.{recorded_by}
use Rattle.audit_log.proofs.Recorded.{row_line, no_row_line}
use Rattle.audit_log.proofs.calls.push_row.Goals as goal

pub returns-in-Some : goal.returns-in-Some
returns-in-Some c =
    let t = c.args.entered.now in
    let H = c.args.history.now.events in
    let e = c.in-Some.event.now in
    let place = c.index-place.result.now in
    let at : place ≡ get_or t.places.items c.args.row 0 = c.index-place.ensures ∙ get_or_default_zero t.places.items c.args.row place c.requires.within in
    let there = subst (λ p. event_at H p ≡ Some e) at c.in-Some.ensures.some in
    subst (λ (text : List ℕ). OnOk c.push_recorded.result (c.push_recorded.new.line ≡ c.args.line.now ++ text))
    (ap (λ p. recorded_by c.record_of.result p e.who e.what) at ∙ row_line t H c.args.row e c.record_of.result c.requires.rise c.requires.within there c.record_of.ensures)
    c.push_recorded.ensures

pub returns-in-None : goal.returns-in-None
returns-in-None c =
    let t = c.args.entered.now in
    let H = c.args.history.now.events in
    let place = c.index-place.result.now in
    let at : place ≡ get_or t.places.items c.args.row 0 = c.index-place.ensures ∙ get_or_default_zero t.places.items c.args.row place c.requires.within in
    no_row_line t H c.args.row c.args.line.now (subst (λ p. length H ≤ p) at c.in-None.ensures.none)
