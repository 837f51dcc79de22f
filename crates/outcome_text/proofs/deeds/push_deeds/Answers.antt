-- By the steps of a session that are gone through (`SessionDeeds`).
use Rattle.std.proofs.Common.{◌≡◌, ◌++◌, ◌&&◌, [], false, sym, subst, true, ◌∙◌, arith}
use Rattle.std.specs.Prelude.{◌||◌, if◌then◌else◌}
use Rattle.hist_model.specs.Kinds.{is_letgo, starts}
use Rattle.hist_model.specs.declared.event.Event.{Event}
use Rattle.outcome_text.specs.Outcomes.{did_by}
use Rattle.outcome_text.proofs.SessionDeeds.{all_told, first_told, first_whole, is_own, later_told, later_whole, none_told}
use Rattle.outcome_text.proofs.deeds.push_deeds.Goals as goal

pub returns-then-place-events : goal.returns-then-place-events
returns-then-place-events c = none_told c.args.is_hidden c.args.worker c.args.place c.args.events.now c.args.line.now (omega arith)

pub returns-then-is_letgo : goal.returns-then-is_letgo
returns-then-is_letgo c =
    first_whole c.args.is_hidden c.args.worker c.args.place c.args.events.now c.index-events-place.result c.args.line.now c.push_deed.new.line (omega arith) c.in_ok-push_deed.ensures
    (sym c.is_letgo.ensures ∙ c.if-is_letgo.true)

pub loop-later-init : goal.loop-later-init
loop-later-init c =
    first_told c.args.is_hidden c.args.worker c.args.place c.args.events.now c.index-events-place.result c.args.line.now c.push_deed.new.line (omega arith) c.in_ok-push_deed.ensures
    (sym c.is_letgo.ensures ∙ c.if-is_letgo.false)

pub returns-then-branch : goal.returns-then-branch
returns-then-branch c =
    let w = c.args.worker in
    let is = c.index-events-later.is in
    later_whole c.args.is_hidden w c.args.place c.args.events.now c.loop-later.later c.index-events-later.result c.args.line.now c.loop-later.line c.push_later.new.line (omega arith) c.loop-later.invariant
    (subst (λ (e : Event). c.push_later.new.line ≡ c.loop-later.line ++ (if is_own w e then did_by c.args.is_hidden e.what else [])) is c.in_ok-push_later.ensures.line)
    (subst (λ (e : Event). (is_own w e && (is_letgo e.what || starts e.what)) ≡ true) is (sym c.in_ok-push_later.ensures.over ∙ c.if-branch.true))

pub loop-later-preserved : goal.loop-later-preserved
loop-later-preserved c =
    let w = c.args.worker in
    let is = c.index-events-later.is in
    later_told c.args.is_hidden w c.args.place c.args.events.now c.loop-later.later c.index-events-later.result c.args.line.now c.loop-later.line c.push_later.new.line (omega arith) c.loop-later.invariant
    (subst (λ (e : Event). c.push_later.new.line ≡ c.loop-later.line ++ (if is_own w e then did_by c.args.is_hidden e.what else [])) is c.in_ok-push_later.ensures.line)
    (subst (λ (e : Event). (is_own w e && (is_letgo e.what || starts e.what)) ≡ false) is (sym c.in_ok-push_later.ensures.over ∙ c.if-branch.false))

pub returns : goal.returns
returns c = all_told c.args.is_hidden c.args.worker c.args.place c.args.events.now c.loop-later.later c.args.line.now c.loop-later.line (omega arith) c.loop-later.invariant
