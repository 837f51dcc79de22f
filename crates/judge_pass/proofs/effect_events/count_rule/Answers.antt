-- It was done by no rule, or by one whose times are counted, or by one past those.
use Rattle.std.proofs.Common.{sym, refl, arith}
use Rattle.hist_model.specs.Look.{ev}
use Rattle.hist_model.specs.declared.event.Actor.TheVariants.{Worker}
use Rattle.judge_pass.proofs.EffectEvents.{times-more, times-past}
use Rattle.judge_pass.proofs.Parts.{times-same}
use Rattle.judge_pass.proofs.effect_events.count_rule.Goals as goal

pub returns-then-not-is_done-clause-times : goal.returns-then-not-is_done-clause-times
returns-then-not-is_done-clause-times c K w n h fits called at = times-same c.args.policy.now (ev (Worker w) c.args.what.now) K c.args.times.now.items h (sym c.if-not-is_done.ensures)

pub returns-in-Some-clause-times : goal.returns-in-Some-clause-times
returns-in-Some-clause-times c K w n h fits called at =
    let item = c.in-Some.ensures.item.3 in
    let before = item.1 0 in
    times-more c.args.policy.now K w n c.args.what.now c.args.times.now.items h (sym c.if-not-is_done.ensures) at c.in_ok-rule.rule (c.in_ok-rule.ensures K n called) fits
    c.saturating_add.result (λ few. omega (arith, before, few, c.saturating_add.ensures)) item.0 _ refl

pub returns-in_default-clause-times : goal.returns-in_default-clause-times
returns-in_default-clause-times c K w n h fits called at =
    times-past c.args.policy.now K w n c.args.what.now c.args.times.now.items h (sym c.if-not-is_done.ensures) at c.in_ok-rule.rule (c.in_ok-rule.ensures K n called) c.in_default.ensures.item.3
