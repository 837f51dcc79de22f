-- The lines are those of the events so far; the last one that would be scheduled is one too many.
use Rattle.std.proofs.Common.{◌≤◌, refl, reverse, sym, take, ap, ◌∙◌, arith}
use Rattle.hist_model.specs.ScriptRules.{steps_of}
use Rattle.delay_bounded.specs.Schedules.{schedule_of}
use Rattle.explorer.specs.Tallies.{most_steps}
use Rattle.explorer.proofs.Scheduling.{line_added, past_event, played, steps_either_way, unplayed}
use Rattle.explorer.proofs.schedule.schedule_of.Goals as goal
use Rattle.explorer.proofs.schedule.schedule_of.Goals.{then-is_scheduled+else-steps-eq-MOST_STEPS+in_ok-push_step, else-is_scheduled}

pub loop-place-init : goal.loop-place-init
unfolding schedule_of
loop-place-init c = record { kept = rw c.new-lines.ensures.items refl; counted = rw c.new-lines.ensures.items refl; few = omega arith }

pub loop-place-preserved : goal.loop-place-preserved
loop-place-preserved c =
    let es = c.events-events.result.now in
    let i = c.loop-place.place in
    let d = c.index-events-place.result in
    let before = c.loop-place.invariant in
    elim c.if-is_scheduled.branch [
      | then-is_scheduled+else-steps-eq-MOST_STEPS+in_ok-push_step w ↦
          let added = line_added es i d (omega arith) c.loop-place.lines.items w.push_step.new.lines.items (sym c.is_scheduled.ensures ∙ w.if-is_scheduled.true) before.kept w.in_ok-push_step.ensures in
          record {
            kept = rw w.lines-is added.0;
            counted = rw w.lines-is (omega (arith, w.steps-is, added.1, before.counted));
            few = omega (arith, w.steps-is, before.few, w.if-steps-eq-MOST_STEPS.false);
          }
      | else-is_scheduled w ↦
          let past = past_event es i d (omega arith) (sym c.is_scheduled.ensures ∙ w.if-is_scheduled.false) in
          record {
            kept = rw w.lines-is (before.kept ∙ sym past);
            counted = rw w.lines-is (w.steps-is ∙ before.counted);
            few = omega (arith, w.steps-is, before.few);
          }
    ]

pub returns-then-steps-eq-MOST_STEPS : goal.returns-then-steps-eq-MOST_STEPS
returns-then-steps-eq-MOST_STEPS c =
    let before = c.loop-place.invariant in
    let many : most_steps ≤ steps_of (schedule_of (reverse (take c.loop-place.place c.events-events.result.now))) = omega (arith, c.if-steps-eq-MOST_STEPS.true, before.counted, steps_either_way c.loop-place.lines.items, ap steps_of before.kept) in
    sym (unplayed c.args.history.now.events c.events-events.result.now c.events-events.ensures c.loop-place.place c.index-events-place.result (omega arith) (sym c.is_scheduled.ensures ∙ c.if-is_scheduled.true) many)

pub returns : goal.returns
returns c =
    let before = c.loop-place.invariant in
    played c.args.history.now.events c.events-events.result.now c.events-events.ensures c.loop-place.place (omega arith) c.loop-place.lines.items before.kept
    (omega (arith, before.counted, before.few, steps_either_way c.loop-place.lines.items, ap steps_of before.kept))
