-- The task's step adds one event at most, which is heard.
use Rattle.std.proofs.Common.{length, List, ap, sym, ◌∙◌}
use Rattle.hist_model.specs.declared.event.Event.{Event}
use Rattle.hist_model.specs.declared.history.History.{History}
use Rattle.model_kernel.specs.Kernels.{past}
use Rattle.turn_player.specs.Turns.{stepped}
use Rattle.turn_player.proofs.Judging.{begun_on, grown, newer, none_found, open_on, played_over, played_step, task_grows}
use Rattle.turn_player.proofs.TurnedKept.{GoesOn, task-goes-on}
use Rattle.turn_player.proofs.judged.Court.step.Goals as goal

pub returns-then-is_over : goal.returns-then-is_over
returns-then-is_over c =
    let old = c.args.self.now in
    let to : List Event = stepped old.kernel.script c.args.name.now (past old.kernel) in
    played_over c.args.policy.now old to c.requires.watched (sym c.is_over.ensures ∙ c.if-is_over.true) (grown (past old.kernel) to (task_grows old.kernel.script c.args.name.now (past old.kernel)))

pub hear_newer-requires : goal.hear_newer-requires
hear_newer-requires c =
    let old = c.args.self.now in
    let to : List Event = stepped old.kernel.script c.args.name.now (past old.kernel) in
    let on : GoesOn old.kernel.script to = task-goes-on old.kernel.script c.args.name.now c.requires.name (past old.kernel) (c.requires.watched.begun, c.requires.watched.open_still) in
    let number = c.len-heard.ensures ∙ ap (λ (h : History). length h.events) c.history.ensures in
    record {
      kernel = c.in_ok-step_task.ensures.kernel;
      begun = begun_on c.args.policy.now old to c.step_task.new.kernel c.in_ok-step_task.ensures on;
      open_still = open_on c.args.policy.now old to c.step_task.new.kernel c.in_ok-step_task.ensures on;
      newer = newer c.args.policy.now old to c.step_task.new.kernel c.len-heard.result c.requires.watched c.in_ok-step_task.ensures (task_grows old.kernel.script c.args.name.now (past old.kernel)) number;
      clean = none_found old.watch.found (sym c.is_over.ensures ∙ c.if-is_over.false);
    }

pub returns : goal.returns
returns c =
    let old = c.args.self.now in
    let to : List Event = stepped old.kernel.script c.args.name.now (past old.kernel) in
    played_step c.args.policy.now old to c.step_task.new.kernel c.hear_newer.new.self (sym c.is_over.ensures ∙ c.if-is_over.false) c.in_ok-step_task.ensures c.in_ok-hear_newer.ensures.watched c.in_ok-hear_newer.ensures.kernel
