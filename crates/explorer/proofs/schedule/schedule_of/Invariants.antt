use Rattle.std.proofs.Common.{◌≡◌, ◌≤◌, reverse, take}
use Rattle.hist_model.specs.ScriptRules.{steps_of}
use Rattle.delay_bounded.specs.Schedules.{schedule_of}
use Rattle.explorer.proofs.schedule.schedule_of.Given as goal

abbrev pub invariant-loop-place : goal.invariant-loop-place
invariant-loop-place l = record {
  kept : reverse l.lines.items ≡ schedule_of (reverse (take l.place l.events));
  counted : l.steps ≡ steps_of l.lines.items;
  few : l.steps ≤ 200000;
}
