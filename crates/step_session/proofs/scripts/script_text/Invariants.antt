-- The text has the lines of the events so far.
use Rattle.std.proofs.Common.{◌≡◌, ◌++◌, take}
use Rattle.std.specs.Prelude.{codes}
use Rattle.std.specs.List.{flat_map}
use Rattle.step_session.specs.Scripts.{turn_text}
use Rattle.step_session.proofs.scripts.script_text.Given as goal

abbrev pub invariant-loop-event : goal.invariant-loop-event
invariant-loop-event l = l.text ≡ l.fn.front ++ codes "schedule\n" ++ flat_map turn_text (take l.event-index l.event-items)
