-- The lines of the steps so far were made.
use Rattle.std.proofs.Common.{◌≡◌, map, take}
use Rattle.turn_player.specs.Turns.{turn_of}
use Rattle.turn_player.proofs.schedule.lines_of.Given as goal

abbrev pub invariant-loop-step : goal.invariant-loop-step
invariant-loop-step l = l.turns.items ≡ map turn_of (take l.step-index l.schedule)
