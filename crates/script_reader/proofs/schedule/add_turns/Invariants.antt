use Rattle.std.proofs.Common.{◌≡◌, ◌++◌}
use Rattle.std.specs.List.{filter_map}
use Rattle.script_reader.specs.Schedule.{turn_of}
use Rattle.script_reader.proofs.schedule.add_turns.Given as goal

abbrev pub invariant-loop-step : goal.invariant-loop-step
invariant-loop-step l = l.turns.items ≡ l.initial.turns.items ++ filter_map turn_of l.yielded
