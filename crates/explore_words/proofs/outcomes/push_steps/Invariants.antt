use Rattle.std.proofs.Common.{◌≡◌, ◌++◌, take}
use Rattle.std.specs.List.{flat_map}
use Rattle.explorer.specs.Printed.{step_line}
use Rattle.explore_words.proofs.outcomes.push_steps.Given as goal

abbrev pub invariant-loop-step : goal.invariant-loop-step
invariant-loop-step l = l.line ≡ l.fn.line ++ flat_map step_line (take l.step-index l.steps)
