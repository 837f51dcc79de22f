-- The event of a turn, by the place of its actor in the circle.
use Rattle.std.specs.Prelude.{ℕ, List}
use Rattle.hist_model.specs.Legal.{rules_of, system_of}
use Rattle.hist_model.specs.Look.{ev}
use Rattle.hist_model.specs.Steps.{step}
use Rattle.hist_model.specs.declared.event.Event.{Event}
use Rattle.hist_model.specs.declared.policy.Policy.{Policy}
use Rattle.hist_model.specs.declared.script.Script.{Script}
use Rattle.delay_bounded.specs.Circle.{at_place}

-- what the actor at a place appends to a history
abbrev pub turn_of : Policy → Script → List Event → ℕ → Event
turn_of P S K q = ev (at_place K q) (step (system_of S) (rules_of P S.figures) K (at_place K q))
