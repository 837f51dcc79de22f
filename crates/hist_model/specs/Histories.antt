-- What contracts see of a history.
use Rattle.std.specs.Prelude.{ℕ, List}
use Rattle.hist_model.specs.declared.event.Event.{Event}

-- the events, the newest first, and the number of events for which there is room
pub record Seen : Type 0 where
  pub events : List Event
  pub spare : ℕ
