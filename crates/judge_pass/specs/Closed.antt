-- Whether the listener of a container was closed.
use Rattle.std.specs.Prelude.{Bool, false, List, [], ◌∷◌}
use Rattle.hist_model.specs.Kinds.{closes}
use Rattle.hist_model.specs.declared.event.Event.{Event}

-- the newest event is that the listener was closed
abbrev pub is_closed : List Event → Bool
is_closed [] = false
is_closed (e ∷ K) = closes e.what
