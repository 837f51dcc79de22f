-- What is known of the workers' hands.
use Rattle.std.specs.Prelude.{◌≡◌, ℕ, ◌<◌, Bool, true, false, List, get_or, Ok}
use Rattle.hist_model.specs.declared.event.Event.{Event}
use Rattle.hist_model.specs.declared.event.What.{What}
use Rattle.hist_model.specs.declared.event.What.TheVariants.{LetGo, Recv}
use Rattle.delay_bounded.specs.Circle.{in_hand}
use Rattle.explorer.specs.declared.hands.Hands.{Hands}

-- of each of the workers 0 to 15 it is known whether it has a notification in hand
abbrev pub Tells : List Event → Hands → Type 0
Tells K h = (w : ℕ) → w < 16 → get_or h.full w false ≡ in_hand K w

-- whether a worker has one in hand after its step
abbrev pub full_after : Bool → What → Bool
full_after full (Recv (Ok notif)) = true
full_after full LetGo = false
full_after full _ = full
