-- For whom a turn takes its step.
use Rattle.std.specs.Prelude.{◌≡◌, ◌⊎◌, ℕ, true, false, List, ◌∷◌, Option, Some, None, Ok, ⊤}
use Rattle.std.specs.Option.{option_map}
use Rattle.crew.specs.declared.crewed.Came.{Came}
use Rattle.crew.specs.declared.crewed.Came.TheVariants.{Received}
use Rattle.crew.specs.declared.crewed.Errand.{Errand}
use Rattle.hist_model.specs.Legal.{is_open_session}
use Rattle.hist_model.specs.Look.{ev}
use Rattle.hist_model.specs.Sessions.{notif_of, session}
use Rattle.hist_model.specs.declared.event.Actor.TheVariants.{Worker}
use Rattle.hist_model.specs.declared.event.Event.{Event}
use Rattle.hist_model.specs.declared.event.What.{What}
use Rattle.hist_model.specs.declared.event.What.TheVariants.{Recv}
use Rattle.lane_queue.specs.declared.queue.Handoff.{Handoff}
use Rattle.sys_abi.specs.declared.wire.Notif.{Notif}

-- the notification that was handed over is the one that the worker has in hand, and the worker is the seat that it came with
abbrev pub IsHanded : List Event → ℕ → Option Handoff → Type 0
IsHanded K w None = ⊥
IsHanded K w (Some h) =
    (w ≡ h.seat) × (is_open_session (session K w) ≡ true)
    × (option_map (λ (n : Notif). n.id) (notif_of (session K w)) ≡ Some h.id)

-- The worker may step in a turn with this errand: it is the one that the thread serves as, or it serves what was handed over. One with
-- nothing in hand may step, so that it receives, where the thread serves as none.
abbrev pub MayStepFor : Errand → List Event → ℕ → Type 0
MayStepFor errand K w =
    (errand.worker ≡ Some w)
    ⊎ (IsHanded K w errand.handed ⊎ ((errand.worker ≡ None) × (is_open_session (session K w) ≡ false)))

-- each worker's step by which the history went on is one that may be taken
abbrev pub StepsFor : Errand → List Event → List Event → Type 0
StepsFor errand K H = (w : ℕ) (what : What) → H ≡ ev (Worker w) what ∷ K → MayStepFor errand K w

-- what is told to have been received was: by the newest event, at that seat, with that id
abbrev pub IsReceived : Came → List Event → List Event → Type 0
IsReceived (Received lane item) K H = (n : Notif) × (H ≡ ev (Worker item.seat) (Recv (Ok n)) ∷ K) × (item.id ≡ n.id)
IsReceived _ K H = ⊤
