-- Sessions, event by event.
-- By unfolding `session` at the newest event, with cases on whether it is the worker's.
use Rattle.std.proofs.Common.{◌≡◌, ℕ, Bool, true, false, not, ◌&&◌, List, ◌∷◌, refl}
use Rattle.std.specs.Prelude.{if◌then◌else◌}
use Rattle.hist_model.specs.Look.{is_worker}
use Rattle.hist_model.specs.Kinds.{skips}
use Rattle.hist_model.specs.Sessions.{session, joined}
use Rattle.hist_model.specs.declared.event.Event.{Event}

-- an event of another actor leaves a worker's session as it is
pub session-other : (e : Event) (K : List Event) (w : ℕ) → is_worker e.who w ≡ false → session (e ∷ K) w ≡ session K w
unfolding session
session-other e K w h = rw h refl

-- and so does a skip
pub session-skip : (e : Event) (K : List Event) (w : ℕ) → skips e.what ≡ true → session (e ∷ K) w ≡ session K w
unfolding session
session-skip e K w h = by-actor (is_worker e.who w)
  where
    by-actor : (b : Bool) → (if b && not (skips e.what) then joined e.what (session K w) else session K w) ≡ session K w
    by-actor true = rw h refl
    by-actor false = refl

-- a step of the worker's own joins it
pub session-own : (e : Event) (K : List Event) (w : ℕ) → is_worker e.who w ≡ true → skips e.what ≡ false → session (e ∷ K) w ≡ joined e.what (session K w)
unfolding session
session-own e K w h s = rw (h, s) refl
