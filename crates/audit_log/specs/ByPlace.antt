-- What is kept of each event, by its place: a place that is told of it, or none.
use Rattle.std.specs.Prelude.{◌≡◌, ℕ, List, ◌∷◌, ◌++◌, length, Option}
use Rattle.hist_model.specs.declared.event.Event.{Event}

-- it is what f gives for the event and those before it
abbrev pub ByPlace : (List Event → Event → Option ℕ) → List Event → (ℕ → Option ℕ) → Type 0
ByPlace f H places = (later K : List Event) (e : Event) → H ≡ later ++ e ∷ K → places (length K) ≡ f K e
