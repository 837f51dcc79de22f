-- What came of the effect that a seat has.
use Rattle.std.specs.Prelude.{ℕ, Bool, ◌&&◌, not, List, Option, Result}
use Rattle.hist_model.specs.declared.event.Event.{Event}
use Rattle.hist_model.specs.declared.event.What.{What}
use Rattle.broker_verdict.specs.Answers.{allows_error, has_effect, outcome_at, what_done}
use Rattle.broker_verdict.specs.Seats.{effect_of}

abbrev pub outcome_of_seat : List Event → ℕ → Option (Result ℕ ℕ)
outcome_of_seat K w = outcome_at K (effect_of K w)

abbrev pub deed_of_seat : List Event → ℕ → What
deed_of_seat K w = what_done K (effect_of K w)

-- the seat has an effect, which doesn't allow the error
abbrev pub forbids_error : List Event → ℕ → ℕ → Bool
forbids_error K w e = has_effect K w && not (allows_error (outcome_of_seat K w) (deed_of_seat K w) e)
