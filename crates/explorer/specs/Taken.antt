-- The first histories of a list, as many as are explored, and what is told of them.
use Rattle.std.specs.Prelude.{ℕ, zero, suc, ◌-◌, Bool, true, false, List, [], ◌∷◌, length, max, sum_by}
use Rattle.hist_model.specs.declared.event.Event.{Event}

-- the first of these histories, as long as fewer than n events were explored before
unfoldable pub taken : ℕ → List (List Event) → List (List Event)
taken n [] = []
taken zero (H ∷ more) = []
taken (suc n) (H ∷ more) = H ∷ taken (suc n - length H) more

-- none of them is left
unfoldable pub none_left : ℕ → List (List Event) → Bool
none_left n [] = true
none_left zero (H ∷ more) = false
none_left (suc n) (H ∷ more) = none_left (suc n - length H) more

-- so many events are explored at least, where a history is left
abbrev pub event_limit : ℕ
event_limit = 100000000

-- how many events they have together
abbrev pub all_events : List (List Event) → ℕ
all_events histories = sum_by (λ (H : List Event). length H) histories

-- and how many the longest has
abbrev pub longest : List (List Event) → ℕ
longest [] = 0
longest (H ∷ more) = max (length H) (longest more)
