-- Which of several answers counts: said of every one of them, where `combine` goes from the oldest to the newest.
use Rattle.std.specs.Prelude.{◌≡◌, ℕ, ◌<◌, ◌≤◌, List, length, slice_index, EachIndex}
use Rattle.hist_model.specs.Filters.{rank}

-- the answer at this place is the value, none has a higher precedence, and each newer one has a lower
abbrev pub IsHighest : List ℕ → ℕ × ℕ → Type 0
IsHighest values chosen =
    (chosen.1 < length values)
    × (slice_index values chosen.1 ≡ chosen.0)
    × EachIndex values (λ k. rank chosen.0 ≤ rank (slice_index values k))
    × ((k : ℕ) → k < chosen.1 → rank chosen.0 < rank (slice_index values k))
