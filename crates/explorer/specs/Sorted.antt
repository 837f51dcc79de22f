-- The ends of the explored histories in the order of their first histories.
use Rattle.std.specs.Prelude.{◌≡◌, ℕ, ◌<◌, Bool, false, List, [], ◌∷◌, length, All, Contains}
use Rattle.std.specs.Prelude.{Option, None, Some, count_by, get_or, map, option_map}
use Rattle.explorer.specs.Paths.{is_first, left_of}
use Rattle.explorer.specs.Tallies.{CountedOutcome}
use Rattle.explorer.specs.declared.ends.End.{End}

-- the first history of the second doesn't come before that of the first
abbrev pub IsNoLaterEnd : End → End → Type 0
IsNoLaterEnd e d = is_first d.left (map left_of d.frames.items) e.left (map left_of e.frames.items) ≡ false

-- nor do those of all these
abbrev pub IsBefore : End → List End → Type 0
IsBefore e [] = Unit {0}
IsBefore e (d ∷ es) = IsNoLaterEnd e d × IsBefore e es

-- the place of an end whose first history comes first
abbrev pub IsFirstAt : List End → Option ℕ → Type 0
IsFirstAt ends None = ends ≡ []
IsFirstAt ends (Some i) = (i < length ends) × ((d : End) (j : ℕ) → j < length ends → IsNoLaterEnd (get_or ends i d) (get_or ends j d))

abbrev pub AreSorted : List End → Type 0
AreSorted [] = Unit {0}
AreSorted (e ∷ es) = IsBefore e es × AreSorted es

-- the same ends, in the order of their first histories
pub record IsSorted (ends sorted : List End) : Type 0 where
  pub each : All (Contains ends) sorted
  pub counts : (t : End → Bool) → count_by t sorted ≡ count_by t ends
  pub in_order : AreSorted sorted

-- the outcome that an end stands for
abbrev pub outcome_in : End → CountedOutcome
outcome_in e = record { text = e.text.items; histories = e.count; schedule = option_map (λ steps. steps.items) e.schedule }
