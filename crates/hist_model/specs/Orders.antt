-- The order of a session's steps.
use Rattle.std.specs.Prelude.{◌≡◌, true, List, [], ◌∷◌}
use Rattle.hist_model.specs.Kinds.{is_read, is_good_check, is_opening, uses_copy}
use Rattle.hist_model.specs.Sessions.{number_of}
use Rattle.hist_model.specs.declared.event.What.{What}

-- each opening stands before the first good check, each read between the two, and each use after both
abbrev pub InOrder : List What → Type 0
InOrder [] = Unit {0}
InOrder (a ∷ own) = (is_opening a ≡ true → number_of is_good_check own ≡ 0)
    × (is_read a ≡ true → number_of is_good_check own ≡ 1) × (uses_copy a ≡ true → number_of is_good_check own ≡ 2) × InOrder own
