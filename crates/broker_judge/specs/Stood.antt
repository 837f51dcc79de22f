-- Which bytes the newest of the reads give, noted from read to read.
use Rattle.std.specs.Prelude.{ℕ, ◌+◌, Bool, true, false, ◌||◌, ◌==◌, List, [], ◌∷◌}
use Rattle.broker_verdict.specs.SeatCopies.{Byte, Seen, stand_now, Unmapped, Unread}
use Rattle.broker_verdict.specs.Seats.{SeatRead}

-- a byte is given that was given before or not, where one more read tells this of it
abbrev pub given : Seen → ℕ → Bool → Bool
given (Byte b) wanted was = b == wanted
given Unmapped wanted was = false
given Unread wanted was = was

-- how many of the bytes aren't given
abbrev pub wrong_in : List Bool → ℕ
wrong_in [] = 0
wrong_in (true ∷ more) = wrong_in more
wrong_in (false ∷ more) = wrong_in more + 1

-- at some moment the newest of the reads until then gave these bytes, which stand from the address on
abbrev pub stood_from : List SeatRead → ℕ → List ℕ → Bool
stood_from [] x wanted = stand_now [] x wanted
stood_from (r ∷ older) x wanted = stand_now (r ∷ older) x wanted || stood_from older x wanted
