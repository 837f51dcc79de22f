-- What is told of a broken clause.
use Rattle.std.specs.Prelude.{◌≡◌, ℕ, Bool, ◌&&◌, ◌==◌, nat_le, List, ◌++◌, length, Result, Ok, Err}
use Rattle.sys_abi.specs.Errnos.{efault}
use Rattle.broker_verdict.specs.Seats.{SeatRead}

-- the bytes begin with these
abbrev pub BeginsWith : List ℕ → List ℕ → Type 0
BeginsWith bytes first = (rest : List ℕ) × (bytes ≡ first ++ rest)

-- a read that asked for so many bytes was given some of them, or EFAULT
abbrev pub is_answer : ℕ → Result (List ℕ) ℕ → Bool
is_answer len (Ok bytes) = nat_le 1 (length bytes) && nat_le (length bytes) len
is_answer len (Err e) = e == efault

abbrev pub is_answered : SeatRead → Bool
is_answered r = is_answer r.len r.answer
