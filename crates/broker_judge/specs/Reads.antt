-- How far a read can be relied on, and what is known of a byte, as the code has them.
use Rattle.std.specs.Prelude.{ℕ, ◌+◌, List, length, Result, Ok, Err}
use Rattle.broker_verdict.specs.Seats as seats
use Rattle.broker_verdict.specs.SeatCopies as copies
use Rattle.broker_judge.specs.declared.reads.Seen.{Seen}
use Rattle.broker_judge.specs.declared.reads.Seen.TheVariants.{Byte, Unmapped, Unread}
use Rattle.broker_judge.specs.declared.reads.Worth.{Worth}
use Rattle.broker_judge.specs.declared.reads.Worth.TheVariants.{Foreign, Stale, Fresh, Valid}

abbrev pub worth_of : Worth → seats.Worth
worth_of Foreign = seats.Foreign
worth_of Stale = seats.Stale
worth_of Fresh = seats.Fresh
worth_of Valid = seats.Valid

abbrev pub seen_of : Seen → copies.Seen
seen_of (Byte b) = copies.Byte b
seen_of Unmapped = copies.Unmapped
seen_of Unread = copies.Unread

-- of how many addresses, from its own on, a read with this answer tells something
abbrev pub reach_of : Result (List ℕ) ℕ → ℕ
reach_of (Ok bytes) = length bytes + 1
reach_of (Err e) = 1
