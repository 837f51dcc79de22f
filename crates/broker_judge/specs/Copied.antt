-- Copies and texts as the code has them, beside those of the definitions.
use Rattle.std.specs.Prelude.{◌≡◌, ℕ, ◌<◌, ◌≤◌, nat_le, if◌then◌else◌, List, [], ◌∷◌, ◌++◌}
use Rattle.std.specs.Prelude.{get_or, length, Result, Ok, Err, ⊤, reverse}
use Rattle.hist_model.specs.Copies.{Progress, progress, Wants, Complete, Faulty as IsFaulty}
use Rattle.hist_model.specs.declared.copy.Part.{Part}
use Rattle.sys_abi.specs.Errnos.{efault}
use Rattle.broker_verdict.specs.SeatCopies as copies
use Rattle.broker_verdict.specs.Seats as seats
use Rattle.broker_judge.specs.declared.copies.Copied.{Copied}
use Rattle.broker_judge.specs.declared.copies.Copied.TheVariants.{Missing, Whole, Faulty}
use Rattle.broker_judge.specs.declared.copies.Known.{Known}
use Rattle.broker_judge.specs.declared.copies.Known.TheVariants as known
use Rattle.broker_judge.specs.declared.reads.Seen.{Seen}
use Rattle.broker_judge.specs.declared.reads.Seen.TheVariants.{Unread}
use Rattle.broker_judge.specs.declared.reads.Worth.{Worth}
use Rattle.broker_judge.specs.Reads.{seen_of, worth_of}

-- what is known of the byte at a place; nothing behind the last one
abbrev pub seen_at : List Seen → ℕ → copies.Seen
seen_at seen place = seen_of (get_or seen place Unread)

-- the reads of this worth at least, the newest first, of those that are given with the oldest first
abbrev pub worth_so : Worth → List seats.SeatRead → List seats.SeatRead
worth_so least reads = copies.worth_least (worth_of least) (reverse reads)

-- what a read tells of an address
abbrev pub told_by : seats.SeatRead → ℕ → copies.Seen
told_by r x = copies.told r.addr r.len r.answer x

-- the same, if it is of this worth
abbrev pub told_so : Worth → seats.SeatRead → ℕ → copies.Seen
told_so least r x = if nat_le (seats.rank (worth_of least)) (seats.rank r.worth) then told_by r x else copies.Unread

-- the answers of a copy in the plan's order with a read more, if it is of this worth and of the piece that is wanted
abbrev pub with_read : Worth → List Part → List (Result (List ℕ) ℕ) → seats.SeatRead → List (Result (List ℕ) ℕ)
with_read least parts answers r =
    if nat_le (seats.rank (worth_of least)) (seats.rank r.worth) then copies.with_piece parts answers r else answers

-- a text is as it is known
abbrev pub IsSo : copies.Known → Known → Type 0
IsSo (copies.Whole text) (known.Whole bytes) = bytes.items ≡ text
IsSo (copies.Fails e) (known.Fails errno) = errno ≡ e
IsSo (copies.Misses x) known.Missing = ⊤
IsSo _ _ = ⊥

-- a copy has come so far
abbrev pub Comes : Progress → Copied → Type 0
Comes (Wants x n) Missing = ⊤
Comes (Complete texts) (Whole copied) = copied.items ≡ texts
Comes (IsFaulty e) (Faulty errno) = errno ≡ e
Comes _ _ = ⊥

-- a read of so many bytes was answered with some of them, where it asked for any, or with EFAULT
abbrev pub IsAnswer : ℕ → Result (List ℕ) ℕ → Type 0
IsAnswer len (Ok bytes) = (0 < len → 0 < length bytes) × (length bytes ≤ len)
IsAnswer len (Err e) = e ≡ efault

abbrev pub IsAnswered : seats.SeatRead → Type 0
IsAnswered r = IsAnswer r.len r.answer

-- the piece that a copy wants, if it wants one, isn't empty
abbrev pub WantsSome : Progress → Type 0
WantsSome (Wants x n) = 0 < n
WantsSome _ = ⊤

-- that is so of a plan's copy, whatever was answered
abbrev pub HasPieces : List Part → Type 0
HasPieces parts = (answers : List (Result (List ℕ) ℕ)) → WantsSome (progress parts answers)

-- a copy with one text more behind its last: its first fault, else that of the text
abbrev pub with_more : Progress → copies.Known → Progress
with_more (IsFaulty e) known = IsFaulty e
with_more _ (copies.Fails e) = IsFaulty e
with_more (Wants x n) _ = Wants x n
with_more (Complete texts) (copies.Misses x) = Wants x 1
with_more (Complete texts) (copies.Whole text) = Complete (texts ++ text ∷ [])
