-- How far texts rest on reads, as the code finds it.
use Rattle.std.specs.Prelude.{ℕ, if◌then◌else◌, max}
use Rattle.broker_verdict.specs.SeatCopies.{is_byte, told}
use Rattle.broker_verdict.specs.Seats.{rank, SeatRead}

-- the better of what is known of a byte and of a read, by their ranks, where the read gives it at the address
abbrev pub better : SeatRead → ℕ → ℕ → ℕ → ℕ
better r x b known = if is_byte (told r.addr r.len r.answer x) b then max known (rank r.worth) else known
