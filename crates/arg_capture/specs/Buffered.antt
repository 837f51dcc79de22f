-- What contracts see of buffers.
use Rattle.std.specs.Prelude.{ℕ, suc, List, nat_le, if◌then◌else◌}

pub record Buffered : Type 0 where
  pub bytes : List ℕ
  pub rooms : ℕ

-- how many parts have room for 4096 bytes: none where the one in hand, of this capacity, hasn't, else so many more
abbrev pub rooms_of : ℕ → ℕ → ℕ
rooms_of capacity spare = if nat_le 4096 capacity then suc spare else 0
