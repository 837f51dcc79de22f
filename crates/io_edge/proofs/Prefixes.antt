-- Adding a prefix of a piece.
-- By giving the number of bytes added: 0 where nothing is added, else that of the front.
use Rattle.std.proofs.Common.{◌≡◌, ℕ, ◌≤◌, List, ◌++◌, length, take, arith}
use Rattle.std.proofs.lemmas.Grind.{common_steps}
use Rattle.io_edge.specs.SinkState.{AddsPrefix}

-- nothing is a prefix
pub adds_none : (old piece : List ℕ) → AddsPrefix old piece old
adds_none old piece = (0, omega arith, grind (arith, common_steps))

-- so is what fits
pub adds_front : (old piece new : List ℕ) (n : ℕ) → n ≤ length piece → new ≡ old ++ take n piece → AddsPrefix old piece new
adds_front old piece new n le is = (n, le, is)
