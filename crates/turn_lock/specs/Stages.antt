-- Where a pass is in its turn.
use Rattle.std.specs.Prelude.{ℕ}

-- between two turns, or with a ticket that isn't served yet, or with the one that is served; tickets are numbers without a bound
pub data Stage : Type 0 where
  Idle : Stage
  Waiting : ℕ → Stage
  Playing : ℕ → Stage
