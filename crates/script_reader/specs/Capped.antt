-- Totals in numbers of 64 bits, where a greater count stays at the greatest one.
use Rattle.std.specs.Prelude.{ℕ, ◌-◌, ◌^◌, min}
use Rattle.hist_model.specs.declared.script.Totals.{Totals}

abbrev pub cap : ℕ → ℕ
cap n = min n (2 ^ 64 - 1)

abbrev pub capped : Totals → Totals
capped totals = record {
  executed = cap totals.executed;
  calls = cap totals.calls;
  starts = cap totals.starts;
  stored = cap totals.stored;
  depth = cap totals.depth;
}
