-- A bound of delays, or what stands for none.
use Rattle.std.specs.Prelude.{◌≡◌, ℕ, ◌-◌, ◌≤◌, ◌^◌, true, false, Option, Some, None}
use Rattle.explorer.specs.declared.state.Bound.{Bound}

abbrev pub bound_for : Option ℕ → Bound
bound_for (Some d) = record { most = d; is_meant = true }
bound_for None = record { most = 2 ^ 64 - 1; is_meant = false }

-- each history has delays left for any turn, where no bound is meant and so much is left to each at least
abbrev pub HasRoom : Bound → ℕ → Type 0
HasRoom b least = b.is_meant ≡ false → 2 ^ 63 ≤ least

-- so many delays more than the bound may be had: none, where one is meant
abbrev pub IsMore : Bound → ℕ → Type 0
IsMore b k = b.is_meant ≡ true → k ≡ 0
