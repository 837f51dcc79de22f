-- How often caps were spent, as a table knows it.
use Rattle.std.specs.Prelude.{◌≡◌, ℕ, ◌<◌, Bool, false, nat_le, nat_eq, Option, Some, None}
use Rattle.std.specs.HashMap.{get, spare}
use Rattle.hist_model.specs.declared.policy.Cap.{Cap}
use Rattle.model_kernel.specs.declared.spent.SpentRows.{SpentRows}

abbrev pub number_or : Option ℕ → ℕ
number_or (Some n) = n
number_or None = 0

-- how many effects were done under the cap of a rule
abbrev pub times_in : SpentRows → ℕ → ℕ
times_in T rule = number_or (get nat_eq T.times rule)

-- the rule has granted as often as it may
abbrev pub is_spent_in : SpentRows → Option Cap → Bool
is_spent_in T (Some cap) = nat_le cap.times (times_in T cap.rule)
is_spent_in T None = false

-- spending the cap takes no memory: its rule has a row, or there is room for one
abbrev pub HasRoom : SpentRows → Option Cap → Type 0
HasRoom T (Some cap) = get nat_eq T.times cap.rule ≡ None → 0 < spare T.times
HasRoom T None = Unit {0}

-- all but the room is as before
abbrev pub SameTimes : SpentRows → SpentRows → Type 0
SameTimes old new = (rule : ℕ) → times_in new rule ≡ times_in old rule
