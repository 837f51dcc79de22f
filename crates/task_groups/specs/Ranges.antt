-- Ranges of mapped addresses.
use Rattle.std.specs.Prelude.{◌≡◌, ℕ, ◌+◌, ◌*◌, ◌<◌, ◌≤◌, ◌^◌, true, false, List}
use Rattle.std.specs.List.{All}
use Rattle.hist_model.specs.Memory.{is_mapped}
use Rattle.hist_model.specs.declared.script.MapRange.{MapRange}

-- no range ends above 2^47
abbrev pub AllEndLow : List MapRange → Type 0
AllEndLow map = All (λ (r : MapRange). r.start + 4096 * r.pages ≤ 2 ^ 47) map

-- of the n addresses from one on, the first k are mapped, and the one after them isn't
pub record IsMappedFor (map : List MapRange) (a n k : ℕ) : Type 0 where
  pub most : k ≤ n
  pub mapped : (i : ℕ) → i < k → is_mapped map (a + i) ≡ true
  pub ends : k < n → is_mapped map (a + k) ≡ false
