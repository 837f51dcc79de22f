-- Where a script's tasks store bytes of their own: at mapped addresses.
use Rattle.std.specs.Prelude.{◌≡◌, ℕ, Bool, true, List, length}
use Rattle.std.specs.List.{list_all}
use Rattle.hist_model.specs.Memory.{all_mapped}
use Rattle.hist_model.specs.Ranges.{are_mapped}
use Rattle.hist_model.specs.Records.{ScriptRecord}
use Rattle.hist_model.specs.declared.script.Instr.{Instr}
use Rattle.hist_model.specs.declared.script.Instr.TheVariants.{Poke, Fill}
use Rattle.hist_model.specs.declared.script.MapRange.{MapRange}

-- so many bytes from an address on are mapped, as their number in the ranges says it, exactly where each address is
abbrev pub MapsByteByByte : ScriptRecord → Type 0
MapsByteByByte S = (a n : ℕ) → are_mapped S.map a n ≡ all_mapped S.map a n

-- each byte that the instruction stores has a mapped address
abbrev pub stores_each_mapped : List MapRange → Instr → Bool
stores_each_mapped map (Poke addr bytes) = all_mapped map addr (length bytes)
stores_each_mapped map (Fill addr len byte) = all_mapped map addr len
stores_each_mapped map _ = true

-- each byte of each `poke` and `fill` has a mapped address
abbrev pub StoresWhereMapped : ScriptRecord → Type 0
StoresWhereMapped S = list_all (list_all (stores_each_mapped S.map)) S.programs ≡ true
