-- Files in memory: pairs of a name and the bytes of a file.
use Rattle.std.specs.Prelude.{ℕ, Bool, List, [], drop, Option, position, slice_get, String, Vec}
use Rattle.std.specs.Option.{option_map, option_map_or}
use Rattle.std.specs.Str.{bytes_eq}
use Rattle.std.specs.String.{string_bytes}
use Rattle.std.specs.declared.alloc.Global.{Global}

-- an entry: a name and the bytes of its file
abbrev pub Entry : Type 0
Entry = String Global × Vec ℕ Global

-- whether this is the entry's name
abbrev pub has_name : List ℕ → Entry → Bool
has_name name entry = bytes_eq (string_bytes entry.0) name

-- the place of the first entry of this name
abbrev pub place_named : List Entry → List ℕ → Option ℕ
place_named entries name = position (has_name name) entries

-- the name of the entry at this place
abbrev pub name_at : List Entry → ℕ → List ℕ
name_at entries place = option_map_or (λ entry. string_bytes entry.0) (slice_get entries place) []

-- the bytes of the entry at this place
abbrev pub bytes_at : List Entry → ℕ → List ℕ
bytes_at entries place = option_map_or (λ entry. entry.1.items) (slice_get entries place) []

-- the bytes of the first entry of this name
abbrev pub bytes_named : List Entry → List ℕ → Option (List ℕ)
bytes_named entries name = option_map (bytes_at entries) (place_named entries name)

-- what is left of the entry at this place, if there is one, after so many bytes
abbrev pub left_at : List Entry → Option ℕ → ℕ → List ℕ
left_at entries place given = option_map_or (λ p. drop given (bytes_at entries p)) place []
