-- Files in memory: what the place of a name tells.
-- By cases on the entries and on the place found, with `position-Some` and `slice_get-get_or`.
use Rattle.std.proofs.Common.{◌≡◌, ℕ, List, [], ◌∷◌, Option, None, Some, ap, sym, ◌∙◌, get_or}
use Rattle.std.specs.Prelude.{IsSome}
use Rattle.std.specs.Option.{option_map, option_map_or}
use Rattle.std.specs.String.{string_bytes}
use Rattle.std.proofs.lemmas.List.Quantifiers.{position-Some}
use Rattle.std.proofs.lemmas.Option.{slice_get-get_or}
use Rattle.std.proofs.lemmas.Slice.Eq.{bytes_eq-Decides}
use Rattle.io_edge.specs.Named.{Entry, has_name, place_named, name_at, bytes_at, bytes_named, left_at}

-- the entry at the place of a name has it
pub place_has_name : (entries : List Entry) (name : List ℕ) (place : ℕ) → place_named entries name ≡ Some place → name_at entries place ≡ name
place_has_name [] name place is = cc
place_has_name (e ∷ es) name place is =
    let found = position-Some (has_name name) (e ∷ es) place e is in
    let same = (bytes_eq-Decides (string_bytes (get_or (e ∷ es) place e).0) name).0 found.1 in
    ap (λ (o : Option Entry). option_map_or (λ entry. string_bytes entry.0) o []) (slice_get-get_or (e ∷ es) place e found.0) ∙ same

-- the place that was found is the current file's
pub found_has_name : (entries : List Entry) (name : List ℕ) (found : Option ℕ) → found ≡ place_named entries name → IsSome found → option_map (name_at entries) found ≡ Some name
found_has_name entries name None is some = cc
found_has_name entries name (Some place) is some = ap Some (place_has_name entries name place (sym is))

-- and all its bytes are left
pub found_whole : (entries : List Entry) (name : List ℕ) (found : Option ℕ) → found ≡ place_named entries name → IsSome found → bytes_named entries name ≡ Some (left_at entries found 0)
found_whole entries name None is some = cc
found_whole entries name (Some place) is some = ap (option_map (bytes_at entries)) (sym is)
