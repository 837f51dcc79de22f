-- The lists of types of file systems as LXD takes them: what stands between commas, with its spaces.
use Rattle.std.specs.Prelude.{ℕ, Bool, ◌&&◌, ◌||◌, not, nat_eq, if◌then◌else◌, ◌==◌, List, [], reverse}
use Rattle.std.specs.Prelude.{Option, Some, None, codes}
use Rattle.std.specs.List.{list_any, slice_split, starts_with}
use Rattle.hist_model.specs.RuleParts.{has_named, is_filled, is_one_of}

-- the list is empty, or begins with a comma
abbrev pub is_led : List ℕ → Bool
is_led text = not (is_filled text) || starts_with nat_eq text (codes ",")

-- the items, from the last one on, since of a type that is named twice the last program serves it; a list that begins with a comma
-- has none
abbrev pub lxd_items : List ℕ → List (List ℕ)
lxd_items text = if is_led text then [] else reverse (slice_split (λ b. b == 44) text)

-- the program's name has no `=`, so that its item has one alone
abbrev pub is_one_pair : List ℕ → Bool
is_one_pair program = not (is_one_of program 61)

-- a type that a program serves stands in the other list as well; an empty program serves none
abbrev pub shares : List (List ℕ) → List (List ℕ × List ℕ) → Bool
shares allowed pairs = list_any (λ pair. is_filled pair.1 && has_named (λ name. name) allowed pair.0) pairs

-- the types with programs, where the mounts are on and the two lists share none; where the mounts are off they aren't compared
abbrev pub unless_shared : Bool → List (List ℕ) → List (List ℕ × List ℕ) → Option (List (List ℕ × List ℕ))
unless_shared mount allowed pairs = if mount && shares allowed pairs then None else Some pairs
