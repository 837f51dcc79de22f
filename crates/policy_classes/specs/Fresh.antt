-- The least text for which no atom asks: below none of the directories for which atoms ask, or just below one of them.
use Rattle.std.specs.Prelude.{ℕ, Bool, true, false, ◌&&◌, not, List, [], ◌∷◌, ◌++◌, Option, Some, None, if◌then◌else◌, nat_eq}
use Rattle.std.specs.List.{filter, flat_map, list_all, range_with_len, starts_with}
use Rattle.hist_model.specs.Decisions.{lies_under}
use Rattle.policy_classes.specs.declared.words.Limit.{Limit}
use Rattle.policy_classes.specs.Allowed.{is_allowed, is_asked}
use Rattle.policy_classes.specs.Order.{comes_before}

-- what paths below a directory begin with
abbrev pub with_slash : List ℕ → List ℕ
with_slash dir = dir ++ 47 ∷ []

-- paths just below the first directory, or below none, are below the second
abbrev pub is_within : Option (List ℕ) → List ℕ → Bool
is_within None e = false
is_within (Some d) e = starts_with nat_eq (with_slash d) (with_slash e)

abbrev pub agree : Bool → Bool → Bool
agree true b = b
agree false b = not b

-- calls may have the text, no atom asks for it, and it is below those directories alone that this one is within
abbrev pub is_fresh : Limit → List (List ℕ) → List (List ℕ) → Option (List ℕ) → List ℕ → Bool
is_fresh limit asked dirs at u =
    is_allowed limit u && (not (is_asked asked u) && list_all (λ e. agree (lies_under (Some u) e) (is_within at e)) dirs)

-- ---- candidates

unfoldable pub all_bytes : List ℕ
all_bytes = range_with_len 0 256

-- a text with one byte more in front or behind, or with a dot and a byte behind
abbrev pub with_byte : List ℕ → ℕ → List (List ℕ)
with_byte t b = (t ++ b ∷ []) ∷ (t ++ 46 ∷ b ∷ []) ∷ (b ∷ t) ∷ []

abbrev pub with_bytes : List ℕ → List (List ℕ)
with_bytes t = flat_map (with_byte t) all_bytes

-- the shortest text there
abbrev pub start_at : Option (List ℕ) → List ℕ
start_at None = []
start_at (Some d) = with_slash d

-- the texts there for which atoms ask
abbrev pub asked_at : Option (List ℕ) → List (List ℕ) → List (List ℕ)
asked_at at asked = filter (λ t. starts_with nat_eq t (start_at at)) asked

-- the least text there for which no atom asks is the shortest, or longer by a byte or two than one for which an atom asks
abbrev pub candidates : List (List ℕ) → Option (List ℕ) → List (List ℕ)
candidates asked at = start_at at ∷ flat_map with_bytes (start_at at ∷ asked_at at asked)

-- ---- the least

-- the lesser of two values, if the second is accepted
abbrev pub lesser : {A : Type 0} → (A → A → Bool) → (A → Bool) → Option A → A → Option A
lesser before accepts None x = if accepts x then Some x else None
lesser before accepts (Some best) x = if accepts x && before x best then Some x else Some best

-- the least of those that are accepted, and of what was found before
abbrev pub least : {A : Type 0} → (A → A → Bool) → (A → Bool) → Option A → List A → Option A
least before accepts best [] = best
least before accepts best (x ∷ xs) = least before accepts (lesser before accepts best x) xs

-- the plain text if that is fresh, and else the least that is
abbrev pub fresh : Limit → List ℕ → List (List ℕ) → List (List ℕ) → Option (List ℕ) → Option (List ℕ)
fresh limit plain asked dirs at =
    if is_fresh limit asked dirs at plain then Some plain
    else least comes_before (is_fresh limit asked dirs at) None (candidates asked at)
