-- Rows that stand for places of a history, in the order of the places.
use Rattle.std.specs.Prelude.{◌≡◌, ℕ, suc, ◌<◌, ◌==◌, if◌then◌else◌, List, [], ◌∷◌, ◌++◌, length, get_or, option_map}
use Rattle.std.specs.Prelude.{slice_get, Option, Some, None}
use Rattle.audit_log.specs.declared.places.CallPlaces.{CallPlaces}

-- the places rise
abbrev pub Rise : List ℕ → Type 0
Rise places = (i j : ℕ) → i < j → j < length places → get_or places i 0 < get_or places j 0

-- the first row of a place
unfoldable pub row_in : List ℕ → ℕ → Option ℕ
row_in [] place = None
row_in (p ∷ places) place = if p == place then Some 0 else option_map (λ row. suc row) (row_in places place)

-- what is kept in a row, if there is one
abbrev pub kept_in : {A : Type 0} → List A → Option ℕ → Option A
kept_in kept None = None
kept_in kept (Some row) = slice_get kept row

-- the call of the event at a place
abbrev pub call_in : CallPlaces → ℕ → Option ℕ
call_in t place = kept_in t.calls.items (row_in t.places.items place)

-- ---- One more row

-- of a place, if there is a call for it
abbrev pub grown : Option ℕ → ℕ → List ℕ → List ℕ
grown None place places = places
grown (Some call) place places = places ++ place ∷ []

-- of a call, if there is one
abbrev pub with_call : Option ℕ → List ℕ → List ℕ
with_call None calls = calls
with_call (Some call) calls = calls ++ call ∷ []

-- there is something in each row, and the rows are those of places below a bound that rise
pub record AreOrdered (bound : ℕ) (places : List ℕ) (rows : ℕ) : Type 0 where
  pub rise : Rise places
  pub below : (i : ℕ) → i < length places → get_or places i 0 < bound
  pub whole : rows ≡ length places
