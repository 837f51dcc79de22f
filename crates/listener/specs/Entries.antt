-- The listed calls in the order of entry.
use Rattle.std.specs.Prelude.{◌≡◌, ℕ, ◌<◌, Bool, true, false, not, List, [], ◌∷◌, length, map, filter, find, Option, Some, None}
use Rattle.std.specs.Prelude.{if◌then◌else◌, ◌==◌, slice_index_or, set}
use Rattle.std.specs.List.{remove}
use Rattle.hist_model.specs.declared.notification.Reply.{Reply}
use Rattle.hist_model.specs.declared.request.TaskRef.{TaskRef}
use Rattle.listener.specs.declared.order.Entry.{Entry}

-- the call has this number
abbrev pub has_number : ℕ → Entry → Bool
has_number n e = e.number == n

-- a call that is entered by a task
abbrev pub new_entry : ℕ → TaskRef → Entry
new_entry n t = record { number = n; owner = t; reply = None }

-- it will return so
abbrev pub with_reply : Option Reply → Entry → Entry
with_reply y e = record e { reply = y }

-- the same of the call with this number
abbrev pub replied : ℕ → Option Reply → Entry → Entry
replied n y e = if has_number n e then with_reply y e else e

-- by what calls are in order
abbrev pub entry_number : Entry → ℕ
entry_number e = e.number

-- all numbers are below this one
abbrev pub AreBelow : ℕ → List Entry → Type 0
AreBelow n xs = (i : ℕ) (d : Entry) → i < length xs → (slice_index_or xs i d).number < n

-- no call is listed
abbrev pub is_empty : List Entry → Bool
is_empty [] = true
is_empty (e ∷ es) = false

-- the call with this number stands at this place
pub record IsPlace (xs : List Entry) (n i : ℕ) : Type 0 where
  pub bound : i < length xs
  pub found : (d : Entry) → find (has_number n) xs ≡ Some (slice_index_or xs i d)
  pub rest : filter (λ e. not (has_number n e)) xs ≡ remove xs i
  pub put : (y : Option Reply) (d : Entry) → map (replied n y) xs ≡ set xs i (with_reply y (slice_index_or xs i d))

-- no call has this number
pub record IsAbsent (xs : List Entry) (n : ℕ) : Type 0 where
  pub found : find (has_number n) xs ≡ None
  pub rest : filter (λ e. not (has_number n e)) xs ≡ xs
  pub put : (y : Option Reply) → map (replied n y) xs ≡ xs
