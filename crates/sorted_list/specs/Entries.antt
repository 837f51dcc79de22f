-- Entries in the order of their numbers.
use Rattle.std.specs.Prelude.{◌≡◌, ℕ, ◌<◌, ◌≤◌, ◌==◌, if◌then◌else◌, List, length, slice_index_or, find, Option, Some, None}

-- each entry has a lower number than the later ones
abbrev pub NumbersRise : {T : Type 0} → (T → ℕ) → List T → Type 0
NumbersRise {T} number xs = (i j : ℕ) (d : T) → i < j → j < length xs → number (slice_index_or xs i d) < number (slice_index_or xs j d)

-- the entry of a number
unfoldable pub entry_for : {T : Type 0} → (T → ℕ) → List T → ℕ → Option T
entry_for number xs n = find (λ e. number e == n) xs

-- the entry at this place has the number
pub record IsPlaceOf {T : Type 0} (number : T → ℕ) (xs : List T) (n i : ℕ) : Type 0 where
  pub within : i < length xs
  pub here : (d : T) → number (slice_index_or xs i d) ≡ n

-- no entry has the number, whose entry would stand at this place
pub record IsGapFor {T : Type 0} (number : T → ℕ) (xs : List T) (n i : ℕ) : Type 0 where
  pub within : i ≤ length xs
  pub lower : (k : ℕ) (d : T) → k < i → number (slice_index_or xs k d) < n
  pub higher : (k : ℕ) (d : T) → i ≤ k → k < length xs → n < number (slice_index_or xs k d)

-- the number has this entry now, or none, and each other number the one that it had
pub record IsSet {T : Type 0} (number : T → ℕ) (old : List T) (n : ℕ) (entry : Option T) (new : List T) : Type 0 where
  pub rise : NumbersRise number new
  pub entries : (m : ℕ) → entry_for number new m ≡ (if m == n then entry else entry_for number old m)

-- what a function gives for an entry; 0 for none
abbrev pub at_some : {T : Type 0} → (T → ℕ) → Option T → ℕ
at_some f (Some e) = f e
at_some f None = 0
