-- The lowest number without an entry is found by halves.
-- By how fast the numbers rise: the place of an entry isn't above its number.
use Rattle.std.proofs.Common.{◌≡◌, inl, inr, ℕ, ◌+◌, ◌<◌, ◌≤◌, List, [], ◌∷◌, length, get_or, ap, ◌∙◌, arith, rules}
use Rattle.std.proofs.lemmas.Bool.{cases_lt}
use Rattle.std.proofs.lemmas.List.{get_or_default}
use Rattle.sorted_list.specs.Entries.{NumbersRise}
use Rattle.sorted_list.proofs.Found.{rise-fast, place-entry, none-absent}
use Rattle.task_groups.specs.declared.descriptors.Descriptor.{Descriptor}
use Rattle.task_groups.specs.Descriptors.{descriptor_number, IsFirstFree}

-- the numbers below a place are the places, and those from a place on are above them
abbrev pub IsFull : List Descriptor → ℕ → Type 0
IsFull xs low = (j : ℕ) (d : Descriptor) → j < low → (get_or xs j d).number ≡ j

abbrev pub IsThin : List Descriptor → ℕ → Type 0
IsThin xs high = (j : ℕ) (d : Descriptor) → high ≤ j → j < length xs → j < (get_or xs j d).number

pub full-up-to : (xs : List Descriptor) (i : ℕ) (e : Descriptor) → NumbersRise descriptor_number xs → i < length xs → (get_or xs i e).number ≡ i → IsFull xs (i + 1)
full-up-to xs i e r l h j d m = omega (arith, rise-fast descriptor_number xs j i d r (omega arith) l, rise-fast descriptor_number xs 0 j d r (omega arith) (omega arith), ap (λ (x : Descriptor). x.number) (get_or_default xs i d e l) ∙ h)

pub thin-from : (xs : List Descriptor) (i : ℕ) (e : Descriptor) → NumbersRise descriptor_number xs → i < length xs → ((get_or xs i e).number ≡ i → ⊥) → IsThin xs i
thin-from xs i e r l h j d m k =
    let n : ((get_or xs i d).number ≡ i → ⊥) = λ q. h (ap (λ (x : Descriptor). x.number) (get_or_default xs i e d l) ∙ q) in
    omega (arith, rise-fast descriptor_number xs i j d r m k, rise-fast descriptor_number xs 0 i d r (omega arith) l, n)

some-of : (xs : List Descriptor) (i : ℕ) → i < length xs → Descriptor
some-of [] i l = absurd (omega arith)
some-of (x ∷ xs) i l = x

-- between such places is the lowest number without an entry
pub first-free : (xs : List Descriptor) (n : ℕ) → NumbersRise descriptor_number xs → n ≤ length xs → IsFull xs n → IsThin xs n → IsFirstFree xs n
first-free xs n r b full thin = record {
  taken = λ m l. let d = some-of xs m (omega arith) in
      rw (place-entry descriptor_number xs m m d r (record { within = omega arith; here = λ e. full m e l })) search rules;
  free = none-absent descriptor_number xs n (λ i d l q. elim (cases_lt i n) [
    | inl a ↦ omega (arith, full i d a, q)
    | inr a ↦ omega (arith, thin i d a l, q)
  ]);
}
