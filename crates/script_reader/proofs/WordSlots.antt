-- The word with the slot of a text is the one that is written so, or no word is.
-- By the table of places, which has each word at its own slot, and by induction on the words that a search goes over.
use Rattle.std.proofs.Common.{◌≡◌, ◌∙◌, ℕ, zero, suc, List, [], ◌∷◌, Option, Some, None, refl, ap, sym, subst, cond, map, find, bytes_eq, slice_index, slice_get, length, get_or, arith, ◌<◌, Bor, inl, inr}
use Rattle.std.proofs.lemmas.Option.{slice_get_cases}
use Rattle.std.specs.Prelude.{Bool, true, false}
use Rattle.std.specs.Option.{option_map, option_and_then}
use Rattle.std.proofs.lemmas.Bool.{cases_Bool}
use Rattle.std.proofs.lemmas.Slice.Eq.{bytes_eq-Decides}
use Rattle.sys_abi.proofs.Tables.{find_passes}
use Rattle.script_reader.specs.declared.word.TheConstants.{PLACES}
use Rattle.script_reader.specs.declared.word.Word.{Word}
use Rattle.script_reader.specs.Words.{rows_of, slot_of, word_at, word_if, word_of, words}

each-at-its-slot : map (λ row. slice_get words (slice_index PLACES (slot_of row.0))) words ≡ map (λ row. Some row) words
each-at-its-slot = refl

found-alike : {A B : Type 0} (f g : A → B) (p : A → Bool) (xs : List A) (r : A) → map f xs ≡ map g xs → find p xs ≡ Some r → f r ≡ g r
found-alike f g p [] r same h = cc
found-alike f g p (x ∷ xs) r same h = elim (cases_Bool (p x)) [
  | inl passes ↦
      let at : cond true (Some x) (find p xs) ≡ Some r = subst (λ b. cond b (Some x) (find p xs) ≡ Some r) passes h in
      let is_x : x ≡ r = cc in
      let alike : f x ≡ g x = cc in
      subst (λ y. f y ≡ g y) is_x alike
  | inr fails ↦
      let later : map f xs ≡ map g xs = cc in
      found-alike f g p xs r later (subst (λ b. cond b (Some x) (find p xs) ≡ Some r) fails h)
]

none-passes : {A : Type 0} (p : A → Bool) (xs : List A) (i : ℕ) (r : A) → find p xs ≡ None → slice_get xs i ≡ Some r → p r ≡ false
none-passes p [] i r none h = cc
none-passes p (x ∷ xs) zero r none h = elim (cases_Bool (p x)) [
  | inl passes ↦ let at : cond true (Some x) (find p xs) ≡ None = subst (λ b. cond b (Some x) (find p xs) ≡ None) passes none in cc
  | inr fails ↦ let is_x : x ≡ r = cc in subst (λ y. p y ≡ false) is_x fails
]
none-passes p (x ∷ xs) (suc i) r none h = elim (cases_Bool (p x)) [
  | inl passes ↦ let at : cond true (Some x) (find p xs) ≡ None = subst (λ b. cond b (Some x) (find p xs) ≡ None) passes none in cc
  | inr fails ↦ none-passes p xs i r (subst (λ b. cond b (Some x) (find p xs) ≡ None) fails none) h
]

other-word : (bytes : List ℕ) (o : Option (List ℕ × Word)) → ((row : List ℕ × Word) → o ≡ Some row → bytes_eq row.0 bytes ≡ false) → option_and_then (word_if bytes) o ≡ None
other-word bytes None h = refl
other-word bytes (Some row) h = ap (λ b. cond b (Some row.1) None) (h row refl)

pub word_at_slot : (bytes : List ℕ) → word_at words (slice_index PLACES (slot_of bytes)) bytes ≡ word_of bytes
word_at_slot bytes = through (find (λ row. bytes_eq row.0 bytes) words) refl
  where
    through : (o : Option (List ℕ × Word)) → find (λ row. bytes_eq row.0 bytes) words ≡ o → option_and_then (word_if bytes) (slice_get words (slice_index PLACES (slot_of bytes))) ≡ option_map (λ row. row.1) o
    through None is = other-word bytes (slice_get words (slice_index PLACES (slot_of bytes))) (λ row e. none-passes (λ r. bytes_eq r.0 bytes) words (slice_index PLACES (slot_of bytes)) row is e)
    through (Some row) is =
        let passes : bytes_eq row.0 bytes ≡ true = find_passes (λ r. bytes_eq r.0 bytes) words row is in
        let written : row.0 ≡ bytes = (bytes_eq-Decides row.0 bytes).0 passes in
        let there : slice_get words (slice_index PLACES (slot_of row.0)) ≡ Some row = found-alike (λ r. slice_get words (slice_index PLACES (slot_of r.0))) (λ r. Some r) (λ r. bytes_eq r.0 bytes) words row each-at-its-slot is in
        ap (option_and_then (word_if bytes)) (subst (λ b. slice_get words (slice_index PLACES (slot_of b)) ≡ Some row) written there) ∙ ap (λ b. cond b (Some row.1) None) passes

get-map : {A B : Type 0} (f : A → B) (xs : List A) (i : ℕ) → slice_get (map f xs) i ≡ option_map f (slice_get xs i)
get-map f [] i = refl
get-map f (x ∷ xs) zero = refl
get-map f (x ∷ xs) (suc i) = get-map f xs i

at-row : (table : List (Bor (List ℕ) × Word)) (place : ℕ) (bytes : List ℕ) (row : Option (Bor (List ℕ) × Word)) → slice_get table place ≡ row
    → word_at (rows_of table) place bytes ≡ option_and_then (word_if bytes) (option_map (λ r. (r.0.now, r.1)) row)
at-row table place bytes row is = ap (option_and_then (word_if bytes)) (get-map (λ r. (r.0.now, r.1)) table place ∙ ap (option_map (λ r. (r.0.now, r.1))) is)

pub row_found : (table : List (Bor (List ℕ) × Word)) (place : ℕ) (bytes : List ℕ) (row : Bor (List ℕ) × Word) → slice_get table place ≡ Some row → bytes_eq row.0.now bytes ≡ true
    → word_at (rows_of table) place bytes ≡ Some row.1
row_found table place bytes row is same = at-row table place bytes (Some row) is ∙ ap (λ b. cond b (Some row.1) None) same

pub row_other : (table : List (Bor (List ℕ) × Word)) (place : ℕ) (bytes : List ℕ) (row : Bor (List ℕ) × Word) → slice_get table place ≡ Some row → bytes_eq row.0.now bytes ≡ false
    → word_at (rows_of table) place bytes ≡ None
row_other table place bytes row is other = at-row table place bytes (Some row) is ∙ ap (λ b. cond b (Some row.1) None) other

pub row_missing : (table : List (Bor (List ℕ) × Word)) (place : ℕ) (bytes : List ℕ) → slice_get table place ≡ None → word_at (rows_of table) place bytes ≡ None
row_missing table place bytes is = at-row table place bytes None is

-- the element that was read at a place
pub read_at : {A : Type 0} (xs : List A) (i : ℕ) (r : A) → i < length xs → ((d : A) → r ≡ get_or xs i d) → slice_get xs i ≡ Some r
read_at xs i r within at = elim (slice_get_cases xs i).1 [
  | inl there ↦ there.2 ∙ ap Some (sym (at there.0 ∙ there.3))
  | inr past ↦ absurd (omega (arith, past.0))
]
