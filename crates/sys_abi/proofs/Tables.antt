-- A table leads from a number to its name and back, where no two of its numbers and no two of its names are one: by induction on
-- the rows.
-- By cases on whether a row passes the test, since the tests on numbers and on names decide equality.
use Rattle.std.specs.Prelude.{ℕ, Bool, true, false, Option, Some, None, List, [], ◌∷◌, map, find, ◌==◌, bytes_eq, nat_eq, is_none, IfSome, ◌&&◌}
use Rattle.std.specs.Option.{option_map, option_copied}
use Rattle.std.specs.List.{list_all}
use Rattle.std.specs.Bool.{Decides}
use Rattle.std.proofs.Common.{◌≡◌, ◌∙◌, sym, refl, ap, cond, subst, Bor, inl, inr, arith, rules}
use Rattle.std.proofs.lemmas.Bool.{false≢true, cases_Bool}
use Rattle.std.proofs.lemmas.Bool.Decides.{Decides-eqb}
use Rattle.std.proofs.lemmas.Slice.Eq.{bytes_eq-Decides}
use Rattle.sys_abi.specs.Names.{name_in, number_in}

-- the first of the images that passes a test is the image of the first whose image passes it
pub find_map : {A B : Type 0} (f : A → B) (p : B → Bool) (xs : List A) → find p (map f xs) ≡ option_map f (find (λ x. p (f x)) xs)
find_map f p [] = refl
find_map f p (x ∷ xs) = found (p (f x)) (find_map f p xs)
  where
    found : (b : Bool) → find p (map f xs) ≡ option_map f (find (λ y. p (f y)) xs) → cond b (Some (f x)) (find p (map f xs)) ≡ option_map f (cond b (Some x) (find (λ y. p (f y)) xs))
    found true h = refl
    found false h = h

-- the field of a row that a call found by reference is that of the row found in the table
pub read_row : {A B C : Type 0} (f : A → B) (p : B → Bool) (g : B → C) (xs : List A) (r : Option (Bor A)) → option_map (λ b. b.now) r ≡ find (λ x. p (f x)) xs → option_map (λ b. g (f b.now)) r ≡ option_map g (find p (map f xs))
read_row f p g xs None h = ap (λ o. option_map g (option_map f o)) h ∙ ap (option_map g) (sym (find_map f p xs))
read_row f p g xs (Some b) h = ap (λ o. option_map g (option_map f o)) h ∙ ap (option_map g) (sym (find_map f p xs))

-- a test that each number of a table passes is passed by the number beside a name
pub number_in_passes : (p : ℕ → Bool) (table : List (ℕ × List ℕ)) (name : List ℕ) (n : ℕ) → list_all (λ row. p row.0) table ≡ true → number_in table name ≡ Some n → p n ≡ true
number_in_passes p [] name n all h = cc
number_in_passes p (row ∷ table) name n all h = first (bytes_eq row.1 name) (λ k. number_in_passes p table name n (grind arith) k) h
  where
    first : (b : Bool) → (number_in table name ≡ Some n → p n ≡ true) → option_map (λ r. r.0) (cond b (Some row) (find (λ r. bytes_eq r.1 name) table)) ≡ Some n → p n ≡ true
    first true later h' = grind arith
    first false later h' = later h'

-- no element has a value that an earlier one has
abbrev pub are_distinct : {A V : Type 0} → (A → V) → (V → V → Bool) → List A → Bool
are_distinct value eq [] = true
are_distinct value eq (x ∷ xs) = is_none (find (λ y. eq (value y) (value x)) xs) && are_distinct value eq xs

-- the element that a test found passes the test
pub find_passes : {A : Type 0} (p : A → Bool) (xs : List A) (r : A) → find p xs ≡ Some r → p r ≡ true
find_passes p [] r h = cc
find_passes p (x ∷ xs) r h = elim (cases_Bool (p x)) [
  | inl passes ↦ let same : x ≡ r = (let at : cond true (Some x) (find p xs) ≡ Some r = subst (λ b. cond b (Some x) (find p xs) ≡ Some r) passes h in cc) in subst (λ y. p y ≡ true) same passes
  | inr fails ↦ find_passes p xs r (subst (λ b. cond b (Some x) (find p xs) ≡ Some r) fails h)
]

-- where no two elements have the same value, an element that was found is the one with its value
pub found_by_value : {A V : Type 0} (p : A → Bool) (value : A → V) (eq : V → V → Bool) → ((a b : V) → Decides (eq a b) (a ≡ b)) → (xs : List A) (r : A) → are_distinct value eq xs ≡ true → find p xs ≡ Some r → find (λ y. eq (value y) (value r)) xs ≡ Some r
found_by_value p value eq same [] r distinct h = h
found_by_value p value eq same (x ∷ xs) r distinct h = elim (cases_Bool (p x)) [
  | inl passes ↦
      let is_x : Some x ≡ Some r = subst (λ b. cond b (Some x) (find p xs) ≡ Some r) passes h in
      let is_r : x ≡ r = cc in
      rw ((same (value x) (value r)).1 (ap value is_r)) is_x
  | inr fails ↦
      let later = found_by_value p value eq same xs r (grind arith) (subst (λ b. cond b (Some x) (find p xs) ≡ Some r) fails h) in
      elim (cases_Bool (eq (value x) (value r))) [
        | inl equal ↦
            let fresh : is_none (find (λ y. eq (value y) (value x)) xs) ≡ true = grind arith in
            let gone = subst (λ v. is_none (find (λ y. eq (value y) v) xs) ≡ true) ((same (value x) (value r)).0 equal) fresh in
            absurd (false≢true (subst (λ o. is_none o ≡ true) later gone))
        | inr other ↦ rw other later
      ]
]

-- the number beside a name leads back to it
pub name_of_number : (table : List (ℕ × List ℕ)) (name : List ℕ) (n : ℕ) → are_distinct (λ row. row.0) nat_eq table ≡ true → number_in table name ≡ Some n → name_in table n ≡ Some name
name_of_number table name n distinct h = through (find (λ row. bytes_eq row.1 name) table) refl h
  where
    through : (o : Option (ℕ × List ℕ)) → find (λ row. bytes_eq row.1 name) table ≡ o → option_map (λ row. row.0) o ≡ Some n → name_in table n ≡ Some name
    through None is h' = cc
    through (Some row) is h' =
        let number : row.0 ≡ n = cc in
        let named : row.1 ≡ name = (bytes_eq-Decides row.1 name).0 (find_passes (λ r. bytes_eq r.1 name) table row is) in
        let at = found_by_value (λ r. bytes_eq r.1 name) (λ r. r.0) nat_eq Decides-eqb table row distinct is in
        subst (λ m. name_in table m ≡ Some name) number (ap (option_map (λ r. r.1)) at ∙ ap Some named)

-- the name beside a number leads back to it
pub number_of_name : (table : List (ℕ × List ℕ)) (n : ℕ) (name : List ℕ) → are_distinct (λ row. row.1) bytes_eq table ≡ true → name_in table n ≡ Some name → number_in table name ≡ Some n
number_of_name table n name distinct h = through (find (λ row. row.0 == n) table) refl h
  where
    through : (o : Option (ℕ × List ℕ)) → find (λ row. row.0 == n) table ≡ o → option_map (λ row. row.1) o ≡ Some name → number_in table name ≡ Some n
    through None is h' = cc
    through (Some row) is h' =
        let named : row.1 ≡ name = cc in
        let number : row.0 ≡ n = (Decides-eqb row.0 n).0 (find_passes (λ r. r.0 == n) table row is) in
        let at = found_by_value (λ r. r.0 == n) (λ r. r.1) bytes_eq bytes_eq-Decides table row distinct is in
        subst (λ t. number_in table t ≡ Some n) named (ap (option_map (λ r. r.0)) at ∙ ap Some number)

-- a name that a call read by reference leads back to its number
pub if_named : (table : List (ℕ × List ℕ)) (o : Option (Bor (List ℕ))) (n : ℕ) → are_distinct (λ row. row.1) bytes_eq table ≡ true → option_copied o ≡ name_in table n → IfSome o (λ text. number_in table text.now ≡ Some n)
if_named table None n distinct h = search rules
if_named table (Some b) n distinct h = number_of_name table n b.now distinct (sym h)

-- a number that a call read from a table leads back to its name
pub if_numbered : (table : List (ℕ × List ℕ)) (o : Option ℕ) (name : List ℕ) → are_distinct (λ row. row.0) nat_eq table ≡ true → o ≡ number_in table name → IfSome o (λ n. name_in table n ≡ Some name)
if_numbered table None name distinct h = search rules
if_numbered table (Some n) name distinct h = name_of_number table name n distinct (sym h)
