-- A fact that each step of a reading keeps holds of what is read.
-- By cases on the readings, and by induction on members, items and rows.
use Rattle.std.proofs.Common.{◌≡◌, ℕ, Bool, true, false, not, if◌then◌else◌, List, [], ◌∷◌, ◌++◌, Option, Some, None, option_map, option_and_then, Ok, Err, IfOk, IfSome, bytes_eq, find, refl, sym, inl, inr}
use Rattle.std.specs.Prelude.{⊤}
use Rattle.std.specs.List.{list_all}
use Rattle.std.proofs.lemmas.Bool.{and_parts, both_ways, cases_Bool, or_parts}
use Rattle.std.proofs.lemmas.List.Folds.{list_all-append}
use Rattle.std.proofs.lemmas.Slice.Eq.{bytes_eq-Decides}
use Rattle.hist_model.specs.RuleParts.{has_named, named_once}
use Rattle.serde_json.specs.Data.{Data, Items, no_items, item, Members, no_members, member}
use Rattle.policy_reader.proofs.Items.{has-more}
use Rattle.policy_reader.specs.Readings.{Reading, and_then, good, named, walk, walk_items}

-- ---- Readings

pub anything : {A : Type 0} (r : Reading A) → IfOk r (λ _. ⊤)
anything (Ok x) = tt
anything (Err e) = tt

pub any_found : {A : Type 0} (found : Option A) → IfSome found (λ _. ⊤)
any_found (Some x) = tt
any_found None = tt

pub next_keeps : {A B : Type 0} (P : A → Type 0) (Q : B → Type 0) (r : Reading A) (next : A → Reading B) → IfOk r P → ((x : A) → P x → IfOk (next x) Q) → IfOk (and_then r next) Q
next_keeps P Q (Ok x) next p step = step x p
next_keeps P Q (Err e) next p step = tt

pub good_keeps : {A : Type 0} (P : A → Type 0) (place : List ℕ) (found : Option A) → IfSome found P → IfOk (good place found) P
good_keeps P place (Some x) p = p
good_keeps P place None p = tt

pub found_next : {A B : Type 0} (P : A → Type 0) (Q : B → Type 0) (next : A → Option B) (found : Option A) → IfSome found P → ((x : A) → P x → IfSome (next x) Q) → IfSome (option_and_then next found) Q
found_next P Q next (Some x) p step = step x p
found_next P Q next None p step = tt

pub found_mapped : {A B : Type 0} (P : A → Type 0) (Q : B → Type 0) (f : A → B) (found : Option A) → IfSome found P → ((x : A) → P x → Q (f x)) → IfSome (option_map f found) Q
found_mapped P Q f (Some x) p step = step x p
found_mapped P Q f None p step = tt

pub found_if : {A : Type 0} (P : A → Type 0) (test : Bool) (x : A) → (test ≡ true → P x) → IfSome (if test then Some x else None) P
found_if P true x step = step refl
found_if P false x step = tt

-- ---- Objects and arrays

pub walk_keeps : {S : Type 0} (P : S → Type 0) (read : List ℕ → Data → S → Reading S) → ((key : List ℕ) (d : Data) (s : S) → P s → IfOk (read key d s) P) → (ms : Members) (s : S) → P s → IfOk (walk read ms s) P
walk_keeps P read step no_members s p = p
walk_keeps P read step (member key d ms) s p = next_keeps P P (read key d s) (walk read ms) (step key d s p) (λ t q. walk_keeps P read step ms t q)

pub items_keep : {A : Type 0} (P : List A → Type 0) (read : List A → Data → Reading A) → ((found : List A) (d : Data) → P found → IfOk (read found d) (λ x. P (found ++ x ∷ []))) → (ds : Items) (found : List A) → P found → IfOk (walk_items read found ds) P
items_keep P read step no_items found p = p
items_keep P read step (item d ds) found p = next_keeps (λ x. P (found ++ x ∷ [])) P (read found d) (λ x. walk_items read (found ++ x ∷ []) ds) (step found d p) (λ x q. items_keep P read step ds (found ++ x ∷ []) q)

-- ---- Tables

-- what is found passes what all pass
pub find_passes : {A : Type 0} (p test : A → Bool) (xs : List A) → list_all p xs ≡ true → IfSome (find test xs) (λ x. p x ≡ true)
find_passes p test [] h = tt
find_passes p test (x ∷ xs) h = elim (cases_Bool (test x)) [
  | inl t ↦ rw t ((and_parts (p x) (list_all p xs) h).0)
  | inr n ↦ rw n (find_passes p test xs ((and_parts (p x) (list_all p xs) h).1))
]

pub named_passes : {A : Type 0} (p : A → Bool) (table : List (List ℕ × A)) (name : List ℕ) → list_all (λ row. p row.1) table ≡ true → IfSome (named table name) (λ x. p x ≡ true)
named_passes p table name h = found_mapped (λ row. p row.1 ≡ true) (λ x. p x ≡ true) (λ row. row.1) (find (λ row. bytes_eq row.0 name) table) (find_passes (λ row. p row.1) (λ row. bytes_eq row.0 name) table h) (λ row q. q)

-- ---- Lists

pub all_push : {A : Type 0} (p : A → Bool) (xs : List A) (x : A) → list_all p xs ≡ true → p x ≡ true → list_all p (xs ++ x ∷ []) ≡ true
all_push p xs x h k = rw (list_all-append p xs (x ∷ []), h, k) refl

-- two names that differ do so in either order
apart : (a b : List ℕ) → bytes_eq a b ≡ false → bytes_eq b a ≡ false
apart a b h = elim (cases_Bool (bytes_eq b a)) [
  | inl t ↦ absurd (both_ways (bytes_eq a b) h ((bytes_eq-Decides a b).1 (sym ((bytes_eq-Decides b a).0 t))))
  | inr n ↦ n
]

pub once_push : {A : Type 0} (name : A → List ℕ) (xs : List A) (x : A) → named_once name xs ≡ true → has_named name xs (name x) ≡ false → named_once name (xs ++ x ∷ []) ≡ true
once_push name [] x once new = refl
once_push name (y ∷ xs) x once new =
    let parts = and_parts (not (has_named name xs (name y))) (named_once name xs) once in
    let others = or_parts (bytes_eq (name y) (name x)) (has_named name xs (name x)) new in
    let rest : named_once name (xs ++ x ∷ []) ≡ true = once_push name xs x parts.1 others.1 in
    let differs : bytes_eq (name x) (name y) ≡ false = apart (name y) (name x) others.0 in
    rw (has-more name xs x (name y), differs, rest, parts.0) refl
