-- A set of names that gained one has that one and the earlier ones: by induction on the keys, where the new one has its place.
-- By the three outcomes of a comparison with a key, since keys that compare as equal have one name.
use Rattle.std.proofs.Common.{◌≡◌, ℕ, Bool, true, false, ◌||◌, List, [], ◌∷◌, Vec, Global, refl, sym, ap, ◌∙◌, bytes_eq, Ordering, Less, Equal, Greater, is_eq, nat_cmp}
use Rattle.std.specs.BTreeSet.{insert_key}
use Rattle.std.specs.Cmp.Lexicographic.{slice_cmp, nat_list_eq_equiv}
use Rattle.std.specs.List.{list_any}
use Rattle.std.specs.Ordering.{match_ordering}
use Rattle.std.proofs.lemmas.Map.Text.{is_eq-slice_cmp}
use Rattle.std.proofs.lemmas.Slice.Eq.{bytes_eq-Decides}

-- whether a key is this name
abbrev is_name : List ℕ → Vec ℕ Global → Bool
is_name q x = is_eq (slice_cmp nat_cmp q x.items)

turned : (q : List ℕ) (k : Vec ℕ Global) → is_name q k ≡ bytes_eq k.items q
turned q k = is_eq-slice_cmp q k.items ∙ nat_list_eq_equiv.symm q k.items

-- two keys of one place have one name
same : (k x : Vec ℕ Global) → slice_cmp nat_cmp k.items x.items ≡ Equal → k.items ≡ x.items
same k x e = (bytes_eq-Decides k.items x.items).0 (sym (is_eq-slice_cmp k.items x.items) ∙ ap is_eq e)

swap : (a b c : Bool) → (a || (b || c)) ≡ (b || (a || c))
swap true true c = refl
swap true false c = refl
swap false true c = refl
swap false false c = refl

twice : (a c : Bool) → (a || c) ≡ (a || (a || c))
twice true c = refl
twice false c = refl

at : (o : Ordering) (q : List ℕ) (k x : Vec ℕ Global) (xs rest : List (Vec ℕ Global)) → slice_cmp nat_cmp k.items x.items ≡ o
    → list_any (is_name q) rest ≡ (bytes_eq k.items q || list_any (is_name q) xs)
    → list_any (is_name q) (match_ordering o (k ∷ x ∷ xs) (x ∷ xs) (x ∷ rest)) ≡ (bytes_eq k.items q || (is_name q x || list_any (is_name q) xs))
at Less q k x xs rest is later = ap (λ b. b || (is_name q x || list_any (is_name q) xs)) (turned q k)
at Equal q k x xs rest is later =
    let e : bytes_eq k.items q ≡ is_name q x = ap (λ items. bytes_eq items q) (same k x is) ∙ sym (turned q x) in
    rw e (twice (is_name q x) (list_any (is_name q) xs))
at Greater q k x xs rest is later = ap (λ b. is_name q x || b) later ∙ swap (is_name q x) (bytes_eq k.items q) (list_any (is_name q) xs)

pub added : (q : List ℕ) (keys : List (Vec ℕ Global)) (k : Vec ℕ Global) → list_any (λ x. is_eq (slice_cmp nat_cmp q x.items)) (insert_key (λ x y. slice_cmp nat_cmp x.items y.items) keys k) ≡ (bytes_eq k.items q || list_any (λ x. is_eq (slice_cmp nat_cmp q x.items)) keys)
added q [] k = ap (λ b. b || false) (turned q k)
added q (x ∷ xs) k = at (slice_cmp nat_cmp k.items x.items) q k x xs _ refl (added q xs k)
