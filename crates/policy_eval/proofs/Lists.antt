-- Lists that a loop builds from the front.
-- By induction on the list, with `take_more`.
use Rattle.std.proofs.Common.{◌≡◌, ℕ, ◌+◌, ◌<◌, List, [], ◌∷◌, ◌++◌, length, map, take, get_or, refl, ap, ◌∙◌, append_assoc, append-nil}
use Rattle.std.specs.List.{flat_map}
use Rattle.std.proofs.lemmas.Grind.{flat_map-append}
use Rattle.std.proofs.lemmas.List.{take_more}

map_push : {A B : Type 0} → (f : A → B) (xs : List A) (x : A) → map f (xs ++ x ∷ []) ≡ map f xs ++ f x ∷ []
map_push f [] x = refl
map_push f (y ∷ ys) x = ap (λ zs. f y ∷ zs) (map_push f ys x)

-- one more element is mapped
map_take_more : {A B : Type 0} → (f : A → B) (xs : List A) (i : ℕ) (d : A) → i < length xs → map f (take (i + 1) xs) ≡ map f (take i xs) ++ f (get_or xs i d) ∷ []
map_take_more f xs i d h = ap (map f) (take_more xs i d h) ∙ map_push f (take i xs) (get_or xs i d)

-- what stands behind the old list, with one more
pub one_more : {A B : Type 0} → (f : A → B) (xs : List A) (i : ℕ) (d : A) (old now new : List B) (one : B) → i < length xs → now ≡ old ++ map f (take i xs) → new ≡ now ++ one ∷ [] → one ≡ f (get_or xs i d) → new ≡ old ++ map f (take (i + 1) xs)
one_more f xs i d old now new one h was grows is = rw (grows, was, is, append_assoc, map_take_more f xs i d h) refl

-- one more element is mapped to a list
flat_take_more : {A B : Type 0} → (f : A → List B) (xs : List A) (i : ℕ) (d : A) → i < length xs → flat_map f (take (i + 1) xs) ≡ flat_map f (take i xs) ++ f (get_or xs i d)
flat_take_more f xs i d h = ap (flat_map f) (take_more xs i d h) ∙ flat_map-append f (take i xs) (get_or xs i d ∷ []) ∙ ap (λ ys. flat_map f (take i xs) ++ ys) (append-nil (f (get_or xs i d)))

-- what stands behind the old list, with the list of one more
pub one_more_list : {A B : Type 0} → (f : A → List B) (xs : List A) (i : ℕ) (d : A) (old now new : List B) → i < length xs → now ≡ old ++ flat_map f (take i xs) → new ≡ now ++ f (get_or xs i d) → new ≡ old ++ flat_map f (take (i + 1) xs)
one_more_list f xs i d old now new h was grows = rw (grows, was, append_assoc, flat_take_more f xs i d h) refl
