-- A test on what is seen of each element.
-- By induction on the elements.
use Rattle.std.proofs.Common.{◌≡◌, List, [], ◌∷◌, Bool, ◌||◌, map, ap, refl}
use Rattle.std.specs.List.{list_any}

pub any-map : {A B : Type 0} (f : A → B) (p : B → Bool) (xs : List A) → list_any (λ x. p (f x)) xs ≡ list_any p (map f xs)
any-map f p [] = refl
any-map f p (x ∷ xs) = ap (λ b. p (f x) || b) (any-map f p xs)
