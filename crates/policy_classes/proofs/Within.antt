-- A directory with a slash begins with another one with a slash where they are one, or the first lies below the second.
-- By induction on both.
use Rattle.std.proofs.Common.{◌≡◌, ℕ, Bool, true, false, ◌&&◌, ◌||◌, List, [], ◌∷◌, ◌++◌, refl, ap, ◌∙◌, arith}
use Rattle.std.specs.Prelude.{bytes_eq, nat_eq}
use Rattle.std.specs.List.{starts_with}
use Rattle.policy_classes.specs.Fresh.{with_slash}

pub within_dir : (d e : List ℕ) → starts_with nat_eq (with_slash d) (with_slash e) ≡ (bytes_eq d e || starts_with nat_eq d (with_slash e))
within_dir [] [] = refl
within_dir [] (y ∷ e) = by (nat_eq y 47) e
  where
    by : (b : Bool) (e : List ℕ) → (b && starts_with nat_eq [] (with_slash e)) ≡ false
    by true [] = refl
    by true (z ∷ e) = refl
    by false e = refl
within_dir (x ∷ d) [] = by (nat_eq 47 x) (starts_with nat_eq (d ++ 47 ∷ []) []) refl
  where
    by : (b c : Bool) → c ≡ true → (b && c) ≡ (b && true)
    by true c h = h
    by false c h = refl
within_dir (x ∷ d) (y ∷ e) =
    ap (λ b. nat_eq y x && b) (within_dir d e)
    ∙ by (nat_eq y x) (nat_eq x y) (bytes_eq d e) (starts_with nat_eq d (with_slash e)) (grind arith)
  where
    by : (a b c s : Bool) → a ≡ b → (a && (c || s)) ≡ ((b && c) || (a && s))
    by true true c s h = refl
    by true false c s h = cc
    by false true c s h = cc
    by false false c s h = refl
