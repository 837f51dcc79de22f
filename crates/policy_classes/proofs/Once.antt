-- Each element is there once those before it are.
-- By induction on the elements.
use Rattle.std.proofs.Common.{◌≡◌, zero, suc, Bool, true, false, cond, List, [], ◌∷◌, ◌++◌, get_or, refl, sym, subst, ◌⊎◌, inl, inr, arith}
use Rattle.std.specs.Prelude.{Any, Contains}
use Rattle.std.specs.List.{list_any}
use Rattle.std.proofs.lemmas.List.Elements.{Contains-append_left, Contains-push}
use Rattle.policy_classes.specs.Chosen.{added, once_behind}
use Rattle.policy_classes.proofs.Lists.{some_passes}

module _ {A : Type 0} (same : A → A → Bool) (decides : (x y : A) → same x y ≡ true → x ≡ y) where
  still_there : (xs : List A) (x y : A) → Contains xs y → Contains (added same xs x) y
  still_there xs x y c = by (list_any (λ z. same x z) xs)
    where
      by : (b : Bool) → Contains (cond b xs (xs ++ x ∷ [])) y
      by true = c
      by false = Contains-append_left xs (x ∷ []) y c

  now_there : (xs : List A) (x : A) → Contains (added same xs x) x
  now_there xs x = by (list_any (λ z. same x z) xs) refl
    where
      of : Any (λ z. same x z ≡ true) xs → Contains xs x
      of (k, z, l, e, h) = (k, l, subst (λ y. get_or xs k y ≡ y) (sym (decides x z h)) e)

      by : (b : Bool) → list_any (λ z. same x z) xs ≡ b → Contains (cond b xs (xs ++ x ∷ [])) x
      by true e = of (some_passes (λ z. same x z) xs e)
      by false e = Contains-push xs x

  pub once_has : (seen xs : List A) (y : A) → Contains seen y ⊎ Contains xs y → Contains (once_behind same seen xs) y
  once_has seen [] y (inl c) = c
  once_has seen [] y (inr (k, l, e)) = absurd (omega arith)
  once_has seen (x ∷ xs) y (inl c) = once_has (added same seen x) xs y (inl (still_there seen x y c))
  once_has seen (x ∷ xs) y (inr (zero, l, e)) = once_has (added same seen x) xs y (inl (subst (Contains (added same seen x)) e (now_there seen x)))
  once_has seen (x ∷ xs) y (inr (suc k, l, e)) = once_has (added same seen x) xs y (inr (k, omega arith, e))
