-- The least of the values that are accepted is found, where there is one.
-- By induction on the values, for any order that goes through.
use Rattle.std.proofs.Common.{◌≡◌, ℕ, zero, suc, ◌<◌, Bool, true, false, ◌&&◌, cond, List, [], ◌∷◌, length, get_or, Option, Some, None, refl, ap, sym, ◌∙◌, subst, arith}
use Rattle.std.specs.Prelude.{Any}
use Rattle.policy_classes.specs.Fresh.{least, lesser}

-- a test of two values is that of an order
pub record Orders {A : Type 0} (before : A → A → Bool) (UpTo : A → A → Type 0) : Type 0 where
  pub itself : (x : A) → UpTo x x
  pub through : (x y z : A) → UpTo x y → UpTo y z → UpTo x z
  pub yes : (x y : A) → before x y ≡ true → UpTo x y
  pub no : (x y : A) → before x y ≡ false → UpTo y x

module _ {A : Type 0} (before : A → A → Bool) (accepts : A → Bool) where
  pub least_accepted : (best : Option A) (xs : List A) (m : A) → ((b : A) → best ≡ Some b → accepts b ≡ true)
      → least before accepts best xs ≡ Some m → accepts m ≡ true
  least_accepted best [] m h e = h m e
  least_accepted None (x ∷ xs) m h e = by (accepts x) refl e (λ b. least_accepted b xs m)
    where
      by : (b : Bool) → accepts x ≡ b → least before accepts (cond (accepts x) (Some x) None) xs ≡ Some m
          → ((best : Option A) → ((c : A) → best ≡ Some c → accepts c ≡ true) → least before accepts best xs ≡ Some m → accepts m ≡ true)
          → accepts m ≡ true
      by true a e rest = rest (Some x) (λ c s. cc) (rw (← ap (λ b. cond b (Some x) None) a) e)
      by false a e rest = rest None (λ c s. cc) (rw (← ap (λ b. cond b (Some x) None) a) e)
  least_accepted (Some y) (x ∷ xs) m h e = by (accepts x) refl (before x y) refl e (λ b. least_accepted b xs m)
    where
      by : (b : Bool) → accepts x ≡ b → (c : Bool) → before x y ≡ c
          → least before accepts (cond (accepts x && before x y) (Some x) (Some y)) xs ≡ Some m
          → ((best : Option A) → ((c : A) → best ≡ Some c → accepts c ≡ true) → least before accepts best xs ≡ Some m → accepts m ≡ true)
          → accepts m ≡ true
      by true a true c e rest = rest (Some x) (λ z s. cc) (cc)
      by true a false c e rest = rest (Some y) h (cc)
      by false a c d e rest = rest (Some y) h (cc)

  module _ (UpTo : A → A → Type 0) (orders : Orders before UpTo) where
    -- what is found is at most what was found before
    least_below : (b : A) (xs : List A) → (m : A) × (least before accepts (Some b) xs ≡ Some m) × UpTo m b
    least_below b [] = (b, refl, orders.itself b)
    least_below b (x ∷ xs) = by (accepts x && before x b) refl (λ c. least_below c xs)
      where
        and_right : (p q : Bool) → (p && q) ≡ true → q ≡ true
        and_right true q h = h
        and_right false q h = cc

        take : (accepts x && before x b) ≡ true → (m : A) × (least before accepts (Some x) xs ≡ Some m) × UpTo m x
            → (m : A) × (least before accepts (Some x) xs ≡ Some m) × UpTo m b
        take e (m, f, u) = (m, f, orders.through m x b u (orders.yes x b (and_right (accepts x) (before x b) e)))

        by : (c : Bool) → (accepts x && before x b) ≡ c → ((c : A) → (m : A) × (least before accepts (Some c) xs ≡ Some m) × UpTo m c)
            → (m : A) × (least before accepts (cond (accepts x && before x b) (Some x) (Some b)) xs ≡ Some m) × UpTo m b
        by true e rest = rw e (take e (rest x))
        by false e rest = rw e (rest b)

    -- and at most each value that is accepted
    pub least_found : (best : Option A) (xs : List A) (k : ℕ) (d : A) → k < length xs → accepts (get_or xs k d) ≡ true
        → (m : A) × (least before accepts best xs ≡ Some m) × UpTo m (get_or xs k d)
    least_found best [] k d l h = absurd (omega arith)
    least_found None (x ∷ xs) zero d l h = rw h (least_below x xs)
    least_found (Some b) (x ∷ xs) zero d l h = by (before x b) refl
      where
        keep : before x b ≡ false → (m : A) × (least before accepts (Some b) xs ≡ Some m) × UpTo m b
            → (m : A) × (least before accepts (Some b) xs ≡ Some m) × UpTo m x
        keep e (m, f, u) = (m, f, orders.through m b x u (orders.no x b e))

        by : (c : Bool) → before x b ≡ c → (m : A) × (least before accepts (cond (accepts x && before x b) (Some x) (Some b)) xs ≡ Some m) × UpTo m x
        by true e = rw (h, e) (least_below x xs)
        by false e = rw (h, e) (keep e (least_below b xs))
    least_found best (x ∷ xs) (suc k) d l h = least_found (lesser before accepts best x) xs k d (omega arith) h

    -- so, where one of them is up to a value, what is found is
    pub least_up_to : (xs : List A) (t : A) → Any (λ x. (accepts x ≡ true) × UpTo x t) xs → (m : A) × (least before accepts None xs ≡ Some m) × UpTo m t
    least_up_to xs t (k, x, l, e, h) = of (least_found None xs k x l (ap accepts e ∙ h.0))
      where
        of : (m : A) × (least before accepts None xs ≡ Some m) × UpTo m (get_or xs k x) → (m : A) × (least before accepts None xs ≡ Some m) × UpTo m t
        of (m, f, u) = (m, f, orders.through m (get_or xs k x) t u (subst (λ y. UpTo y t) (sym e) h.1))
