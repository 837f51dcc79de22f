-- The paths within a bound of delays, those with the fewest delays first, in the order in which their histories are explored.
-- By the number of delays: each path has some, and of those with as many the order stays.
use Rattle.std.proofs.Common.{◌≡◌, ℕ, zero, suc, ◌+◌, ◌-◌, ◌<◌, ◌≤◌, Bool, true, false, List, [], ◌∷◌, ◌++◌, refl, ap, ◌∙◌, arith}
use Rattle.std.specs.Prelude.{◌==◌, filter, if◌then◌else◌, nat_le, nat_lt, sum_by}
use Rattle.std.proofs.lemmas.Bool.Decides.{nat_tests}
use Rattle.std.proofs.lemmas.List.Sums.{sum_by-append, sum_by-cons}
use Rattle.explorer.specs.Paths.{Path, comes_first}
use Rattle.explorer.proofs.PathsRise.{AreRising, IsAhead}

-- those with so much left in the end
abbrev pub has_left : ℕ → Path → Bool
has_left l x = x.walk.left == l

abbrev pub with_left : ℕ → List Path → List Path
with_left l xs = filter (has_left l) xs

-- those with e delays at most, of a bound of d, the fewest delays first
unfoldable pub by_left : ℕ → ℕ → List Path → List Path
by_left d zero xs = with_left d xs
by_left d (suc e) xs = by_left d e xs ++ with_left (d - suc e) xs

-- ---- Each of them stands there once

-- no path has more left than there were delays
abbrev pub AreWithin : ℕ → List Path → Type 0
AreWithin d [] = Unit {0}
AreWithin d (x ∷ xs) = (x.walk.left ≤ d) × AreWithin d xs

module _ (g : Path → ℕ) where
  -- what it comes to over those that have at most so many delays
  abbrev few : ℕ → ℕ → Path → ℕ
  few d e x = if nat_le d (x.walk.left + e) then g x else 0

  with-left : (l : ℕ) (xs : List Path) → sum_by g (with_left l xs) ≡ sum_by (λ x. if has_left l x then g x else 0) xs
  with-left l [] = refl
  with-left l (x ∷ xs) = by (with-left l xs) (has_left l x) refl
    where
      by : sum_by g (with_left l xs) ≡ sum_by (λ y. if has_left l y then g y else 0) xs → (t : Bool) → has_left l x ≡ t
          → sum_by g (with_left l (x ∷ xs)) ≡ sum_by (λ y. if has_left l y then g y else 0) (x ∷ xs)
      by ih true e =
          let is : with_left l (x ∷ xs) ≡ x ∷ with_left l xs = rw e refl in
          let a : sum_by g (x ∷ with_left l xs) ≡ g x + sum_by g (with_left l xs) = sum_by-cons g x (with_left l xs) in
          let z : sum_by (λ y. if has_left l y then g y else 0) (x ∷ xs) ≡ g x + sum_by (λ y. if has_left l y then g y else 0) xs =
          sum_by-cons (λ y. if has_left l y then g y else 0) x xs ∙ rw e refl in
          omega (arith, ap (sum_by g) is, a, z, ih)
      by ih false e =
          let is : with_left l (x ∷ xs) ≡ with_left l xs = rw e refl in
          let z : sum_by (λ y. if has_left l y then g y else 0) (x ∷ xs) ≡ 0 + sum_by (λ y. if has_left l y then g y else 0) xs =
          sum_by-cons (λ y. if has_left l y then g y else 0) x xs ∙ rw e refl in
          omega (arith, ap (sum_by g) is, z, ih)

  -- one number of delays more
  one_more : (d e : ℕ) (xs : List Path) → suc e ≤ d → AreWithin d xs
      → sum_by (few d e) xs + sum_by (λ x. if has_left (d - suc e) x then g x else 0) xs ≡ sum_by (few d (suc e)) xs
  one_more d e [] l a = refl
  one_more d e (x ∷ xs) l a =
      let p : sum_by (few d e) (x ∷ xs) ≡ few d e x + sum_by (few d e) xs = sum_by-cons (few d e) x xs in
      let q : sum_by (λ y. if has_left (d - suc e) y then g y else 0) (x ∷ xs) ≡ (if has_left (d - suc e) x then g x else 0) + sum_by (λ y. if has_left (d - suc e) y then g y else 0) xs =
      sum_by-cons (λ y. if has_left (d - suc e) y then g y else 0) x xs in
      let r : sum_by (few d (suc e)) (x ∷ xs) ≡ few d (suc e) x + sum_by (few d (suc e)) xs = sum_by-cons (few d (suc e)) x xs in
      let here : few d e x + (if has_left (d - suc e) x then g x else 0) ≡ few d (suc e) x = grind (arith, nat_tests, a.0) in
      omega (arith, p, q, r, here, one_more d e xs l a.1)

  none_more : (d : ℕ) (xs : List Path) → AreWithin d xs → sum_by (λ x. if has_left d x then g x else 0) xs ≡ sum_by (few d 0) xs
  none_more d [] a = refl
  none_more d (x ∷ xs) a =
      let p : sum_by (λ y. if has_left d y then g y else 0) (x ∷ xs) ≡ (if has_left d x then g x else 0) + sum_by (λ y. if has_left d y then g y else 0) xs =
      sum_by-cons (λ y. if has_left d y then g y else 0) x xs in
      let r : sum_by (few d 0) (x ∷ xs) ≡ few d 0 x + sum_by (few d 0) xs = sum_by-cons (few d 0) x xs in
      let here : (if has_left d x then g x else 0) ≡ few d 0 x = grind (arith, nat_tests, a.0) in
      omega (arith, p, r, here, none_more d xs a.1)

  sum_few : (d e : ℕ) (xs : List Path) → e ≤ d → AreWithin d xs → sum_by g (by_left d e xs) ≡ sum_by (few d e) xs
  unfolding by_left
  sum_few d zero xs l a = with-left d xs ∙ none_more d xs a
  sum_few d (suc e) xs l a =
      let p : sum_by g (by_left d e xs ++ with_left (d - suc e) xs) ≡ sum_by g (by_left d e xs) + sum_by g (with_left (d - suc e) xs) =
      sum_by-append g (by_left d e xs) (with_left (d - suc e) xs) in
      omega (arith, p, sum_few d e xs (omega arith) a, with-left (d - suc e) xs, one_more d e xs l a)

  all_few : (d : ℕ) (xs : List Path) → sum_by (few d d) xs ≡ sum_by g xs
  all_few d [] = refl
  all_few d (x ∷ xs) =
      let p : sum_by (few d d) (x ∷ xs) ≡ few d d x + sum_by (few d d) xs = sum_by-cons (few d d) x xs in
      let q : sum_by g (x ∷ xs) ≡ g x + sum_by g xs = sum_by-cons g x xs in
      let here : few d d x ≡ g x = grind (arith, nat_tests) in
      omega (arith, p, q, here, all_few d xs)

  -- so whatever is added up over them is what it comes to over all
  pub sum_by_left : (d : ℕ) (xs : List Path) → AreWithin d xs → sum_by g (by_left d d xs) ≡ sum_by g xs
  sum_by_left d xs a = sum_few d d xs (omega arith) a ∙ all_few d xs

-- ---- They come in their order

-- a path comes first of some others
abbrev pub IsFirstOf : Path → List Path → Type 0
IsFirstOf x [] = Unit {0}
IsFirstOf x (y ∷ ys) = (comes_first x y ≡ true) × IsFirstOf x ys

abbrev pub AreOrdered : List Path → Type 0
AreOrdered [] = Unit {0}
AreOrdered (x ∷ xs) = IsFirstOf x xs × AreOrdered xs

abbrev AreFirstOf : List Path → List Path → Type 0
AreFirstOf [] ys = Unit {0}
AreFirstOf (x ∷ xs) ys = IsFirstOf x ys × AreFirstOf xs ys

first_append : (x : Path) (a b : List Path) → IsFirstOf x a → IsFirstOf x b → IsFirstOf x (a ++ b)
first_append x [] b p q = q
first_append x (y ∷ a) b p q = (p.0, first_append x a b p.1 q)

ordered_append : (a b : List Path) → AreOrdered a → AreOrdered b → AreFirstOf a b → AreOrdered (a ++ b)
ordered_append [] b p q h = q
ordered_append (x ∷ a) b p q h = (first_append x a b p.0 h.0, ordered_append a b p.1 q h.1)

both_first : (a b c : List Path) → AreFirstOf a c → AreFirstOf b c → AreFirstOf (a ++ b) c
both_first [] b c p q = q
both_first (x ∷ a) b c p q = (p.0, both_first a b c p.1 q)

-- of those with as much left
first_same : (l : ℕ) (x : Path) (xs : List Path) → x.walk.left ≡ l → IsAhead x xs → IsFirstOf x (with_left l xs)
first_same l x [] e h = tt
first_same l x (y ∷ xs) e h = by (first_same l x xs e h.1) (has_left l y) refl
  where
    by : IsFirstOf x (with_left l xs) → (t : Bool) → has_left l y ≡ t → IsFirstOf x (if has_left l y then y ∷ with_left l xs else with_left l xs)
    by ih true t =
        let same : (x.walk.left == y.walk.left) ≡ true = grind (arith, nat_tests) in
        let first : comes_first x y ≡ true = rw (same, h.0) (grind (arith, nat_tests)) in
        rw t (first, ih)
    by ih false t = rw t ih

ordered_same : (l : ℕ) (xs : List Path) → AreRising xs → AreOrdered (with_left l xs)
ordered_same l [] h = tt
ordered_same l (x ∷ xs) h = by (ordered_same l xs h.1) (has_left l x) refl
  where
    by : AreOrdered (with_left l xs) → (t : Bool) → has_left l x ≡ t → AreOrdered (if has_left l x then x ∷ with_left l xs else with_left l xs)
    by ih true t = let e : x.walk.left ≡ l = grind (arith, nat_tests) in rw t (first_same l x xs e h.0, ih)
    by ih false t = rw t ih

-- those with more left come first
first_more : (l : ℕ) (x : Path) (ys : List Path) → l < x.walk.left → IsFirstOf x (with_left l ys)
first_more l x [] e = tt
first_more l x (y ∷ ys) e = by (first_more l x ys e) (has_left l y) refl
  where
    by : IsFirstOf x (with_left l ys) → (t : Bool) → has_left l y ≡ t → IsFirstOf x (if has_left l y then y ∷ with_left l ys else with_left l ys)
    by ih true t = let less : nat_lt y.walk.left x.walk.left ≡ true = grind (arith, nat_tests) in rw (t, less) (refl, ih)
    by ih false t = rw t ih

all_more : (l m : ℕ) (xs ys : List Path) → l < m → AreFirstOf (with_left m xs) (with_left l ys)
all_more l m [] ys e = tt
all_more l m (x ∷ xs) ys e = by (all_more l m xs ys e) (has_left m x) refl
  where
    by : AreFirstOf (with_left m xs) (with_left l ys) → (t : Bool) → has_left m x ≡ t → AreFirstOf (if has_left m x then x ∷ with_left m xs else with_left m xs) (with_left l ys)
    by ih true t = let is : x.walk.left ≡ m = grind (arith, nat_tests) in rw t (first_more l x ys (omega (arith, is, e)), ih)
    by ih false t = rw t ih

all_fewer : (d e l : ℕ) (xs ys : List Path) → l < d - e → AreFirstOf (by_left d e xs) (with_left l ys)
unfolding by_left
all_fewer d zero l xs ys h = all_more l d xs ys (omega arith)
all_fewer d (suc e) l xs ys h = both_first (by_left d e xs) (with_left (d - suc e) xs) (with_left l ys) (all_fewer d e l xs ys (omega arith)) (all_more l (d - suc e) xs ys h)

pub ordered_by_left : (d e : ℕ) (xs : List Path) → e ≤ d → AreRising xs → AreOrdered (by_left d e xs)
unfolding by_left
ordered_by_left d zero xs l h = ordered_same d xs h
ordered_by_left d (suc e) xs l h =
    ordered_append (by_left d e xs) (with_left (d - suc e) xs) (ordered_by_left d e xs (omega arith) h) (ordered_same (d - suc e) xs h)
    (all_fewer d e (d - suc e) xs xs (omega arith))
