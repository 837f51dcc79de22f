-- How many histories of a state have each number of delays, after one more turn: as many as had so many before.
-- By what one more turn changes of what is left to each.
use Rattle.std.proofs.Common.{◌≡◌, ℕ, ◌+◌, ◌-◌, ◌≤◌, Bool, true, false, List, [], ◌∷◌, map, refl, sym, ap, ap₂, ◌∙◌, arith}
use Rattle.std.specs.Prelude.{All, ◌==◌, ◌&&◌, count_by, filter, if◌then◌else◌, nat_le, nat_lt}
use Rattle.std.proofs.lemmas.Bool.Decides.{nat_tests}
use Rattle.std.proofs.lemmas.List.Elements.{All-head, All-tail, All-weaker}
use Rattle.std.proofs.lemmas.List.Sums.{sum_by-cons}
use Rattle.hist_model.specs.declared.policy.Policy.{Policy}
use Rattle.hist_model.specs.declared.script.Script.{Script}
use Rattle.explorer.specs.Joining.{coming_from}
use Rattle.explorer.specs.Levels.{Counts, left_to, slot_of}
use Rattle.explorer.specs.declared.frames.Frame.{Frame}
use Rattle.explorer.specs.declared.state.Bound.{Bound}
use Rattle.explorer.proofs.PathSteps.{left_more}
use Rattle.explorer.proofs.PathSums.{all_longer, has_left, longer}

-- ---- Counts of what passes a test

module _ {A : Type 0} where
  pub count_cons : (p : A → Bool) (x : A) (xs : List A) → count_by p (x ∷ xs) ≡ (if p x then 1 else 0) + count_by p xs
  count_cons p x xs = sum_by-cons (λ y. if p y then 1 else 0) x xs

  pub count_same : (p q : A → Bool) (xs : List A) → All (λ x. p x ≡ q x) xs → count_by p xs ≡ count_by q xs
  count_same p q [] a = refl
  count_same p q (x ∷ xs) a =
      count_cons p x xs
      ∙ (ap₂ (λ (t : Bool) (n : ℕ). (if t then 1 else 0) + n) (All-head (λ x. p x ≡ q x) x xs a) (count_same p q xs (All-tail (λ x. p x ≡ q x) x xs a))
      ∙ sym (count_cons q x xs))

  pub count_none : (xs : List A) → count_by (λ x. false) xs ≡ 0
  count_none [] = refl
  count_none (x ∷ xs) = count_cons (λ x. false) x xs ∙ ap (λ (n : ℕ). 0 + n) (count_none xs)

pub count_mapped : {A B : Type 0} (p : B → Bool) (f : A → B) (t : A → Bool) (xs : List A)
    → count_by p (map f (filter t xs)) ≡ count_by (λ x. t x && p (f x)) xs
count_mapped p f t [] = refl
count_mapped {A} {B} p f t (x ∷ xs) = by (count_mapped p f t xs) (t x) refl
  where
    by : count_by p (map f (filter t xs)) ≡ count_by (λ x. t x && p (f x)) xs → (b : Bool) → t x ≡ b
        → count_by p (map f (filter t (x ∷ xs))) ≡ count_by (λ x. t x && p (f x)) (x ∷ xs)
    by ih true e =
        let all : count_by (λ x. t x && p (f x)) (x ∷ xs) ≡ (if p (f x) then 1 else 0) + count_by (λ x. t x && p (f x)) xs =
        count_cons (λ x. t x && p (f x)) x xs ∙ rw e refl in
        let here : map f (filter t (x ∷ xs)) ≡ f x ∷ map f (filter t xs) = rw e refl in
        ap (count_by p) here ∙ (count_cons p (f x) (map f (filter t xs)) ∙ (ap (λ (n : ℕ). (if p (f x) then 1 else 0) + n) ih ∙ sym all))
    by ih false e =
        let all : count_by (λ x. t x && p (f x)) (x ∷ xs) ≡ 0 + count_by (λ x. t x && p (f x)) xs = count_cons (λ x. t x && p (f x)) x xs ∙ rw e refl in
        let here : map f (filter t (x ∷ xs)) ≡ map f (filter t xs) = rw e refl in
        ap (count_by p) here ∙ (ih ∙ omega (arith, all))

-- ---- With a bound

module _ (P : Policy) (S : Script) (W m q n c : ℕ) where
  abbrev with_bound : Bound
  with_bound = record { most = m; is_meant = true }

  abbrev left : List Frame → ℕ
  left = left_to P S W with_bound

  abbrev moved : ℕ → List Frame → Bool
  moved i fs = if nat_lt m i then false else (if nat_lt i c then false else (m - left fs == i - c))

  counted_before : (i l : ℕ) → l ≤ m → (nat_le c l && (m - (l - c) == i)) ≡ (if nat_lt m i then false else (if nat_lt i c then false else (m - l == i - c)))
  counted_before i l h = grind (arith, nat_tests)

  counted_all : (i : ℕ) (ms : List (List Frame)) (s t : Bool)
      → count_by (λ fs. if s then false else (if t then false else (m - left fs == i - c))) ms
      ≡ (if s then 0 else (if t then 0 else count_by (λ fs. m - left fs == i - c) ms))
  counted_all i ms true t = count_none ms
  counted_all i ms false true = count_none ms
  counted_all i ms false false = refl

  pub bounded : (counts : List ℕ) (ms : List (List Frame)) → All (λ fs. left fs ≤ m) ms → Counts P S W with_bound counts ms
      → (i : ℕ) → coming_from with_bound c counts i ≡ count_by (λ fs. slot_of P S W with_bound fs == i) (all_longer P S W with_bound q n c ms)
  bounded counts ms a k i =
      let tests : All (λ fs. (nat_le c (left fs) && (slot_of P S W with_bound (longer P S W with_bound q n c fs) == i)) ≡ moved i fs) ms =
      All-weaker (λ fs. left fs ≤ m) (λ fs. (nat_le c (left fs) && (slot_of P S W with_bound (longer P S W with_bound q n c fs) == i)) ≡ moved i fs)
      (λ fs h. rw (left_more m fs (record { place = q; next = n; left = left fs - c })) (counted_before i (left fs) h)) ms a in
      sym (count_mapped (λ fs. slot_of P S W with_bound fs == i) (longer P S W with_bound q n c) (has_left P S W with_bound c) ms
      ∙ (count_same (λ fs. nat_le c (left fs) && (slot_of P S W with_bound (longer P S W with_bound q n c fs) == i)) (moved i) ms tests
      ∙ (counted_all i ms (nat_lt m i) (nat_lt i c)
      ∙ ap (λ (x : ℕ). if nat_lt m i then 0 else (if nat_lt i c then 0 else x)) (sym (k (i - c))))))

-- ---- Without one

module _ (P : Policy) (S : Script) (W m q n c : ℕ) where
  abbrev without : Bound
  without = record { most = m; is_meant = false }

  pub unbounded : (counts : List ℕ) (ms : List (List Frame)) → All (λ fs. c ≤ left_to P S W without fs) ms → Counts P S W without counts ms
      → (i : ℕ) → coming_from without c counts i ≡ count_by (λ fs. slot_of P S W without fs == i) (all_longer P S W without q n c ms)
  unbounded counts ms a k i =
      let tests : All (λ fs. (nat_le c (left_to P S W without fs) && (0 == i)) ≡ (0 == i)) ms =
      All-weaker (λ fs. c ≤ left_to P S W without fs) (λ fs. (nat_le c (left_to P S W without fs) && (0 == i)) ≡ (0 == i))
      (λ fs h. let t : nat_le c (left_to P S W without fs) ≡ true = grind (arith, nat_tests) in rw t refl) ms a in
      k i ∙ sym (count_mapped (λ fs. slot_of P S W without fs == i) (longer P S W without q n c) (has_left P S W without c) ms
      ∙ count_same (λ fs. nat_le c (left_to P S W without fs) && (0 == i)) (λ fs. 0 == i) ms tests)
