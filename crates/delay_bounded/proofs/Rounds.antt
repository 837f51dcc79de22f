-- The places round the circle, one after another, and where each stands.
-- By the lemmas on ranges of numbers, and on remainders.
use Rattle.std.proofs.Common.{◌≡◌, ℕ, suc, ◌+◌, ◌-◌, ◌*◌, ◌<◌, ◌≤◌, ◌%◌, Bool, true, false, cond, nat_lt, List, [], ◌∷◌, ◌++◌, length, map, filter, take, All, drop, refl, sym, ◌∙◌, ap, arith, add-one, drop-cons, ltb-false, ltb-true, mod-eq_of_lt, mod-lt, length-take}
use Rattle.std.specs.List.{range_with_len}
use Rattle.std.proofs.lemmas.List.{drop_all, take-append-drop}
use Rattle.std.proofs.lemmas.List.Elements.{All-cons, All-nil, filter-append}
use Rattle.std.proofs.lemmas.Nat.{mod-mul-add}
use Rattle.std.proofs.lemmas.List.FromFn.{get_or-map-range_with_len, length-map-range_with_len}
use Rattle.delay_bounded.specs.Circle.{round}

-- the next place
pub round_more : (p n q : ℕ) → q < n → drop q (round p n) ≡ ((p + q) % n) ∷ drop (q + 1) (round p n)
round_more p n q h =
    let long : q < length (round p n) = omega (arith, length-map-range_with_len (λ (r : ℕ). (p + r) % n) 0 n) in
    rw add-one (drop-cons (round p n) q 0 long ∙ ap (λ (r : ℕ). r ∷ drop (suc q) (round p n)) (get_or-map-range_with_len (λ (r : ℕ). (p + r) % n) 0 n q q 0 h (omega arith)))

-- and none
pub round_done : (p n q : ℕ) → n ≤ q → drop q (round p n) ≡ []
round_done p n q h = drop_all q (round p n) (omega (arith, length-map-range_with_len (λ (r : ℕ). (p + r) % n) 0 n))

each_inside : (p n : ℕ) → 0 < n → (qs : List ℕ) → All (λ r. r < n) (map (λ q. (p + q) % n) qs)
each_inside p n h [] = All-nil (λ r. r < n)
each_inside p n h (q ∷ qs) = All-cons (λ r. r < n) ((p + q) % n) (map (λ q. (p + q) % n) qs) (mod-lt (p + q) h) (each_inside p n h qs)

-- each is one of the circle
pub round_inside : (p n : ℕ) → 0 < n → All (λ r. r < n) (round p n)
round_inside p n h = each_inside p n h (range_with_len 0 n)

-- ---- Where a place stands

turned_once : (q n : ℕ) → q < n → (q + n) % n ≡ q
turned_once q n l = let sum : q + n ≡ 1 * n + q = omega arith in rw sum (mod-mul-add 1 n q l)

at_index : (p q n : ℕ) → p < n → q < n → (b : Bool) → nat_lt q p ≡ b → (i : ℕ) × (i < n) × ((p + i) % n ≡ q)
at_index p q n l m true e =
    let less : q < p = ltb-true q p e in
    let i = n - p + q in
    let sum : p + i ≡ q + n = omega arith in
    (i, omega arith, rw sum (turned_once q n m))
at_index p q n l m false e =
    let more : p ≤ q = ltb-false q p e in
    let sum : p + (q - p) ≡ q = omega arith in
    (q - p, omega arith, rw sum (mod-eq_of_lt m))

few_filtered : (f : ℕ → Bool) (xs : List ℕ) → length (filter f xs) ≤ length xs
few_filtered f [] = omega arith
few_filtered f (x ∷ xs) = by (f x) (few_filtered f xs)
  where
    by : (b : Bool) → length (filter f xs) ≤ length xs → length (cond b (x ∷ filter f xs) (filter f xs)) ≤ suc (length xs)
    by true h = omega arith
    by false h = omega arith

-- the lists before and behind one of those that pass a test
pub record Split (ps : List ℕ) (q n : ℕ) : Type 0 where
  pub before : List ℕ
  pub behind : List ℕ
  pub whole : ps ≡ before ++ q ∷ behind
  pub short : length before < n

-- each place that passes a test stands among those that do
pub round_splits : (f : ℕ → Bool) (p q n : ℕ) → p < n → q < n → f q ≡ true → Split (filter f (round p n)) q n
round_splits f p q n l m e =
    let (i, inside, there) = at_index p q n l m (nat_lt q p) refl in
    let rest : drop i (round p n) ≡ q ∷ drop (i + 1) (round p n) = round_more p n i inside ∙ ap (λ (r : ℕ). r ∷ drop (i + 1) (round p n)) there in
    let cut : take i (round p n) ++ q ∷ drop (i + 1) (round p n) ≡ round p n = ap (λ (xs : List ℕ). take i (round p n) ++ xs) (sym rest) ∙ take-append-drop i (round p n) in
    let some : filter f (q ∷ drop (i + 1) (round p n)) ≡ q ∷ filter f (drop (i + 1) (round p n)) = rw e refl in
    record {
      before = filter f (take i (round p n));
      behind = filter f (drop (i + 1) (round p n));
      whole = rw (← some, ← filter-append f (take i (round p n)) (q ∷ drop (i + 1) (round p n)), cut) refl;
      short = omega (arith, few_filtered f (take i (round p n)), length-take i (round p n), length-map-range_with_len (λ (r : ℕ). (p + r) % n) 0 n);
    }
