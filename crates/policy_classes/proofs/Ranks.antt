-- A call whose fields come up to those of another doesn't come behind it.
-- By induction on the fields, whose ranks stand one behind the other.
use Rattle.std.proofs.Common.{◌≡◌, ℕ, ◌+◌, ◌<◌, ◌≤◌, Bool, true, false, cond, List, [], ◌∷◌, ◌++◌, length, refl, ap, sym, ◌∙◌, subst, ◌⊎◌, inl, inr, arith}
use Rattle.std.specs.Prelude.{bit_and, bytes_eq, ⊤}
use Rattle.std.specs.Cmp.Lexicographic.{slice_cmp}
use Rattle.std.specs.Int.{bit_at}
use Rattle.std.specs.List.{range_with_len}
use Rattle.std.specs.Ordering.{is_gt, is_le, is_lt, nat_cmp, ordering_then}
use Rattle.std.specs.declared.cmp.Ordering.{Ordering}
use Rattle.std.specs.declared.cmp.Ordering.TheVariants.{Less, Equal, Greater}
use Rattle.std.proofs.lemmas.Bool.{cases_lt, eq-eqb, le-ltb, lt-ltb, ne_eqb}
use Rattle.std.proofs.lemmas.Cmp.{nat_list_cmp_total, upto}
use Rattle.std.proofs.lemmas.List.{length-map}
use Rattle.std.proofs.lemmas.List.Sums.{sum_by-cons, sum_by-le-sum_by}
use Rattle.std.proofs.lemmas.Nat.{and_le_r}
use Rattle.std.proofs.lemmas.Nat.Bits.{bit_at_and, same_from_bits}
use Rattle.std.proofs.lemmas.Slice.Eq.{bytes_eq-Decides}
use Rattle.hist_model.specs.declared.request.Request.{Request}
use Rattle.policy_classes.specs.Order.{Part, comes_before, cost_of, flags_cost, flags_part, is_at_most, number_part, parts, ranks_of, text_part, text_rank}
use Rattle.policy_classes.specs.Standing.{IsBefore, IsUpTo}

-- ---- ranks

nat_less : (x y : ℕ) → x < y → nat_cmp x y ≡ Less
nat_less x y l = rw (lt-ltb x y l) refl

nat_same : (x y : ℕ) → x ≡ y → nat_cmp x y ≡ Equal
nat_same x y e = rw (le-ltb x y (omega arith), eq-eqb x y e) refl

before_append : (xs ys us vs : List ℕ) → IsBefore xs ys → IsBefore (xs ++ us) (ys ++ vs)
before_append [] ys us vs h = absurd h
before_append (x ∷ xs) [] us vs h = absurd h
before_append (x ∷ xs) (y ∷ ys) us vs (inl l) = inl l
before_append (x ∷ xs) (y ∷ ys) us vs (inr (e, h)) = inr (e, before_append xs ys us vs h)

before_behind : (xs us vs : List ℕ) → IsBefore us vs → IsBefore (xs ++ us) (xs ++ vs)
before_behind [] us vs h = h
before_behind (x ∷ xs) us vs h = inr (refl, before_behind xs us vs h)

before_less : (xs ys : List ℕ) → IsBefore xs ys → slice_cmp nat_cmp xs ys ≡ Less
before_less [] ys h = absurd h
before_less (x ∷ xs) [] h = absurd h
before_less (x ∷ xs) (y ∷ ys) (inl l) = rw (nat_less x y l) refl
before_less (x ∷ xs) (y ∷ ys) (inr (e, h)) = rw (nat_same x y e) (before_less xs ys h)

same_equal : (xs : List ℕ) → slice_cmp nat_cmp xs xs ≡ Equal
same_equal [] = refl
same_equal (x ∷ xs) = rw (nat_same x x refl) (same_equal xs)

up_to_is_le : (xs ys : List ℕ) → (xs ≡ ys) ⊎ IsBefore xs ys → is_le (slice_cmp nat_cmp xs ys) ≡ true
up_to_is_le xs ys (inl e) = subst (λ zs. is_le (slice_cmp nat_cmp xs zs) ≡ true) e (rw (same_equal xs) refl)
up_to_is_le xs ys (inr h) = rw (before_less xs ys h) refl

-- ---- parts

pub up_to_itself : (p : Part) → IsUpTo p p
up_to_itself p = (omega arith, inl refl)

pub number_up_to : (n m : ℕ) → n ≤ m → IsUpTo (number_part n) (number_part m)
number_up_to n m l = elim (cases_lt n m) [
  | inl lt ↦ (cost n m l, inr (inl lt))
  | inr ge ↦ let e : n ≡ m = omega arith in subst (λ k. IsUpTo (number_part n) (number_part k)) e (up_to_itself (number_part n))
]
  where
    cost : (n m : ℕ) → n ≤ m → (number_part n).cost ≤ (number_part m).cost
    cost n m l = grind arith

-- each flag of the one is a flag of the other
abbrev pub AreFlagsOf : ℕ → ℕ → Type 0
AreFlagsOf n m = (k : ℕ) → bit_at n k ≤ bit_at m k

flags_le : (n m : ℕ) → AreFlagsOf n m → n ≤ m
flags_le n m h =
    let same : bit_and n m ≡ n = same_from_bits (bit_and n m) n (λ k. let b = bit_at_and n m k in let l = h k in omega arith) in
    let l : bit_and n m ≤ m = and_le_r n m in omega arith

costs_le : (n m : ℕ) → AreFlagsOf n m → flags_cost n ≤ flags_cost m
unfolding flags_cost
costs_le n m h = sum_by-le-sum_by (bit_at n) (bit_at m) (range_with_len 0 64) h

pub flags_up_to : (n m : ℕ) → AreFlagsOf n m → IsUpTo (flags_part n) (flags_part m)
flags_up_to n m h = (costs_le n m h, of_rank (flags_le n m h))
  where
    of_rank : n ≤ m → (n ∷ [] ≡ m ∷ []) ⊎ IsBefore (n ∷ []) (m ∷ [])
    of_rank l = elim (cases_lt n m) [
      | inl lt ↦ inr (inl lt)
      | inr ge ↦ let e : n ≡ m = omega arith in inl (ap (λ k. k ∷ []) e)
    ]

-- ---- texts

-- the first of two texts doesn't come behind the second
abbrev pub IsTextUpTo : List ℕ → List ℕ → Type 0
IsTextUpTo t u = is_gt (slice_cmp nat_cmp (text_rank t) (text_rank u)) ≡ false

pub text_itself : (t : List ℕ) → IsTextUpTo t t
text_itself t = rw (same_equal (text_rank t)) refl

pub shorter_text : (t u : List ℕ) → length t < length u → IsTextUpTo t u
shorter_text t u l = rw (nat_less (length t) (length u) l) refl

pub text_through : (t u v : List ℕ) → IsTextUpTo t u → IsTextUpTo u v → IsTextUpTo t v
text_through t u v g h = upto nat_list_cmp_total (text_rank t) (text_rank u) (text_rank v) g h

pub before_up_to : (t u : List ℕ) → comes_before t u ≡ true → IsTextUpTo t u
before_up_to t u h = by (slice_cmp nat_cmp (text_rank t) (text_rank u)) h
  where
    by : (o : Ordering) → is_lt o ≡ true → is_gt o ≡ false
    by Less h = refl
    by Equal h = cc
    by Greater h = cc

pub not_before_up_to : (t u : List ℕ) → comes_before t u ≡ false → IsTextUpTo u t
not_before_up_to t u h = by (slice_cmp nat_cmp (text_rank u) (text_rank t)) refl
  where
    by : (o : Ordering) → slice_cmp nat_cmp (text_rank u) (text_rank t) ≡ o → is_gt o ≡ false
    by Less e = refl
    by Equal e = refl
    by Greater e =
        let less : slice_cmp nat_cmp (text_rank t) (text_rank u) ≡ Less =
        nat_list_cmp_total.antisymm (text_rank t) (text_rank u) ∙ rw e refl in
        let so : comes_before t u ≡ true = rw less refl in cc

not_behind : (xs ys : List ℕ) → length xs ≡ length ys → is_gt (slice_cmp nat_cmp xs ys) ≡ false → (xs ≡ ys) ⊎ IsBefore xs ys
not_behind [] [] e h = inl refl
not_behind [] (y ∷ ys) e h = absurd (omega arith)
not_behind (x ∷ xs) [] e h = absurd (omega arith)
not_behind (x ∷ xs) (y ∷ ys) e h = by (not_behind xs ys (omega arith))
  where
    greater : y < x → is_gt (slice_cmp nat_cmp (x ∷ xs) (y ∷ ys)) ≡ true
    greater l = rw (le-ltb x y (omega arith), ne_eqb x y (omega arith)) refl

    same : x ≡ y → (is_gt (slice_cmp nat_cmp xs ys) ≡ false → (xs ≡ ys) ⊎ IsBefore xs ys) → (x ∷ xs ≡ y ∷ ys) ⊎ IsBefore (x ∷ xs) (y ∷ ys)
    same s rest = of (rest (sym (ap (λ o. is_gt (ordering_then o (slice_cmp nat_cmp xs ys))) (nat_same x y s)) ∙ h))
      where
        of : (xs ≡ ys) ⊎ IsBefore xs ys → (x ∷ xs ≡ y ∷ ys) ⊎ IsBefore (x ∷ xs) (y ∷ ys)
        of (inl q) = inl (cc)
        of (inr q) = inr (inr (s, q))

    by : (is_gt (slice_cmp nat_cmp xs ys) ≡ false → (xs ≡ ys) ⊎ IsBefore xs ys) → (x ∷ xs ≡ y ∷ ys) ⊎ IsBefore (x ∷ xs) (y ∷ ys)
    by rest = elim (cases_lt x y) [
      | inl lt ↦ inr (inl lt)
      | inr ge ↦ elim (cases_lt y x) [
        | inl lt ↦ let g = greater lt in cc
        | inr le ↦ same (omega arith) rest
      ]
    ]

-- two texts that aren't plain
pub texts_up_to : (plain t u : List ℕ) → bytes_eq t plain ≡ false → bytes_eq u plain ≡ false → IsTextUpTo t u
    → IsUpTo (text_part plain t) (text_part plain u)
texts_up_to plain t u a b h = rw (a, b) (elim (cases_lt (length t) (length u)) [
  | inl lt ↦ (omega arith, inr (inr (refl, inl lt)))
  | inr ge ↦ at_least ge
])
  where
    longer : length u < length t → is_gt (slice_cmp nat_cmp (text_rank t) (text_rank u)) ≡ true
    longer l = rw (le-ltb (length t) (length u) (omega arith), ne_eqb (length t) (length u) (omega arith)) refl

    same : length t ≡ length u → (length t + 1 ≤ length u + 1) × ((1 ∷ text_rank t ≡ 1 ∷ text_rank u) ⊎ IsBefore (1 ∷ text_rank t) (1 ∷ text_rank u))
    same e =
        (omega arith, of (not_behind (text_rank t) (text_rank u) (simp length-map (omega arith)) h))
      where
        of : (text_rank t ≡ text_rank u) ⊎ IsBefore (text_rank t) (text_rank u) → (1 ∷ text_rank t ≡ 1 ∷ text_rank u) ⊎ IsBefore (1 ∷ text_rank t) (1 ∷ text_rank u)
        of (inl q) = inl (ap (λ r. 1 ∷ r) q)
        of (inr q) = inr (inr (refl, q))

    at_least : length u ≤ length t → (length t + 1 ≤ length u + 1) × ((1 ∷ text_rank t ≡ 1 ∷ text_rank u) ⊎ IsBefore (1 ∷ text_rank t) (1 ∷ text_rank u))
    at_least ge = elim (cases_lt (length u) (length t)) [
      | inl lt ↦ let g = longer lt in cc
      | inr le ↦ same (omega arith)
    ]

equals_itself : (t : List ℕ) → bytes_eq t t ≡ true
equals_itself t = grind (arith, bytes_eq-Decides)

-- the plain text comes first
pub plain_up_to : (plain u : List ℕ) → IsUpTo (text_part plain plain) (text_part plain u)
plain_up_to plain u = rw (equals_itself plain) (by (bytes_eq u plain))
  where
    by : (b : Bool) → IsUpTo (record { cost = 0; rank = 0 ∷ [] }) (cond b (record { cost = 0; rank = 0 ∷ [] }) (record { cost = length u + 1; rank = 1 ∷ text_rank u }))
    by true = (omega arith, inl refl)
    by false = (omega arith, inr (inl (omega arith)))

-- ---- calls

abbrev pub AreUpTo : List Part → List Part → Type 0
AreUpTo [] [] = ⊤
AreUpTo (p ∷ ps) (q ∷ qs) = IsUpTo p q × AreUpTo ps qs
AreUpTo _ _ = ⊥

costs_up_to : (ps qs : List Part) → AreUpTo ps qs → cost_of ps ≤ cost_of qs
costs_up_to [] [] h = omega arith
costs_up_to [] (q ∷ qs) h = absurd h
costs_up_to (p ∷ ps) [] h = absurd h
costs_up_to (p ∷ ps) (q ∷ qs) h =
    rw (sum_by-cons (λ (x : Part). x.cost) p ps, sum_by-cons (λ (x : Part). x.cost) q qs) (let l = h.0.0 in let r = costs_up_to ps qs h.1 in omega arith)

ranks_up_to : (ps qs : List Part) → AreUpTo ps qs → (ranks_of ps ≡ ranks_of qs) ⊎ IsBefore (ranks_of ps) (ranks_of qs)
ranks_up_to [] [] h = inl refl
ranks_up_to [] (q ∷ qs) h = absurd h
ranks_up_to (p ∷ ps) [] h = absurd h
ranks_up_to (p ∷ ps) (q ∷ qs) h = by h.0.1 (ranks_up_to ps qs h.1)
  where
    by : (p.rank ≡ q.rank) ⊎ IsBefore p.rank q.rank → (ranks_of ps ≡ ranks_of qs) ⊎ IsBefore (ranks_of ps) (ranks_of qs)
        → (p.rank ++ ranks_of ps ≡ q.rank ++ ranks_of qs) ⊎ IsBefore (p.rank ++ ranks_of ps) (q.rank ++ ranks_of qs)
    by (inr b) r = inr (before_append p.rank q.rank (ranks_of ps) (ranks_of qs) b)
    by (inl e) (inl r) = inl (cc)
    by (inl e) (inr b) = inr (subst (λ x. IsBefore (p.rank ++ ranks_of ps) (x ++ ranks_of qs)) e (before_behind p.rank (ranks_of ps) (ranks_of qs) b))

pub parts_at_most : (p q : Request) → AreUpTo (parts p) (parts q) → is_at_most p q ≡ true
parts_at_most p q h =
    up_to_is_le (cost_of (parts p) ∷ ranks_of (parts p)) (cost_of (parts q) ∷ ranks_of (parts q))
    (by (costs_up_to (parts p) (parts q) h) (ranks_up_to (parts p) (parts q) h))
  where
    c : ℕ
    c = cost_of (parts p)

    d : ℕ
    d = cost_of (parts q)

    same : c ≡ d → (ranks_of (parts p) ≡ ranks_of (parts q)) ⊎ IsBefore (ranks_of (parts p)) (ranks_of (parts q))
        → (c ∷ ranks_of (parts p) ≡ d ∷ ranks_of (parts q)) ⊎ IsBefore (c ∷ ranks_of (parts p)) (d ∷ ranks_of (parts q))
    same e (inl r) = inl (cc)
    same e (inr b) = inr (inr (e, b))

    by : c ≤ d → (ranks_of (parts p) ≡ ranks_of (parts q)) ⊎ IsBefore (ranks_of (parts p)) (ranks_of (parts q))
        → (c ∷ ranks_of (parts p) ≡ d ∷ ranks_of (parts q)) ⊎ IsBefore (c ∷ ranks_of (parts p)) (d ∷ ranks_of (parts q))
    by l r = elim (cases_lt c d) [
      | inl lt ↦ inr (inl lt)
      | inr ge ↦ same (omega arith) r
    ]
