-- Which addresses are mapped.
-- By induction on the ranges of the map, and on the number of addresses.
use Rattle.std.proofs.Common.{◌≡◌, inl, inr, ℕ, zero, suc, ◌+◌, ◌-◌, ◌*◌, ◌<◌, ◌≤◌, ◌^◌, true, false, ◌&&◌, ◌||◌, List, [], ◌∷◌, length, get_or, leb, ltb, ltb-true, refl, sym, ap, ◌∙◌, arith, add-zero}
use Rattle.std.specs.Prelude.{not}
use Rattle.std.proofs.lemmas.Bool.{cases_lt, both_ways, or_cases, or_left, or_right, and_parts, false_from_ne_true, lt-ltb, le-ltb}
use Rattle.hist_model.specs.Memory.{is_mapped, all_mapped}
use Rattle.hist_model.specs.declared.script.MapRange.{MapRange}
use Rattle.task_groups.specs.Ranges.{AllEndLow, IsMappedFor}
use Rattle.task_groups.specs.Pages.{bytes_from}
use Rattle.task_groups.specs.State.{mapped_from}

-- what one of the ranges has is mapped
pub mapped-in : (map : List MapRange) (k a : ℕ) (d : MapRange) → k < length map → is_mapped (get_or map k d ∷ []) a ≡ true → is_mapped map a ≡ true
mapped-in [] k a d l h = absurd (omega arith)
mapped-in (r ∷ map) zero a d l h =
    let b = leb r.start a && ltb a (r.start + 4096 * r.pages) in
    elim (or_cases b false h) [ inl q ↦ or_left b (is_mapped map a) q | inr q ↦ absurd (cc) ]
mapped-in (r ∷ map) (suc k) a d l h = or_right (leb r.start a && ltb a (r.start + 4096 * r.pages)) (is_mapped map a) (mapped-in map k a d (omega arith) h)

-- what none of them has isn't
pub mapped-none : (map : List MapRange) (a : ℕ) → ((k : ℕ) (d : MapRange) → k < length map → is_mapped (get_or map k d ∷ []) a ≡ false) → is_mapped map a ≡ false
mapped-none [] a h = refl
mapped-none (r ∷ map) a h =
    let b = leb r.start a && ltb a (r.start + 4096 * r.pages) in
    let rest = mapped-none map a (λ k d l. h (suc k) d (omega arith)) in
    false_from_ne_true (b || is_mapped map a) (λ q. elim (or_cases b (is_mapped map a) q) [
      | inl t ↦ both_ways (b || false) (h 0 r (omega arith)) (or_left b false t)
      | inr t ↦ both_ways (is_mapped map a) rest t
    ])

-- no mapped address is above 2^47
pub mapped-low : (map : List MapRange) (a : ℕ) → AllEndLow map → is_mapped map a ≡ true → a < 2 ^ 47
mapped-low [] a low h = absurd (cc)
mapped-low (r ∷ map) a low h =
    let b = leb r.start a && ltb a (r.start + 4096 * r.pages) in
    elim (or_cases b (is_mapped map a) h) [
      | inl q ↦ let p = and_parts (leb r.start a) (ltb a (r.start + 4096 * r.pages)) q in
          omega (arith, ltb-true a (r.start + 4096 * r.pages) p.1, low 0 r (omega arith))
      | inr q ↦ mapped-low map a (λ k d l. low (suc k) d (omega arith)) q
    ]

-- an address from 2^64 on isn't mapped
pub unmapped-high : (map : List MapRange) (a : ℕ) → AllEndLow map → 2 ^ 64 ≤ a → is_mapped map a ≡ false
unmapped-high map a low l = false_from_ne_true (is_mapped map a) (λ q. omega (arith, mapped-low map a low q))

pub mapped-tail : (map : List MapRange) (a n k : ℕ) → IsMappedFor map a (suc n) (suc k) → IsMappedFor map (a + 1) n k
mapped-tail map a n k p = record {
  most = omega (arith, p.most);
  mapped = λ i l. let q : a + suc i ≡ a + 1 + i = omega arith in rw q at (p.mapped (suc i) (omega arith));
  ends = λ l. let q : a + suc k ≡ a + 1 + k = omega arith in rw q at (p.ends (omega arith));
}

pub mapped-first : (map : List MapRange) (a n k : ℕ) → IsMappedFor map a n (suc k) → is_mapped map a ≡ true
mapped-first map a n k p = rw add-zero at (p.mapped 0 (omega arith))

pub unmapped-first : (map : List MapRange) (a n : ℕ) → IsMappedFor map a (suc n) 0 → is_mapped map a ≡ false
unmapped-first map a n p = rw add-zero at (p.ends (omega arith))

-- so many more are
pub mapped-more : (map : List MapRange) (a k m : ℕ) → ((i : ℕ) → i < k → is_mapped map (a + i) ≡ true) → ((i : ℕ) → i < m → is_mapped map (a + k + i) ≡ true) → (i : ℕ) → i < k + m → is_mapped map (a + i) ≡ true
mapped-more map a k m h b i l =
    elim (cases_lt i k) [
      | inl q ↦ h i q
      | inr q ↦ let s : a + k + (i - k) ≡ a + i = omega arith in rw s at (b (i - k) (omega arith))
    ]

below-suc : (k n : ℕ) → ltb (suc k) (suc n) ≡ ltb k n
below-suc k n = elim (cases_lt k n) [
  | inl l ↦ lt-ltb (suc k) (suc n) (omega arith) ∙ sym (lt-ltb k n l)
  | inr l ↦ le-ltb (suc k) (suc n) (omega arith) ∙ sym (le-ltb k n l)
]

-- all are mapped exactly where so many are
pub all-mapped : (map : List MapRange) (a n k : ℕ) → IsMappedFor map a n k → all_mapped map a n ≡ not (ltb k n)
all-mapped map a zero k p = let q : k ≡ 0 = omega (arith, p.most) in rw q
all-mapped map a (suc n) zero p = ap (λ b. b && all_mapped map (a + 1) n) (unmapped-first map a n p) ∙ ap not (sym (lt-ltb 0 (suc n) (omega arith)))
all-mapped map a (suc n) (suc k) p = ap (λ b. b && all_mapped map (a + 1) n) (mapped-first map a (suc n) k p) ∙ all-mapped map (a + 1) n k (mapped-tail map a n k p) ∙ ap not (sym (below-suc k n))

-- the bytes of a read are those at the mapped addresses
pub bytes-mapped : (map : List MapRange) (c : ℕ → ℕ) (a n k : ℕ) (f : ℕ → ℕ) → IsMappedFor map a n k → ((b : ℕ) → is_mapped map b ≡ true → f b ≡ c b) → bytes_from f a k ≡ mapped_from map c a n
unfolding bytes_from mapped_from
bytes-mapped map c a zero zero f p h = refl
bytes-mapped map c a zero (suc k) f p h = absurd (omega (arith, p.most))
bytes-mapped map c a (suc n) zero f p h = rw (unmapped-first map a n p)
bytes-mapped map c a (suc n) (suc k) f p h =
    let m = mapped-first map a (suc n) k p in
    rw (m, h a m, bytes-mapped map c (a + 1) n k f (mapped-tail map a n k p) h)
