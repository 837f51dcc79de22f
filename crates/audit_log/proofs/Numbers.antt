-- How many digits a number has, where they stand once they are written into a room, and the digits of the next number.
-- By `decimal_step`, which takes away the last digit, for one digit after another, and by the laws of what is taken of lists.
use Rattle.std.proofs.Common.{◌≡◌, ℕ, zero, suc, ◌+◌, ◌/◌, ◌%◌, ◌^◌, ◌<◌, ◌≤◌, List, [], ◌∷◌, ◌++◌, get_or, length, set, take, drop, refl, ap, sym, subst, ◌∙◌, arith, length-append, inl, inr}
use Rattle.std.specs.Prelude.{decimal}
use Rattle.std.proofs.Math.Seq.{take-add}
use Rattle.std.proofs.lemmas.Bool.{cases_lt}
use Rattle.std.proofs.lemmas.List.{take_at, take_more, take_more_set}
use Rattle.std.proofs.lemmas.Fmt.{decimal_by_steps, decimal_digit, decimal_step}

one_more : (n k : ℕ) → 10 ≤ n → n < 2 ^ 64 → length (decimal (n / 10)) ≡ k → length (decimal n) ≡ k + 1
one_more n k low fits is = ap length (decimal_step n low fits) ∙ length-append (decimal (n / 10)) ((48 + n % 10) ∷ []) ∙ ap (λ m. m + 1) is

one : (n : ℕ) → n < 10 → length (decimal n) ≡ 1
one n high = ap length (decimal_digit n high)

pub two : (n : ℕ) → 10 ≤ n → n < 100 → length (decimal n) ≡ 2
two n low high = one_more n 1 low (omega arith) (one (n / 10) (omega arith))

pub three : (n : ℕ) → 100 ≤ n → n < 1000 → length (decimal n) ≡ 3
three n low high = one_more n 2 (omega arith) (omega arith) (two (n / 10) (omega arith) (omega arith))

pub four : (n : ℕ) → 1000 ≤ n → n < 10000 → length (decimal n) ≡ 4
four n low high = one_more n 3 (omega arith) (omega arith) (three (n / 10) (omega arith) (omega arith))

pub five : (n : ℕ) → 10000 ≤ n → n < 100000 → length (decimal n) ≡ 5
five n low high = one_more n 4 (omega arith) (omega arith) (four (n / 10) (omega arith) (omega arith))

pub six : (n : ℕ) → 100000 ≤ n → n < 1000000 → length (decimal n) ≡ 6
six n low high = one_more n 5 (omega arith) (omega arith) (five (n / 10) (omega arith) (omega arith))

pub seven : (n : ℕ) → 1000000 ≤ n → n < 10000000 → length (decimal n) ≡ 7
seven n low high = one_more n 6 (omega arith) (omega arith) (six (n / 10) (omega arith) (omega arith))

pub eight : (n : ℕ) → 10000000 ≤ n → n < 100000000 → length (decimal n) ≡ 8
eight n low high = one_more n 7 (omega arith) (omega arith) (seven (n / 10) (omega arith) (omega arith))

-- digits that were written up to an end stand behind what was before them
pub digits_placed : (old new text : List ℕ) (len start end : ℕ) → end ≡ len + length text → start + length text ≡ end → drop start new ≡ text ++ drop end old → take start new ≡ take start old
    → take end new ≡ take len old ++ text
digits_placed old new text len start end sum starts written before =
    let same : start ≡ len = omega arith in
    let front : take len new ≡ take len old = subst (λ n. take n new ≡ take n old) same before in
    let behind : drop len new ≡ text ++ drop end old = subst (λ n. drop n new ≡ text ++ drop end old) same written in
    ap (λ n. take n new) sum
    ∙ take-add len (length text) new
    ∙ ap (λ xs. xs ++ take (length text) (drop len new)) front
    ∙ ap (λ xs. take len old ++ xs) (ap (take (length text)) behind ∙ take_at text (drop end old) (length text) refl)

-- ---- The next number

-- a number has a digit
some-digit : (n : ℕ) → n < 2 ^ 64 → 1 ≤ length (decimal n)
some-digit n fits = decimal_by_steps (λ m ds. 1 ≤ length ds) (λ m low. omega arith) (λ m ds low h. omega (arith, length-append ds ((48 + m % 10) ∷ []))) n fits

-- so the room that begins with its digits does too
pub some_digits : (n count : ℕ) (text : List ℕ) → n < 2 ^ 64 → take count text ≡ decimal n → 1 ≤ count
some_digits n zero text fits is = let h = some-digit n fits in let e = ap length is in omega arith
some_digits n (suc count) text fits is = omega arith

-- lists with one more element are equal where both parts are
same-ends : (xs ys : List ℕ) (a b : ℕ) → xs ++ a ∷ [] ≡ ys ++ b ∷ [] → (xs ≡ ys) × (a ≡ b)
same-ends [] [] a b h = (refl, cc)
same-ends [] (y ∷ ys) a b h = let e = ap length h in absurd (omega (arith, length-append ys (b ∷ [])))
same-ends (x ∷ xs) [] a b h = let e = ap length h in absurd (omega (arith, length-append xs (a ∷ [])))
same-ends (x ∷ xs) (y ∷ ys) a b h =
    let first : x ≡ y = cc in
    let rest : xs ++ a ∷ [] ≡ ys ++ b ∷ [] = cc in
    let (same, last) = same-ends xs ys a b rest in
    (rw (first, same) refl, last)

-- where the last digit isn't a nine, it alone is another
next-digit : (n d : ℕ) (front : List ℕ) → n + 1 < 2 ^ 64 → decimal n ≡ front ++ d ∷ [] → d < 57 → decimal (n + 1) ≡ front ++ (d + 1) ∷ []
next-digit n d front fits is less = elim (cases_lt n 10) [
  | inl low ↦
      let (none, last) = same-ends front [] d (48 + n) (sym is ∙ decimal_digit n low) in
      let digit : 48 + (n + 1) ≡ d + 1 = omega arith in
      rw (none, ← digit) (decimal_digit (n + 1) (omega arith))
  | inr high ↦
      let (tens, last) = same-ends front (decimal (n / 10)) d (48 + n % 10) (sym is ∙ decimal_step n high (omega arith)) in
      let same : (n + 1) / 10 ≡ n / 10 = omega arith in
      let digit : 48 + (n + 1) % 10 ≡ d + 1 = omega arith in
      rw (tens, ← digit, ← same) (decimal_step (n + 1) (omega arith) (omega arith))
]

pub counted_on : (n last : ℕ) (text : List ℕ) → n + 1 < 2 ^ 64 → last < length text → take (last + 1) text ≡ decimal n → get_or text last 0 < 57
    → take (last + 1) (set text last (get_or text last 0 + 1)) ≡ decimal (n + 1)
counted_on n last text fits within is less =
    take_more_set text last (get_or text last 0 + 1) within
    ∙ sym (next-digit n (get_or text last 0) (take last text) fits (sym is ∙ take_more text last 0 within) less)
