-- Ranges that are apart count each mapped address once, so as many bytes as there are lie in them only where each is mapped.
-- By induction on the number of bytes, of which the first is split off in each range; and on the ranges.
use Rattle.std.proofs.Common.{◌≡◌, ℕ, zero, suc, ◌+◌, ◌-◌, ◌<◌, ◌≤◌, min, max, List, [], ◌∷◌, length, refl, ap, sym, ◌∙◌, inl, inr, arith, cond, Bool, true, false, ◌&&◌, ◌==◌, nat_le, nat_lt}
use Rattle.std.specs.List.{count_by, list_all}
use Rattle.std.proofs.lemmas.Bool.{and_from, and_parts, cases_Bool, false_from_ne_true, leb-true, ltb-true, ne_eqb, or_cases, or_from}
use Rattle.std.proofs.lemmas.Bool.Decides.{nat_tests}
use Rattle.std.proofs.lemmas.List.Sums.{sum_by-cons}
use Rattle.hist_model.specs.Memory.{all_mapped, is_mapped}
use Rattle.hist_model.specs.Ranges.{are_all_apart, are_apart, bytes_mapped, bytes_within, end_of, is_apart}
use Rattle.hist_model.specs.Records.{ScriptRecord}
use Rattle.hist_model.specs.ScriptRules.{IsScript, stores_mapped}
use Rattle.hist_model.specs.declared.script.Instr.{Instr}
use Rattle.hist_model.specs.declared.script.Instr.TheVariants.{Poke, Fill}
use Rattle.hist_model.specs.declared.script.MapRange.{MapRange}
use Rattle.model_kernel.specs.Mapped.{MapsByteByByte, StoresWhereMapped, stores_each_mapped}

-- the address lies in the range
covers : ℕ → MapRange → Bool
covers a range = nat_le range.start a && nat_lt a (end_of range)

-- ---- the first byte

one-less : (a n start end : ℕ) → min (a + suc n) end - max a start ≡ cond (nat_le start a && nat_lt a end) 1 0 + (min (a + 1 + n) end - max (a + 1) start)
one-less a n start end = grind (arith, nat_tests)

first-byte : (map : List MapRange) (a n : ℕ) → bytes_mapped map a (a + suc n) ≡ count_by (covers a) map + bytes_mapped map (a + 1) (a + 1 + n)
unfolding covers
first-byte [] a n = refl
first-byte (range ∷ map) a n =
    let all : bytes_mapped (range ∷ map) a (a + suc n) ≡ bytes_within a (a + suc n) range + bytes_mapped map a (a + suc n) = sum_by-cons _ range map in
    let firsts : count_by (covers a) (range ∷ map) ≡ cond (covers a range) 1 0 + count_by (covers a) map = sum_by-cons _ range map in
    let others : bytes_mapped (range ∷ map) (a + 1) (a + 1 + n) ≡ bytes_within (a + 1) (a + 1 + n) range + bytes_mapped map (a + 1) (a + 1 + n) = sum_by-cons _ range map in
    let here : bytes_within a (a + suc n) range ≡ cond (covers a range) 1 0 + bytes_within (a + 1) (a + 1 + n) range = one-less a n range.start (end_of range) in
    omega (arith, first-byte map a n)

no-bytes : (map : List MapRange) (a : ℕ) → bytes_mapped map a (a + 0) ≡ 0
no-bytes [] a = refl
no-bytes (range ∷ map) a =
    let all : bytes_mapped (range ∷ map) a (a + 0) ≡ bytes_within a (a + 0) range + bytes_mapped map a (a + 0) = sum_by-cons _ range map in
    omega (arith, no-bytes map a)

-- ---- an address lies in one range at most

elsewhere : (range other : MapRange) (a : ℕ) → are_apart range other ≡ true → covers a range ≡ true → covers a other ≡ false
unfolding covers
elsewhere range other a h c = false_from_ne_true _ (λ d.
    let here = and_parts (nat_le range.start a) (nat_lt a (end_of range)) c in
    let there = and_parts (nat_le other.start a) (nat_lt a (end_of other)) d in
    let from : range.start ≤ a = leb-true range.start a here.0 in
    let to : a < end_of range = ltb-true a (end_of range) here.1 in
    let start : other.start ≤ a = leb-true other.start a there.0 in
    let end : a < end_of other = ltb-true a (end_of other) there.1 in
    elim (or_cases (nat_le (end_of range) other.start) (nat_le (end_of other) range.start) h) [
      | inl before ↦ omega (arith, leb-true (end_of range) other.start before)
      | inr behind ↦ omega (arith, leb-true (end_of other) range.start behind)
    ])

none-else : (map : List MapRange) (range : MapRange) (a : ℕ) → is_apart map range ≡ true → covers a range ≡ true → is_mapped map a ≡ false
unfolding covers
none-else [] range a h c = refl
none-else (other ∷ map) range a h c =
    let parts = and_parts (are_apart range other) (is_apart map range) h in
    or_from (covers a other) (is_mapped map a) (elsewhere range other a parts.0 c) (none-else map range a parts.1 c)

counted-once : (map : List MapRange) (a : ℕ) → are_all_apart map ≡ true → count_by (covers a) map ≡ cond (is_mapped map a) 1 0
unfolding covers
counted-once [] a h = refl
counted-once (range ∷ map) a h =
    let parts = and_parts (is_apart map range) (are_all_apart map) h in
    let all : count_by (covers a) (range ∷ map) ≡ cond (covers a range) 1 0 + count_by (covers a) map = sum_by-cons _ range map in
    let others : count_by (covers a) map ≡ cond (is_mapped map a) 1 0 = counted-once map a parts.1 in
    elim (cases_Bool (covers a range)) [
      | inl here ↦ all ∙ rw (others, none-else map range a parts.0 here, here) refl
      | inr not_here ↦ all ∙ rw (others, not_here) (omega arith)
    ]

-- ---- byte by byte

same-successor : (m n : ℕ) → (1 + m == suc n) ≡ (m == n)
same-successor m n = grind arith

counts : (map : List MapRange) (a n : ℕ) (here : Bool) (rest : ℕ) (whole : ℕ) → whole ≡ cond here 1 0 + rest → rest ≤ n → (rest == n) ≡ all_mapped map (a + 1) n → is_mapped map a ≡ here
    → (whole ≤ suc n) × ((whole == suc n) ≡ all_mapped map a (suc n))
counts map a n true rest whole e l same m = (omega arith, rw m (ap (λ k. k == suc n) e ∙ (same-successor rest n ∙ same)))
counts map a n false rest whole e l same m = (omega arith, rw m (ne_eqb whole (suc n) (λ f. absurd (omega arith))))

byte-by-byte : (map : List MapRange) → are_all_apart map ≡ true → (n a : ℕ) → (bytes_mapped map a (a + n) ≤ n) × ((bytes_mapped map a (a + n) == n) ≡ all_mapped map a n)
byte-by-byte map h zero a = let none : bytes_mapped map a (a + 0) ≡ 0 = no-bytes map a in (omega arith, ap (λ k. k == 0) none)
byte-by-byte map h (suc n) a =
    let rest = byte-by-byte map h n (a + 1) in
    counts map a n (is_mapped map a) (bytes_mapped map (a + 1) (a + 1 + n)) (bytes_mapped map a (a + suc n))
    (first-byte map a n ∙ ap (λ k. k + bytes_mapped map (a + 1) (a + 1 + n)) (counted-once map a h)) rest.0 rest.1 refl

pub maps_byte_by_byte : (S : ScriptRecord) → IsScript S → MapsByteByByte S
maps_byte_by_byte S s a n = (byte-by-byte S.map s.apart n a).1

each-mapped : (map : List MapRange) → are_all_apart map ≡ true → (i : Instr) → stores_mapped map i ≡ true → stores_each_mapped map i ≡ true
each-mapped map apart (Poke addr bytes) h = sym (byte-by-byte map apart (length bytes) addr).1 ∙ h
each-mapped map apart (Fill addr len byte) h = sym (byte-by-byte map apart len addr).1 ∙ h
each-mapped map apart i h = refl

-- what each element of a list has, it has by a weaker test
all-weaker : {X : Type 0} (p q : X → Bool) → ((x : X) → p x ≡ true → q x ≡ true) → (xs : List X) → list_all p xs ≡ true → list_all q xs ≡ true
all-weaker p q w [] h = refl
all-weaker p q w (x ∷ xs) h = let both = and_parts (p x) (list_all p xs) h in and_from (q x) (list_all q xs) (w x both.0) (all-weaker p q w xs both.1)

pub stores_where_mapped : (S : ScriptRecord) → IsScript S → StoresWhereMapped S
stores_where_mapped S s = all-weaker (list_all (stores_mapped S.map)) (list_all (stores_each_mapped S.map)) (all-weaker (stores_mapped S.map) (stores_each_mapped S.map) (each-mapped S.map s.apart)) S.programs s.mapped
