-- Decimal digits, read from the left: what is read of the digits from a place on, by the next one and those after it.
-- By the lemmas on `drop`, and by arithmetic with powers of ten.
use Rattle.std.proofs.Common.{◌≡◌, ℕ, ◌+◌, ◌-◌, ◌*◌, ◌^◌, ◌<◌, ◌≤◌, true, ◌&&◌, List, [], length, drop, get_or, refl, sym, add-one, drop-cons, arith, lit<, None, Some}
use Rattle.std.specs.Prelude.{if◌then◌else◌, nat_le}
use Rattle.std.proofs.lemmas.Bool.{and_parts, leb-true}
use Rattle.std.proofs.lemmas.List.{drop_all}
use Rattle.std.proofs.Math.Nat.{pow-le-pow_right, pow-suc}
use Rattle.std.specs.List.{list_all}
use Rattle.hist_model.specs.Words.{is_digit, number_after}

-- the digits from a place on are that one and those after it
pub digits_step : (word : List ℕ) (i d : ℕ) → i < length word → list_all is_digit (drop i word) ≡ (is_digit (get_or word i d) && list_all is_digit (drop (i + 1) word))
digits_step word i d h = rw (add-one, drop-cons word i d) refl

-- and so is their number
pub number_step : (word : List ℕ) (i d n : ℕ) → i < length word → number_after n (drop i word) ≡ number_after (10 * n + (get_or word i d - 48)) (drop (i + 1) word)
unfolding number_after
number_step word i d n h = rw (add-one, drop-cons word i d) refl

-- one more digit
pub power_step : (i n k : ℕ) → n < 10 ^ i → k ≤ 9 → 10 * n + k < 10 ^ (i + 1)
power_step i n k h l = rw (add-one, pow-suc 10 i) (omega arith)

-- a number of fewer than 20 digits
pub power_below : (i n : ℕ) → n < 10 ^ i → i < 20 → n < 10 ^ 19
power_below i n h l = let p : 10 ^ i ≤ 10 ^ 19 = pow-le-pow_right {n = 10} (lit< tt) {i = i} {j = 19} (omega arith) in omega arith

pub digit_small : (b : ℕ) → is_digit b ≡ true → b - 48 ≤ 9
digit_small b h = let p = and_parts (nat_le 48 b) (nat_le b 57) h in let q : b ≤ 57 = leb-true b 57 p.1 in omega arith

-- at the end no digit is left
pub ended : (word : List ℕ) (i n : ℕ) → length word ≤ i → list_all is_digit (drop i word) ≡ list_all is_digit word → number_after n (drop i word) ≡ number_after 0 word
    → Some n ≡ (if list_all is_digit word then Some (number_after 0 word) else None)
unfolding number_after
ended word i n h d s =
    let e : drop i word ≡ [] = drop_all i word h in
    let t : list_all is_digit word ≡ true = sym (rw e at d) in
    let m : n ≡ number_after 0 word = rw e at s in
    rw (t, m) refl
