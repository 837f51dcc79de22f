-- Lemmas on the values of digits.
-- By cases on the value of the digits that follow, with the laws of powers and products.
use Rattle.std.proofs.Common.{◌≡◌, ℕ, suc, pow-add, ◌+◌, ◌*◌, ◌^◌, ◌<◌, ◌≤◌, List, [], ◌∷◌, length, drop, get_or, Option, Some, None, refl, sym, ap, subst, inl, inr, if◌then◌else◌, ◌∙◌, arith}
use Rattle.std.specs.Prelude.{IfSome, true, nat_le, pos, ◌&&◌, ◌==◌}
use Rattle.std.proofs.lemmas.Bool.{and_from, cases_Bool, eqb-true, le-leb}
use Rattle.std.specs.Option.{option_map}
use Rattle.std.proofs.lemmas.List.{drop_more}
use Rattle.std.proofs.Math.Nat.{pow-zero, pow-succ', add-mul, mul_assoc, mul-le-mul}
use Rattle.std.proofs.Math.Pow.{pow_mono}
use Rattle.std.proofs.Math.ListN.{drop_of_length-le}
use Rattle.lex_core.specs.Numbers.{digit_value, digits_value, at_place, form_of, number}

-- digits behind others that have this value
unfoldable pub behind : ℕ → ℕ → List ℕ → Option ℕ
behind base value digits = option_map (λ rest. value * base ^ length digits + rest) (digits_value base digits)

pub behind_none : (base : ℕ) (digits : List ℕ) → digits_value base digits ≡ behind base 0 digits
unfolding behind
behind_none base digits = go (digits_value base digits)
  where
    go : (o : Option ℕ) → o ≡ option_map (λ rest. 0 * base ^ length digits + rest) o
    go (Some rest) = ap Some (omega arith)
    go None = refl

behind-end : (base value : ℕ) → behind base value [] ≡ Some value
unfolding behind digits_value
behind-end base value = ap Some (rw (pow-zero base) (omega arith))

regroup : (value base digit n rest : ℕ) → value * base ^ suc n + (digit * base ^ n + rest) ≡ (value * base + digit) * base ^ n + rest
regroup value base digit n rest = rw (pow-succ' base n, add-mul (value * base) digit (base ^ n), mul_assoc value base (base ^ n)) (omega arith)

behind-digit : (base value digit c : ℕ) (cs : List ℕ) → digit_value base c ≡ Some digit → behind base value (c ∷ cs) ≡ behind base (value * base + digit) cs
unfolding behind digits_value
behind-digit base value digit c cs e = rw e (go (digits_value base cs))
  where
    go : (o : Option ℕ) → option_map (λ rest. value * base ^ suc (length cs) + rest) (at_place (base ^ length cs) (Some digit) o) ≡ option_map (λ rest. (value * base + digit) * base ^ length cs + rest) o
    go (Some rest) = ap Some (regroup value base digit (length cs) rest)
    go None = refl

behind-other : (base value c : ℕ) (cs : List ℕ) → digit_value base c ≡ None → behind base value (c ∷ cs) ≡ None
unfolding behind digits_value
behind-other base value c cs e = rw e refl

pub behind_all : (base value i : ℕ) (digits : List ℕ) → length digits ≤ i → behind base value (drop i digits) ≡ Some value
behind_all base value i digits l = ap (behind base value) (drop_of_length-le digits l) ∙ behind-end base value

-- the next digit
pub behind_digit : (base value i d digit : ℕ) (digits : List ℕ) → i < length digits → digit_value base (get_or digits i d) ≡ Some digit
    → behind base value (drop i digits) ≡ behind base (value * base + digit) (drop (i + 1) digits)
behind_digit base value i d digit digits l e = ap (behind base value) (drop_more digits i d l) ∙ behind-digit base value digit _ _ e

pub behind_other : (base value i d : ℕ) (digits : List ℕ) → i < length digits → digit_value base (get_or digits i d) ≡ None → behind base value (drop i digits) ≡ None
behind_other base value i d digits l e = ap (behind base value) (drop_more digits i d l) ∙ behind-other base value _ _ e

-- four bits a digit are enough
pub digit_fits : (value base digit i : ℕ) → value < 2 ^ (4 * i) → digit < base → base ≤ 16 → value * base + digit < 2 ^ (4 * (i + 1))
digit_fits value base digit i v d b =
    let e : 4 * (i + 1) ≡ 4 * i + 4 = omega arith in
    let above : value + 1 ≤ 2 ^ (4 * i) = omega arith in
    let m : (value + 1) * base ≤ 2 ^ (4 * i) * 16 = mul-le-mul above b in
    let r : (value + 1) * base ≡ value * base + 1 * base = add-mul value 1 base in
    rw (e, pow-add 2 (4 * i) 4) (omega arith)

pub value_fits : (value i most : ℕ) → value < 2 ^ (4 * i) → i ≤ most → value < 2 ^ (4 * most)
value_fits value i most v l =
    let k : 4 * i ≤ 4 * most = omega arith in
    let m : 2 ^ (4 * i) ≤ 2 ^ (4 * most) = pow_mono k in
    omega arith

-- ---- numbers of few digits

signed : (b n : ℕ) (bs : List ℕ) → b ≡ 45 → digits_value (form_of (b ∷ bs)).base (form_of (b ∷ bs)).digits ≡ Some n → ⊥
unfolding digits_value
signed b n bs e q = go bs (subst (λ c. digits_value (form_of (c ∷ bs)).base (form_of (c ∷ bs)).digits ≡ Some n) e q)
  where
    go : (bs : List ℕ) → digits_value (form_of (45 ∷ bs)).base (form_of (45 ∷ bs)).digits ≡ Some n → ⊥
    go [] q = cc
    go (c ∷ cs) q = cc

short-is : (bare : List ℕ) (n : ℕ) → digits_value (form_of bare).base (form_of bare).digits ≡ Some n → 1 ≤ length (form_of bare).digits
    → length (form_of bare).digits ≤ (form_of bare).most → number bare ≡ Some (pos n)
short-is [] n q l m = absurd (omega arith)
short-is (b ∷ bs) n q l m = elim (cases_Bool (b == 45)) [
  | inl h ↦ absurd (signed b n bs (eqb-true b 45 h) q)
  | inr h ↦
      let f = form_of (b ∷ bs) in
      let counted : (nat_le 1 (length f.digits) && nat_le (length f.digits) f.most) ≡ true = and_from _ _ (le-leb 1 (length f.digits) l) (le-leb (length f.digits) f.most m) in
      rw h (ap (option_map pos) (ap (λ t. if t then digits_value f.base f.digits else None) counted ∙ q))
]

-- the value of digits that are no more than there may be is the number's
pub short_number_is : (bare : List ℕ) (value : Option ℕ) → value ≡ digits_value (form_of bare).base (form_of bare).digits → 1 ≤ length (form_of bare).digits
    → length (form_of bare).digits ≤ (form_of bare).most → IfSome value (λ n. number bare ≡ Some (pos n))
short_number_is bare None q l m = tt
short_number_is bare (Some n) q l m = short-is bare n (sym q) l m
