-- What more digits, and fewer, make of the number that they are.
-- By induction on the digits, and by arithmetic with powers of ten.
use Rattle.std.proofs.Common.{◌≡◌, ℕ, zero, suc, ◌+◌, ◌-◌, ◌*◌, ◌/◌, ◌%◌, ◌^◌, ◌<◌, ◌≤◌, List, [], ◌∷◌, ◌++◌, length, take, get_or, refl, sym, ap, ◌∙◌, add-mul, length-append, mul-add, mul-le-mul_right, mul_assoc, mul_left_comm, arith}
use Rattle.std.proofs.Math.Nat.{div-add-mod, pow-succ'}
use Rattle.long_count.specs.Digits.{AreDigits, IsTrimmed, value}

-- ---- Digits

pub digits-more : (ds : List ℕ) (d : ℕ) → AreDigits ds → d < 10 → AreDigits (ds ++ d ∷ [])
digits-more [] d a h = (h, tt)
digits-more (x ∷ ds) d a h = (a.0, digits-more ds d a.1 h)

pub digit-below : (ds : List ℕ) (i : ℕ) → AreDigits ds → get_or ds i 0 < 10
digit-below [] i a = omega arith
digit-below (x ∷ ds) zero a = a.0
digit-below (x ∷ ds) (suc i) a = digit-below ds i a.1

pub digits-fewer : (ds : List ℕ) (n : ℕ) → AreDigits ds → AreDigits (take n ds)
digits-fewer ds zero a = tt
digits-fewer [] (suc n) a = tt
digits-fewer (x ∷ ds) (suc n) a = (a.0, digits-fewer ds n a.1)

-- ---- Their number

-- one more digit above the others
pub value-more : (ds : List ℕ) (d : ℕ) → value (ds ++ d ∷ []) ≡ value ds + 10 ^ length ds * d
value-more [] d = omega arith
value-more (x ∷ ds) d =
    let p : 10 ^ suc (length ds) ≡ 10 * 10 ^ length ds = pow-succ' 10 (length ds) in
    let q : 10 * 10 ^ length ds * d ≡ 10 * (10 ^ length ds * d) = mul_assoc 10 (10 ^ length ds) d in
    rw (value-more ds d, p, q) (omega arith)

-- the digit at a place stands above those before it
pub value-at : (ds : List ℕ) (i : ℕ) → value (take (suc i) ds) ≡ value (take i ds) + 10 ^ i * get_or ds i 0
value-at [] zero = refl
value-at [] (suc i) = omega arith
value-at (x ∷ ds) zero = omega arith
value-at (x ∷ ds) (suc i) =
    let p : 10 ^ suc i ≡ 10 * 10 ^ i = pow-succ' 10 i in
    let q : 10 * 10 ^ i * get_or ds i 0 ≡ 10 * (10 ^ i * get_or ds i 0) = mul_assoc 10 (10 ^ i) (get_or ds i 0) in
    rw (value-at ds i, p, q) (omega arith)

-- ---- Without the zeros above them

pub value-trimmed : (ds : List ℕ) (i : ℕ) → get_or ds i 0 ≡ 0 → value (take i ds) ≡ value (take (suc i) ds)
value-trimmed ds i h = rw (value-at ds i, h) (omega arith)

pub trimmed-at : (ds : List ℕ) (i : ℕ) → i < length ds → 0 < get_or ds i 0 → IsTrimmed (take (suc i) ds)
trimmed-at [] i l h = absurd (omega arith)
trimmed-at (x ∷ ds) zero l h = h
trimmed-at (x ∷ []) (suc i) l h = absurd (omega arith)
trimmed-at (x ∷ y ∷ ds) (suc i) l h = trimmed-at (y ∷ ds) i (omega arith) h

-- ---- One more digit of a sum

-- a number by its lowest digit and those above it, some places up
split : (x n : ℕ) → x * n ≡ 10 * (x * (n / 10)) + x * (n % 10)
split x n =
    ap (λ (m : ℕ). x * m) (sym (div-add-mod n 10))
    ∙ (mul-add x (10 * (n / 10)) (n % 10) ∙ ap (λ (y : ℕ). y + x * (n % 10)) (mul_left_comm x 10 (n / 10)))

-- what is left of a number is as many places higher as there are digits
raised : (i n : ℕ) → 10 ^ suc i * n ≡ 10 * (10 ^ i * n)
raised i n = ap (λ (y : ℕ). y * n) (pow-succ' 10 i) ∙ mul_assoc 10 (10 ^ i) n

-- the lowest digit of what is left is pushed
pub pushed : (old new : List ℕ) (rest total : ℕ) → new ≡ old ++ (rest % 10) ∷ [] → value old + 10 ^ length old * rest ≡ total → value new + 10 ^ length new * (rest / 10) ≡ total
pushed old new rest total q v =
    let l : length new ≡ suc (length old) = omega (arith, ap (λ (ds : List ℕ). length ds) q, length-append old ((rest % 10) ∷ [])) in
    let a : value new ≡ value old + 10 ^ length old * (rest % 10) = ap value q ∙ value-more old (rest % 10) in
    let b : 10 ^ length new * (rest / 10) ≡ 10 * (10 ^ length old * (rest / 10)) = ap (λ (k : ℕ). 10 ^ k * (rest / 10)) l ∙ raised (length old) (rest / 10) in
    let c = split (10 ^ length old) rest in
    omega (arith, a, b, c, v)

-- a digit times a number
pub times-below : (d times : ℕ) → d < 10 → d * times ≤ 9 * times
times-below d times l = mul-le-mul_right times (omega arith)

-- the sum of one number and so many times another, up to a place, and what is carried
pub summed : (one other sum new : List ℕ) (i carry times total : ℕ) → length sum ≡ i → total ≡ carry + get_or one i 0 + get_or other i 0 * times → new ≡ sum ++ (total % 10) ∷ []
    → value sum + 10 ^ i * carry ≡ value (take i one) + value (take i other) * times
    → value new + 10 ^ suc i * (total / 10) ≡ value (take (suc i) one) + value (take (suc i) other) * times
summed one other sum new i carry times total len is q v =
    let a = get_or one i 0 in
    let b = get_or other i 0 in
    let n1 : value new ≡ value sum + 10 ^ i * (total % 10) = ap value q ∙ (value-more sum (total % 10) ∙ ap (λ (k : ℕ). value sum + 10 ^ k * (total % 10)) len) in
    let n2 : 10 ^ suc i * (total / 10) ≡ 10 * (10 ^ i * (total / 10)) = raised i (total / 10) in
    let n3 : 10 ^ i * total ≡ 10 * (10 ^ i * (total / 10)) + 10 ^ i * (total % 10) = split (10 ^ i) total in
    let n4 : 10 ^ i * total ≡ 10 ^ i * carry + 10 ^ i * a + 10 ^ i * (b * times) =
    ap (λ (t : ℕ). 10 ^ i * t) is ∙ (mul-add (10 ^ i) (carry + a) (b * times) ∙ ap (λ (y : ℕ). y + 10 ^ i * (b * times)) (mul-add (10 ^ i) carry a)) in
    let n5 : value (take (suc i) one) ≡ value (take i one) + 10 ^ i * a = value-at one i in
    let n6 : value (take (suc i) other) * times ≡ value (take i other) * times + 10 ^ i * (b * times) =
    ap (λ (y : ℕ). y * times) (value-at other i) ∙ (add-mul (value (take i other)) (10 ^ i * b) times
    ∙ ap (λ (y : ℕ). value (take i other) * times + y) (mul_assoc (10 ^ i) b times)) in
    omega (arith, n1, n2, n3, n4, n5, n6, v)

-- ---- As loops have them

pub zeros_left : (ds : List ℕ) (n : ℕ) → 0 < n → get_or ds (n - 1) 0 ≡ 0 → value (take n ds) ≡ value ds → value (take (n - 1) ds) ≡ value ds
zeros_left ds zero l h v = absurd (omega arith)
zeros_left ds (suc n) l h v = let e : suc n - 1 ≡ n = omega arith in rw e (value-trimmed ds n (rw e at h) ∙ v)

pub trimmed_left : (ds : List ℕ) (n : ℕ) → 0 < n → n ≤ length ds → (get_or ds (n - 1) 0 ≡ 0 → ⊥) → IsTrimmed (take n ds)
trimmed_left ds zero l m h = absurd (omega arith)
trimmed_left ds (suc n) l m h =
    let e : suc n - 1 ≡ n = omega arith in
    let k : get_or ds n 0 ≡ 0 → ⊥ = (λ q. h (rw e q)) in
    trimmed-at ds n (omega arith) (omega (arith, k))

pub carried_on : (carry a b times : ℕ) → carry ≤ times → a < 10 → b < 10 → (carry + a + b * times) / 10 ≤ times
carried_on carry a b times c l m = let t = times-below b times m in omega (arith, t)
