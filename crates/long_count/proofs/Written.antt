-- The text of digits is that of their number, and of a short number that which `{}` writes.
-- By induction on the digits, whose number has as many; and on how many digits are written at most.
use Rattle.std.proofs.Common.{◌≡◌, ℕ, zero, suc, ◌+◌, ◌*◌, ◌/◌, ◌%◌, ◌^◌, ◌<◌, ◌≤◌, true, false, List, [], ◌∷◌, ◌++◌, length, map, refl, ◌∙◌, arith, append_assoc}
use Rattle.std.specs.Prelude.{decimal, nat_lt, reverse, take}
use Rattle.std.specs.Fmt.{digit_glyph, digits, digits_onto}
use Rattle.std.proofs.lemmas.List.{append-nil, reverse-append}
use Rattle.std.proofs.lemmas.Bool.{lt-ltb}
use Rattle.std.proofs.Math.Dec.{eqb-suc-zero}
use Rattle.std.proofs.Math.Nat.{pow-succ'}
use Rattle.long_count.specs.Digits.{AreDigits, IsTrimmed, value}
use Rattle.long_count.specs.Texts.{decimal_of}
use Rattle.long_count.proofs.Values.{digits-fewer}

-- the digits as text, the highest first
abbrev pub glyphs : List ℕ → List ℕ
glyphs ds = reverse (map (λ d. 48 + d) ds)

-- trimmed digits are no more than their number
pub few-digits : (ds : List ℕ) → IsTrimmed ds → length ds ≤ value ds
few-digits [] t = omega arith
few-digits (d ∷ []) t = omega arith
few-digits (d ∷ e ∷ more) t = let h = few-digits (e ∷ more) t in omega arith

-- ---- One digit

glyph-is : (d : ℕ) → d < 10 → digit_glyph false d ≡ 48 + d
glyph-is d h = let p : nat_lt d 10 ≡ true = lt-ltb d 10 h in rw p refl

-- the last one, where there is no other
last-one : (k n : ℕ) (acc : List ℕ) → n < 10 → digits_onto (suc k) 10 false n acc ≡ (48 + n) ∷ acc
last-one k n acc h =
    let p : n / 10 ≡ 0 = omega arith in
    let q : n % 10 ≡ n = omega arith in
    rw (p, q, glyph-is n h) refl

-- the last one, where there are others
one-more : (k d n : ℕ) (acc : List ℕ) → d < 10 → 0 < n → digits_onto (suc k) 10 false (d + 10 * n) acc ≡ digits_onto k 10 false n ((48 + d) ∷ acc)
one-more k d zero acc h l = absurd (omega arith)
one-more k d (suc n) acc h l =
    let p : (d + 10 * suc n) / 10 ≡ suc n = omega arith in
    let q : (d + 10 * suc n) % 10 ≡ d = omega arith in
    rw (p, q, glyph-is d h, eqb-suc-zero n) refl

-- ---- All of them

glyphs-more : (d : ℕ) (ds acc : List ℕ) → glyphs ds ++ ((48 + d) ∷ acc) ≡ glyphs (d ∷ ds) ++ acc
glyphs-more d ds acc =
    let p : glyphs (d ∷ ds) ≡ glyphs ds ++ ((48 + d) ∷ []) = reverse-append ((48 + d) ∷ []) (map (λ x. 48 + x) ds) in
    rw (p, append_assoc (glyphs ds) ((48 + d) ∷ []) acc) refl

pub written : (k : ℕ) (d : ℕ) (ds acc : List ℕ) → length ds < k → AreDigits (d ∷ ds) → IsTrimmed (d ∷ ds) → digits_onto k 10 false (value (d ∷ ds)) acc ≡ glyphs (d ∷ ds) ++ acc
written zero d ds acc l a t = absurd (omega arith)
written (suc k) d [] acc l a t = let z : d + 10 * 0 ≡ d = omega arith in rw z (last-one k d acc a.0)
written (suc k) d (e ∷ more) acc l a t =
    let s : 0 < value (e ∷ more) = let f = few-digits (e ∷ more) t in omega arith in
    one-more k d (value (e ∷ more)) acc a.0 s ∙ (written k e more ((48 + d) ∷ acc) (omega arith) a.1 t ∙ glyphs-more d (e ∷ more) acc)

-- the text of trimmed digits
pub text-is : (d : ℕ) (ds : List ℕ) → AreDigits (d ∷ ds) → IsTrimmed (d ∷ ds) → decimal_of (value (d ∷ ds)) ≡ glyphs (d ∷ ds)
unfolding decimal_of
text-is d ds a t =
    let f = few-digits (d ∷ ds) t in
    written (value (d ∷ ds) + 1) d ds [] (omega arith) a t ∙ append-nil (glyphs (d ∷ ds))

-- and of none
pub zero-is : decimal_of 0 ≡ 48 ∷ []
unfolding decimal_of
zero-is = refl

pub zero_text : (ds : List ℕ) (n : ℕ) → n ≡ 0 → value (take n ds) ≡ value ds → decimal_of (value ds) ≡ 48 ∷ []
zero_text ds n z v = rw (← v, z) zero-is

pub some_text : (ds : List ℕ) (n : ℕ) → (n ≡ 0 → ⊥) → n ≤ length ds → AreDigits ds → IsTrimmed (take n ds) → value (take n ds) ≡ value ds
    → decimal_of (value ds) ≡ glyphs (take n ds)
some_text ds zero some l a t v = absurd (some refl)
some_text [] (suc n) some l a t v = absurd (omega arith)
some_text (d ∷ ds) (suc n) some l a t v = rw (← v) (text-is d (take n ds) (a.0, digits-fewer ds n a.1) t)

-- ---- As `{}` writes it

some-digits : (m r : ℕ) → suc r < 10 ^ m → 0 < m
some-digits zero r h = absurd (omega arith)
some-digits (suc m) r h = omega arith

-- what is above the last digit has one digit less
fewer : (j n q : ℕ) → n / 10 ≡ suc q → n < 10 ^ suc j → suc q < 10 ^ j
fewer j n q e a = let x : 10 ^ suc j ≡ 10 * 10 ^ j = pow-succ' 10 j in omega (arith, e, x, a)

-- how many digits may be written doesn't matter, where they are enough
by-rest : (j k n : ℕ) (acc : List ℕ) (q : ℕ) → n / 10 ≡ q
    → ((r : ℕ) → q ≡ suc r → digits_onto j 10 false q (digit_glyph false (n % 10) ∷ acc) ≡ digits_onto k 10 false q (digit_glyph false (n % 10) ∷ acc))
    → digits_onto (suc j) 10 false n acc ≡ digits_onto (suc k) 10 false n acc
by-rest j k n acc zero e h = rw e refl
by-rest j k n acc (suc q) e h = rw (e, eqb-suc-zero q) (h q refl)

enough : (j k n : ℕ) (acc : List ℕ) → n < 10 ^ j → n < 10 ^ k → 0 < j → 0 < k → digits_onto j 10 false n acc ≡ digits_onto k 10 false n acc
enough zero k n acc a b s t = absurd (omega arith)
enough (suc j) zero n acc a b s t = absurd (omega arith)
enough (suc j) (suc k) n acc a b s t = by-rest j k n acc (n / 10) refl
    (λ r e. let f : n / 10 < 10 ^ j = rw e (fewer j n r e a) in let g : n / 10 < 10 ^ k = rw e (fewer k n r e b) in
    enough j k (n / 10) (digit_glyph false (n % 10) ∷ acc) f g (some-digits j r (rw (← e) f)) (some-digits k r (rw (← e) g)))

-- a number has no more digits than itself and one
few : (n : ℕ) → n < 10 ^ (n + 1)
few zero = omega arith
few (suc n) =
    let s : suc n + 1 ≡ suc (n + 1) = omega arith in
    let p : 10 ^ suc (n + 1) ≡ 10 * 10 ^ (n + 1) = pow-succ' 10 (n + 1) in
    let h = few n in rw s (omega (arith, p, h))

pub as-written : (n : ℕ) → n < 10 ^ 64 → decimal_of n ≡ decimal n
unfolding decimal_of digits
as-written n h = enough (n + 1) 64 n [] (few n) h (omega arith) (omega arith)
