-- Bytes without the zero bytes at their end.
-- By induction on the bytes before the last one, and by `take_more`, which gives the last byte of a front.
use Rattle.std.proofs.Common.{◌≡◌, ℕ, zero, suc, ◌+◌, ◌-◌, ◌<◌, ◌≤◌, List, [], ◌∷◌, ◌++◌, length, take, drop, get_or, refl, sym, ap, ◌∙◌, append_assoc, append-nil, arith}
use Rattle.std.specs.Prelude.{replicate}
use Rattle.std.specs.List.{slice_range}
use Rattle.std.proofs.Math.Seq.{take-add}
use Rattle.std.proofs.lemmas.List.{take_more}
use Rattle.std.proofs.lemmas.Bool.{ne_eqb}
use Rattle.hist_model.specs.ReportWords.{trimmed, trim_onto}

-- a zero byte at the end is dropped
zero-last : (xs : List ℕ) → trimmed (xs ++ 0 ∷ []) ≡ trimmed xs
zero-last [] = refl
zero-last (x ∷ xs) = ap (trim_onto x) (zero-last xs)

-- and so are more
zeros-last : (n : ℕ) (xs : List ℕ) → trimmed (xs ++ replicate n 0) ≡ trimmed xs
zeros-last zero xs = ap trimmed (append-nil xs)
zeros-last (suc n) xs = ap trimmed (sym (append_assoc xs (0 ∷ []) (replicate n 0))) ∙ zeros-last n (xs ++ 0 ∷ []) ∙ zero-last xs

-- a front that ends with so many zero bytes
pub trimmed_zeros : (k : ℕ) (xs : List ℕ) (n : ℕ) → k ≤ n → n ≤ length xs → slice_range xs (n - k) n ≡ replicate k 0 → trimmed (take (n - k) xs) ≡ trimmed (take n xs)
trimmed_zeros k xs n low high is =
    let size : n - (n - k) ≡ k = omega arith in
    let end : take k (drop (n - k) xs) ≡ replicate k 0 = ap (λ m. take m (drop (n - k) xs)) (sym size) ∙ is in
    let whole : take n xs ≡ take (n - k) xs ++ take k (drop (n - k) xs) = ap (λ m. take m xs) (omega arith) ∙ take-add (n - k) k xs in
    sym (ap trimmed (whole ∙ ap (λ ys. take (n - k) xs ++ ys) end) ∙ zeros-last k (take (n - k) xs))

onto-full : (x b : ℕ) (xs : List ℕ) → trim_onto x (xs ++ b ∷ []) ≡ x ∷ (xs ++ b ∷ [])
onto-full x b [] = refl
onto-full x b (y ∷ xs) = refl

-- nothing is dropped where the last byte isn't zero
full-last : (xs : List ℕ) (b : ℕ) → trimmed (xs ++ suc b ∷ []) ≡ xs ++ suc b ∷ []
full-last [] b = rw (ne_eqb (suc b) 0 (λ h. cc)) refl
full-last (x ∷ xs) b = ap (trim_onto x) (full-last xs b) ∙ onto-full x (suc b) xs

-- a front that ends with a zero byte
pub trimmed_zero : (xs : List ℕ) (n : ℕ) (d : ℕ) → 0 < n → n ≤ length xs → get_or xs (n - 1) d ≡ 0 → trimmed (take (n - 1) xs) ≡ trimmed (take n xs)
trimmed_zero xs zero d pos le is = absurd (omega arith)
trimmed_zero xs (suc n) d pos le is =
    let e : suc n - 1 ≡ n = omega arith in
    let z : get_or xs n d ≡ 0 = rw e at is in
    let m : take (suc n) xs ≡ take n xs ++ get_or xs n d ∷ [] = take_more_suc xs n d (omega arith) in
    rw (e, m, z, zero-last (take n xs)) refl
  where
    take_more_suc : (xs : List ℕ) (n d : ℕ) → n < length xs → take (suc n) xs ≡ take n xs ++ get_or xs n d ∷ []
    take_more_suc xs n d l = let e : n + 1 ≡ suc n = omega arith in rw e at (take_more xs n d l)

-- a front that ends with another byte
pub trimmed_full : (xs : List ℕ) (n : ℕ) (d : ℕ) → 0 < n → n ≤ length xs → 0 < get_or xs (n - 1) d → trimmed (take n xs) ≡ take n xs
trimmed_full xs zero d pos le is = absurd (omega arith)
trimmed_full xs (suc n) d pos le is =
    let e : suc n - 1 ≡ n = omega arith in
    let z : 0 < get_or xs n d = rw e at is in
    let m : take (suc n) xs ≡ take n xs ++ get_or xs n d ∷ [] = take_more_suc xs n d (omega arith) in
    rw m (ends (get_or xs n d) z)
  where
    take_more_suc : (xs : List ℕ) (n d : ℕ) → n < length xs → take (suc n) xs ≡ take n xs ++ get_or xs n d ∷ []
    take_more_suc xs n d l = let e : n + 1 ≡ suc n = omega arith in rw e at (take_more xs n d l)

    ends : (b : ℕ) → 0 < b → trimmed (take n xs ++ b ∷ []) ≡ take n xs ++ b ∷ []
    ends zero h = absurd (omega arith)
    ends (suc b) h = full-last (take n xs) b
