-- How the reads of a seat are confirmed one after another, from the first on that weren't.
-- By induction on the reads.
use Rattle.std.proofs.Common.{◌≡◌, ℕ, zero, suc, ◌+◌, ◌<◌, ◌≤◌, List, [], ◌∷◌, ◌++◌, map, take, drop, length, refl, arith, ap, add-one}
use Rattle.std.specs.Prelude.{get_or}
use Rattle.std.proofs.Math.ListN.{set}
use Rattle.std.specs.List.{All}
use Rattle.std.proofs.lemmas.List.Elements.{All-tail}
use Rattle.broker_verdict.specs.Seats.{confirmed, SeatRead}

-- the reads that are confirmed already stay as they are
pub confirmed-first : (n : ℕ) (rs : List SeatRead) → n ≤ length rs → All (λ r. confirmed r ≡ r) (take n rs) → rs ≡ map (λ r. confirmed r) (take n rs) ++ drop n rs
confirmed-first zero rs l h = refl
confirmed-first (suc n) [] l h = refl
confirmed-first (suc n) (r ∷ rs) l h =
    let k : confirmed r ≡ r = h 0 r (omega arith) in
    let ih = confirmed-first n rs (omega (arith, l)) (All-tail (λ (s : SeatRead). confirmed s ≡ s) r (take n rs) h) in
    rw k (ap (λ (more : List SeatRead). r ∷ more) ih)

-- one more is confirmed
pub confirmed-next : (i : ℕ) (rs : List SeatRead) (d : SeatRead) → i < length rs
    → set (map (λ r. confirmed r) (take i rs) ++ drop i rs) i (confirmed (get_or (map (λ r. confirmed r) (take i rs) ++ drop i rs) i d)) ≡ map (λ r. confirmed r) (take (suc i) rs) ++ drop (suc i) rs
confirmed-next zero [] d l = absurd (omega arith)
confirmed-next zero (r ∷ rs) d l = refl
confirmed-next (suc i) [] d l = absurd (omega arith)
confirmed-next (suc i) (r ∷ rs) d l = ap (λ (more : List SeatRead). confirmed r ∷ more) (confirmed-next i rs d (omega (arith, l)))

pub confirmed-step : (old rs : List SeatRead) (i : ℕ) (x y d : SeatRead) → rs ≡ map (λ r. confirmed r) (take i old) ++ drop i old → i < length old → y ≡ get_or rs i d → x ≡ confirmed y
    → set rs i x ≡ map (λ r. confirmed r) (take (i + 1) old) ++ drop (i + 1) old
confirmed-step old rs i x y d h l q z = rw (z, q, h, add-one) (confirmed-next i old d l)
