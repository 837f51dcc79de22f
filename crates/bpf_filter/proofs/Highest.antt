-- The answer that counts has the highest precedence, and is the newest of those that have it.
-- By induction on the answers, by cases on whether the rank of the one chosen so far is less than that of the newer one.
use Rattle.std.proofs.Common.{◌≡◌, ℕ, zero, suc, ◌+◌, ◌%◌, ◌^◌, ◌<◌, ◌≤◌, Bool, true, false, List, [], ◌∷◌, length, refl, ◌∙◌, add-one, arith}
use Rattle.std.specs.Prelude.{EachIndex, nat_lt, slice_index, if◌then◌else◌}
use Rattle.std.specs.Int.Bits.{and_zero_r}
use Rattle.std.proofs.lemmas.Nat.{and_le_r, and_mod}
use Rattle.hist_model.specs.Filters.{combine, with_newer, rank, action}
use Rattle.bpf_filter.specs.Precedence.{IsHighest}

action-block : (value : ℕ) → action value % 2 ^ 16 ≡ 0
action-block value = and_mod value 0xffff0000 16 ∙ and_zero_r (value % 2 ^ 16)

-- no action ranks above ALLOW
rank-most : (value : ℕ) → rank value ≤ rank 0x7fff0000
rank-most value =
    let l = and_le_r value 0xffff0000 in
    let b = action-block value in
    omega arith

each-more : (r : ℕ → ℕ) (least value : ℕ) (older : List ℕ) → least ≤ r value → EachIndex older (λ k. least ≤ r (slice_index older k))
    → EachIndex (value ∷ older) (λ k. least ≤ r (slice_index (value ∷ older) k))
each-more r least value older l h zero m = l
each-more r least value older l h (suc k) m = h k (omega arith)

newer-more : (r : ℕ → ℕ) (least value : ℕ) (older : List ℕ) (n : ℕ) → least < r value → ((k : ℕ) → k < n → least < r (slice_index older k))
    → (k : ℕ) → k < n + 1 → least < r (slice_index (value ∷ older) k)
newer-more r least value older n l h zero m = l
newer-more r least value older n l h (suc k) m = h k (omega arith)

-- a value that isn't above another is the newest, and none is above it
newest : (value : ℕ) (older : List ℕ) → EachIndex older (λ k. rank value ≤ rank (slice_index older k)) → IsHighest (value ∷ older) (value, 0)
newest value older h = (omega arith, refl, each-more rank (rank value) value older (omega arith) h, λ k l. absurd (omega arith))

newer-highest : (value : ℕ) (older : List ℕ) (chosen : ℕ × ℕ) → IsHighest older chosen → IsHighest (value ∷ older) (with_newer value chosen)
newer-highest value older chosen h = by-rank (nat_lt (rank chosen.0) (rank value)) refl
  where
    by-rank : (b : Bool) → nat_lt (rank chosen.0) (rank value) ≡ b → IsHighest (value ∷ older) (if b then (chosen.0, chosen.1 + 1) else (value, 0))
    by-rank true e =
        let l : rank chosen.0 < rank value = grind arith in
        (omega (arith, h.0), rw add-one h.1, each-more rank (rank chosen.0) value older (omega arith) h.2, newer-more rank (rank chosen.0) value older chosen.1 l h.3)
    by-rank false e =
        let l : rank value ≤ rank chosen.0 = grind arith in
        newest value older (λ k m. let g = h.2 k m in omega arith)

only-highest : (value : ℕ) → IsHighest (value ∷ []) (with_newer value (0x7fff0000, 0))
only-highest value =
    let l = rank-most value in
    let b : nat_lt (rank 0x7fff0000) (rank value) ≡ false = grind arith in
    rw b (newest value [] (λ k m. absurd (omega arith)))

pub combine_highest : (values : List ℕ) → 0 < length values → IsHighest values (combine values)
unfolding combine
combine_highest [] l = absurd (omega arith)
combine_highest (v ∷ []) l = only-highest v
combine_highest (v ∷ w ∷ ws) l = newer-highest v (w ∷ ws) (combine (w ∷ ws)) (combine_highest (w ∷ ws) (omega arith))
