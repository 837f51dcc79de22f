-- Flags that are counted, and ranks that are put one behind the other.
-- By the laws of sums and of lists that are joined.
use Rattle.std.proofs.Common.{◌≡◌, ℕ, ◌+◌, ◌/◌, ◌^◌, ◌≤◌, List, [], ◌∷◌, ◌++◌, append-nil, append_assoc, map-id, ap, sym, ◌∙◌, arith}
use Rattle.std.specs.Int.{bit_at}
use Rattle.std.specs.List.{range_with_len, sum_by}
use Rattle.std.specs.Prelude.{bit_and}
use Rattle.std.proofs.lemmas.List.FromFn.{sum_by-map-range_with_len_more}
use Rattle.std.proofs.lemmas.Nat.Bits.{bit_at-lt, shr_and_one}
use Rattle.policy_classes.specs.Order.{Part, flags_cost, ranks_of}

abbrev pub flags_so_far : ℕ → ℕ → ℕ
flags_so_far flags k = sum_by (bit_at flags) (range_with_len 0 k)

pub one_more_flag : (flags k : ℕ) → flags_so_far flags (k + 1) ≡ flags_so_far flags k + bit_at flags k
one_more_flag flags k =
    ap (sum_by (bit_at flags)) (sym (map-id (range_with_len 0 (k + 1)))) ∙ sum_by-map-range_with_len_more (bit_at flags) (λ x. x) 0 k k (omega arith)
    ∙ ap (λ xs. sum_by (bit_at flags) xs + bit_at flags k) (map-id (range_with_len 0 k))

pub flag_counted : (flags k cost : ℕ) → (cost ≡ flags_so_far flags k) × (cost ≤ k)
    → (cost + bit_and (flags / 2 ^ k) 1 ≡ flags_so_far flags (k + 1)) × (cost + bit_and (flags / 2 ^ k) 1 ≤ k + 1)
flag_counted flags k cost h =
    let bit = shr_and_one flags k in let low = bit_at-lt flags k in let more = one_more_flag flags k in let c = h.0 in let l = h.1 in
    (omega arith, omega arith)

pub all_counted : (flags k cost : ℕ) → k ≡ 64 → cost ≡ flags_so_far flags k → cost ≡ flags_cost flags
unfolding flags_cost
all_counted flags k cost e h = h ∙ ap (flags_so_far flags) e

-- one part more
pub part_put : (done : List Part) (p : Part) (before after : List ℕ) → before ≡ ranks_of done → after ≡ before ++ p.rank → after ≡ ranks_of (done ++ p ∷ [])
part_put done p before after was grows =
    grows ∙ ap (λ r. r ++ p.rank) was ∙ joined done
  where
    joined : (ps : List Part) → ranks_of ps ++ p.rank ≡ ranks_of (ps ++ p ∷ [])
    joined [] = sym (append-nil p.rank)
    joined (q ∷ ps) = append_assoc q.rank (ranks_of ps) p.rank ∙ ap (λ r. q.rank ++ r) (joined ps)
