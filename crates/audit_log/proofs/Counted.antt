-- Counts of events, with one more.
-- By the library's sums: a count is a sum of ones and zeros, and at most the length.
use Rattle.std.proofs.Common.{◌≡◌, ℕ, ◌+◌, ◌<◌, Bool, true, false, List, ◌∷◌, length, min, cond, arith}
use Rattle.std.specs.Prelude.{count_by, if◌then◌else◌}
use Rattle.std.proofs.lemmas.List.Sums.{count_by-le-length, sum_by-cons}
use Rattle.hist_model.specs.declared.event.Event.{Event}

-- one more event counts as one, or not
pub count_cons : (p : Event → Bool) (e : Event) (K : List Event) → count_by p (e ∷ K) ≡ cond (p e) 1 0 + count_by p K
count_cons p e K = sum_by-cons (λ x. cond (p x) 1 0) e K

-- the count goes on below the greatest number that there is
pub count_more : (p : Event → Bool) (e : Event) (K : List Event) (most old new : ℕ) → length K < most → old ≡ count_by p K → new ≡ (if p e then min (old + 1) most else old)
    → new ≡ count_by p (e ∷ K)
count_more p e K most old new l o n = by (p e) n (count_cons p e K)
  where
    few : count_by p K < most
    few = omega (arith, count_by-le-length p K)

    by : (b : Bool) → new ≡ (if b then min (old + 1) most else old) → count_by p (e ∷ K) ≡ cond b 1 0 + count_by p K → new ≡ count_by p (e ∷ K)
    by true n c = omega (arith, few)
    by false n c = omega arith
