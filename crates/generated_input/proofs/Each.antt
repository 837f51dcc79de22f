-- What is true of what each call adds is true of the whole.
-- By induction on the number of calls.
use Rattle.std.proofs.Common.{◌≡◌, ℕ, zero, suc, ◌+◌, ◌*◌, ◌<◌, ◌≤◌, List, [], ◌++◌, refl, arith, add-one}
use Rattle.std.specs.Prelude.{Bool, true, sum_by}
use Rattle.std.specs.List.{list_all}
use Rattle.std.proofs.lemmas.Bool.{and_from}
use Rattle.std.proofs.lemmas.List.Folds.{list_all-append}
use Rattle.std.proofs.lemmas.List.Sums.{sum_by-append}
use Rattle.generated_input.specs.GeneratedScript.{of_each}

-- no call adds nothing
pub each_none : {A : Type 0} (adds : ℕ → List A) → of_each adds 0 ≡ []
unfolding of_each
each_none adds = refl

-- one call more
pub each_more : {A : Type 0} (adds : ℕ → List A) (i : ℕ) → of_each adds (i + 1) ≡ of_each adds i ++ adds i
unfolding of_each
each_more adds i = rw add-one refl

pub all_append : {A : Type 0} (test : A → Bool) (xs ys : List A) → list_all test xs ≡ true → list_all test ys ≡ true → list_all test (xs ++ ys) ≡ true
all_append test xs ys h k = rw (list_all-append test xs ys) (and_from _ _ h k)

-- each item passes a test
pub each_passes : {A : Type 0} (test : A → Bool) (adds : ℕ → List A) (count : ℕ)
    → ((i : ℕ) → i < count → list_all test (adds i) ≡ true) → list_all test (of_each adds count) ≡ true
unfolding of_each
each_passes test adds zero h = refl
each_passes test adds (suc i) h =
    all_append test (of_each adds i) (adds i) (each_passes test adds i (λ j below. h j (omega (arith, below)))) (h i (omega arith))

-- sizes are bounded, where what a call adds is
pub each_bounded : {A : Type 0} (size : A → ℕ) (adds : ℕ → List A) (most count : ℕ)
    → ((i : ℕ) → sum_by size (adds i) ≤ most) → sum_by size (of_each adds count) ≤ most * count
unfolding of_each
each_bounded size adds most zero h = omega arith
each_bounded size adds most (suc i) h =
    omega (arith, sum_by-append size (of_each adds i) (adds i), each_bounded size adds most i h, h i)
