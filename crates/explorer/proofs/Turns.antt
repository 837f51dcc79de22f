-- Which of two lists of turns comes before, from some turn on.
-- By the turn at which it is looked.
use Rattle.std.proofs.Common.{◌≡◌, ℕ, ◌+◌, ◌<◌, ◌≤◌, Bool, true, false, List, ◌∷◌, length, map, drop, get_or, refl, arith, add-one, drop-cons}
use Rattle.std.specs.Prelude.{nat_lt}
use Rattle.std.proofs.lemmas.Bool.Decides.{nat_tests}
use Rattle.std.proofs.lemmas.List.{drop_all}
use Rattle.explorer.specs.Paths.{is_before, left_of}
use Rattle.explorer.specs.declared.frames.Frame.{Frame}

-- ---- The order

rest_is : (xs : List Frame) (i : ℕ) (d : Frame) → i < length xs → drop i xs ≡ get_or xs i d ∷ drop (i + 1) xs
rest_is xs i d l = rw (add-one, drop-cons xs i d l) refl

abbrev pub before_from : ℕ → List Frame → List Frame → Bool
before_from i ts os = is_before (map left_of (drop i ts)) (map left_of (drop i os))

-- the others have no turn more
pub order_over : (ts os : List Frame) (i : ℕ) (d : Frame) → i < length ts → length os ≤ i → before_from i ts os ≡ false
order_over ts os i d l m = rw (rest_is ts i d l, drop_all i os m) refl

-- there is no turn more
pub order_end : (ts os : List Frame) (i : ℕ) → length ts ≤ i → before_from i ts os ≡ nat_lt i (length os)
order_end ts os i l = by (nat_lt i (length os)) refl
  where
    by : (b : Bool) → nat_lt i (length os) ≡ b → before_from i ts os ≡ b
    by true e =
        let m : i < length os = grind (arith, nat_tests) in
        let d : Frame = record { place = 0; next = 0; left = 0 } in
        rw (drop_all i ts l, rest_is os i d m) refl
    by false e = let m : length os ≤ i = grind (arith, nat_tests) in rw (drop_all i ts l, drop_all i os m) refl
