-- A list that is read piece by piece.
-- By the lemmas on `take`, `drop` and lengths of lists, with arithmetic.
use Rattle.std.proofs.Common.{◌≡◌, ℕ, ◌+◌, ◌≤◌, List, ◌++◌, length, take, drop, refl, arith, append_assoc, drop-drop, take-add}
use Rattle.std.proofs.lemmas.List.{take-append-le, length-take-le, length-drop}
use Rattle.std.proofs.lemmas.Grind.{common_steps}

-- what is left after one more piece
pub left_after : (xs left rest : List ℕ) (total n : ℕ) → left ≡ drop total xs → rest ≡ drop n left → rest ≡ drop (total + n) xs
left_after xs left rest total n is next = rw (next, is, drop-drop n total xs) refl

-- one more piece is within the list
pub within : (xs left : List ℕ) (total n : ℕ) → left ≡ drop total xs → total ≤ length xs → n ≤ length left → total + n ≤ length xs
within xs left total n is le enough = let enough' = rw (is, length-drop total xs) at enough in omega arith

-- the front of a buffer that was filled is the piece
pub front_filled : (left buf rest filled : List ℕ) (n : ℕ) → n ≤ length left → filled ≡ take n left ++ drop n buf → take n (filled ++ rest) ≡ take n left
front_filled left buf rest filled n enough is =
    let e = length-take-le n left enough in
    let fits : n ≤ length (take n left) = omega arith in
    rw (is, append_assoc, take-append-le n (take n left) (drop n buf ++ rest) fits) (grind (arith, common_steps))

-- what is read with one more piece
pub taken_after : (xs left buf rest filled taken new : List ℕ) (total n : ℕ) → left ≡ drop total xs → n ≤ length left → filled ≡ take n left ++ drop n buf → taken ≡ take total xs → new ≡ taken ++ take n (filled ++ rest) → new ≡ take (total + n) xs
taken_after xs left buf rest filled taken new total n is enough fills was grows =
    rw (grows, was, front_filled left buf rest filled n enough fills, is, take-add total n xs) refl
