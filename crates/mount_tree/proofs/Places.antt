-- Rows that are kept the oldest first, seen the newest first.
-- By `past_more` for one more row, and by induction on the rows or on how many of them are taken.
use Rattle.std.proofs.Common.{◌≡◌, ℕ, zero, suc, ◌<◌, ◌≤◌, List, [], ◌∷◌, length, reverse, take, get_or, Some, None, inl, inr, add-one, refl, arith}
use Rattle.std.proofs.Math.Seq.{take-length}
use Rattle.std.proofs.lemmas.List.{length-reverse, length-take}
use Rattle.std.proofs.lemmas.Bool.{ne_eqb, eq-eqb}
use Rattle.hist_model.specs.Trees.{row_in}
use Rattle.hist_model.specs.declared.tree.NodeRow.{NodeRow}
use Rattle.hist_model.proofs.Look.{below_or_last}
use Rattle.hist_model.proofs.Scans.{past_more}

pub length_past : {A : Type 0} → (xs : List A) (n : ℕ) → n ≤ length xs → length (reverse (take n xs)) ≡ n
length_past xs n h = simp (length-reverse, length-take) (omega arith)

pub row_in_above : (xs : List NodeRow) (n : ℕ) → length xs ≤ n → row_in xs n ≡ None
unfolding row_in
row_in_above [] n h = refl
row_in_above (r ∷ xs) n h =
    let d : (n ≡ length xs → ⊥) = omega arith in
    rw (ne_eqb n (length xs) d) (row_in_above xs n (omega arith))

row_in_among : (xs : List NodeRow) (d : NodeRow) (n i : ℕ) → n ≤ length xs → i < n → row_in (reverse (take n xs)) i ≡ Some (get_or xs i d)
unfolding row_in
row_in_among xs d zero i h l = absurd (omega arith)
row_in_among xs d (suc n) i h l =
    let q : reverse (take (suc n) xs) ≡ get_or xs n d ∷ reverse (take n xs) = rw add-one at (past_more xs n d (omega arith)) in
    let p = length_past xs n (omega arith) in
    rw (q, p) (elim (below_or_last i n l) [
      | inl m ↦ let e : (i ≡ n → ⊥) = omega arith in rw (ne_eqb i n e) (row_in_among xs d n i (omega arith) m)
      | inr m ↦ rw (m, eq-eqb n n refl)
    ])

pub row_in_past : (xs : List NodeRow) (d : NodeRow) (i : ℕ) → i < length xs → row_in (reverse xs) i ≡ Some (get_or xs i d)
row_in_past xs d i l = rw take-length at (row_in_among xs d (length xs) i (omega arith) l)

pub row_in_none : (xs : List NodeRow) (n : ℕ) → length xs ≤ n → row_in (reverse xs) n ≡ None
row_in_none xs n h = row_in_above (reverse xs) n (simp length-reverse (omega arith))
