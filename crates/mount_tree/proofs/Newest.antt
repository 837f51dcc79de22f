-- The newest row of a key, among rows that are kept the oldest first.
-- By induction on the rows, or on how many of the oldest are taken, with cases on whether the newest of them has the key.
use Rattle.std.proofs.Common.{◌≡◌, inl, inr, ℕ, zero, suc, ◌+◌, ◌<◌, ◌≤◌, true, false, List, [], ◌∷◌, length, reverse, take, get_or, Option, Some, None, add-one, refl, sym, ap, arith}
use Rattle.std.specs.Prelude.{IfSome}
use Rattle.std.proofs.lemmas.Bool.{cases_Bool}
use Rattle.std.proofs.Math.Seq.{take-length}
use Rattle.hist_model.proofs.Scans.{past_more}
use Rattle.mount_tree.proofs.Places.{length_past}
use Rattle.mount_tree.specs.Keys.{Key, is_key, newest, newest_row}

-- where one more row is taken, it is the newest of the key, or it is passed over
module _ {T : Type 0} (f : T → Key) (k : Key) (xs : List T) (n m : ℕ) (d : T) (e : m ≡ n + 1) (l : n < length xs) where
  pub newest_here : is_key (f (get_or xs n d)) k ≡ true → newest f (reverse (take m xs)) k ≡ Some n
  unfolding newest
  newest_here h = rw (e, past_more xs n d l, h, length_past xs n (omega arith)) refl

  pub newest_passed : is_key (f (get_or xs n d)) k ≡ false → newest f (reverse (take m xs)) k ≡ newest f (reverse (take n xs)) k
  unfolding newest
  newest_passed h = rw (e, past_more xs n d l, h) refl

pub newest_below : {T : Type 0} (f : T → Key) (rs : List T) (k : Key) (n : ℕ) → newest f rs k ≡ Some n → n < length rs
unfolding newest
newest_below f [] k n e = cc
newest_below f (r ∷ rs) k n e =
    elim (cases_Bool (is_key (f r) k)) [
      | inl h ↦ let q : Some (length rs) ≡ Some n = rw h at e in let p : length rs ≡ n = cc in omega arith
      | inr h ↦ let q : newest f rs k ≡ Some n = rw h at e in let p = newest_below f rs k n q in omega arith
    ]

pub found_below : {T : Type 0} (f : T → Key) (rs : List T) (k : Key) (r : Option ℕ) → r ≡ newest f rs k → IfSome r (λ n. n < length rs)
found_below f rs k (Some n) e = newest_below f rs k n (sym e)
found_below f rs k None e = tt

row_among : {T : Type 0} (f : T → Key) (xs : List T) (k : Key) (n : ℕ) (d : T) (j : ℕ) → j ≤ length xs → newest f (reverse (take j xs)) k ≡ Some n
    → newest_row f (reverse (take j xs)) k ≡ Some (get_or xs n d)
unfolding newest newest_row
row_among f xs k n d zero h e = cc
row_among f xs k n d (suc j) h e =
    let q : reverse (take (suc j) xs) ≡ get_or xs j d ∷ reverse (take j xs) = rw add-one at (past_more xs j d (omega arith)) in
    let p = length_past xs j (omega arith) in
    elim (cases_Bool (is_key (f (get_or xs j d)) k)) [
      | inl i ↦ let s : Some j ≡ Some n = rw (q, i, p) at e in let t : j ≡ n = cc in rw (q, i) (ap (λ (m : ℕ). Some (get_or xs m d)) t)
      | inr i ↦ let s : newest f (reverse (take j xs)) k ≡ Some n = rw (q, i) at e in rw (q, i) (row_among f xs k n d j (omega arith) s)
    ]

-- the row that was found
pub newest_past : {T : Type 0} (f : T → Key) (xs : List T) (k : Key) (n : ℕ) (d : T) → Some n ≡ newest f (reverse xs) k → newest_row f (reverse xs) k ≡ Some (get_or xs n d)
newest_past f xs k n d e = rw take-length at (row_among f xs k n d (length xs) (omega arith) (rw take-length (sym e)))

pub newest_absent : {T : Type 0} (f : T → Key) (rs : List T) (k : Key) → None ≡ newest f rs k → newest_row f rs k ≡ None
unfolding newest newest_row
newest_absent f [] k e = refl
newest_absent f (r ∷ rs) k e =
    elim (cases_Bool (is_key (f r) k)) [
      | inl h ↦ let q : ◌≡◌ {A = Option ℕ} None (Some (length rs)) = rw h at e in cc
      | inr h ↦ let q : None ≡ newest f rs k = rw h at e in rw h (newest_absent f rs k q)
    ]
