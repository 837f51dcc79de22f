-- A list that is kept the oldest first, seen the newest first.
-- By what the library says of reversed lists and of their parts.
use Rattle.std.proofs.Common.{◌≡◌, ℕ, zero, suc, ◌+◌, ◌<◌, ◌≤◌, List, [], ◌∷◌, ◌++◌, length, reverse, take, get_or, Some, inl, inr, add-one, sym, ap, ◌∙◌, arith}
use Rattle.std.proofs.Math.Seq.{take-length}
use Rattle.std.proofs.lemmas.List.{take_more, reverse-append, length-reverse, length-take}
use Rattle.hist_model.specs.declared.event.Event.{Event}
use Rattle.hist_model.specs.Look.{event_at}
use Rattle.hist_model.proofs.Look.{event_at-here, event_at-older, below_or_last}

pub reverse_push : {A : Type 0} → (xs : List A) (x : A) → reverse (xs ++ x ∷ []) ≡ x ∷ reverse xs
reverse_push xs x = reverse-append xs (x ∷ [])

-- one more event is past
pub past_more : {A : Type 0} → (xs : List A) (i : ℕ) (d : A) → i < length xs → reverse (take (i + 1) xs) ≡ get_or xs i d ∷ reverse (take i xs)
past_more xs i d h = ap reverse (take_more xs i d h) ∙ reverse_push (take i xs) (get_or xs i d)

length-past : {A : Type 0} → (xs : List A) (n : ℕ) → n ≤ length xs → length (reverse (take n xs)) ≡ n
length-past xs n h = simp (length-reverse, length-take) (omega arith)

-- places count from the oldest event
event_at-among : (xs : List Event) (d : Event) (n i : ℕ) → n ≤ length xs → i < n → event_at (reverse (take n xs)) i ≡ Some (get_or xs i d)
event_at-among xs d zero i h l = absurd (omega arith)
event_at-among xs d (suc n) i h l =
    let q : reverse (take (suc n) xs) ≡ get_or xs n d ∷ reverse (take n xs) = rw add-one at (past_more xs n d (omega arith)) in
    let p = length-past xs n (omega arith) in
    rw q (elim (below_or_last i n l) [
      | inl m ↦ let m' : i < length (reverse (take n xs)) = omega arith in rw event_at-older (event_at-among xs d n i (omega arith) m)
      | inr m ↦ let m' : i ≡ length (reverse (take n xs)) = m ∙ sym p in rw (m', event_at-here, p)
    ])

pub event_at_past : (xs : List Event) (d : Event) (i : ℕ) → i < length xs → event_at (reverse xs) i ≡ Some (get_or xs i d)
event_at_past xs d i l = rw take-length at (event_at-among xs d (length xs) i (omega arith) l)
