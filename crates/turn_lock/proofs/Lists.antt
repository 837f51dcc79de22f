-- Histories that begin with others, and places of events.
-- By induction on the list, and by arithmetic on the lengths of appended lists.
use Rattle.std.proofs.Common.{◌≡◌, ◌≢◌, ℕ, ◌+◌, ◌≤◌, List, [], ◌∷◌, ◌++◌, length, sym, refl, ap, ◌∙◌, arith, cond, ltb, Bool, true, false, eq-eqb, ne_eqb, ltb-true, ltb-false, append_assoc, append-nil, length-append}
use mathlib.Core.Logic.{dite}
use native.Mathlib.Decide.{ℕ_discrete, dec_le}
use Rattle.hist_model.specs.declared.event.Event.{Event}
use Rattle.turn_lock.specs.Lists.{Begins, longer, shorter, places_of, times, is_at, OnceFrom}

pub begins_self : (h : List Event) → Begins h h
begins_self h = ([], refl)

pub begins_nil : (h : List Event) → Begins h []
begins_nil h = (h, sym (append-nil h))

pub begins_trans : (h k l : List Event) → Begins h k → Begins k l → Begins h l
begins_trans h k l a b = (a.0 ++ b.0, a.1 ∙ ap (λ (z : List Event). a.0 ++ z) b.1 ∙ sym (append_assoc a.0 b.0 l))

pub begins_length : (h k : List Event) → Begins h k → length k ≤ length h
begins_length h k b = let e : length h ≡ length (b.0 ++ k) = ap length b.1 in let o = length-append b.0 k in omega arith

longest_is : (h k : List Event) → Begins h k → length h ≤ length k → h ≡ k
longest_is h k ([], e) l = e
longest_is h k (x ∷ xs, e) l = let e' : length h ≡ length ((x ∷ xs) ++ k) = ap length e in let o = length-append (x ∷ xs) k in absurd (omega arith)

abbrev tail_of : List Event → List Event
tail_of [] = []
tail_of (x ∷ xs) = xs

-- of two beginnings of one history the longer begins with the shorter
ordered : (h a b : List Event) → Begins h a → Begins h b → length b ≤ length a → Begins a b
ordered h a b ([], e) (m, f) l = (m, sym e ∙ f)
ordered h a b (x ∷ xs, e) ([], f) l = let e' : length h ≡ length ((x ∷ xs) ++ a) = ap length e in let o = length-append (x ∷ xs) a in let f' : length h ≡ length b = ap length f in absurd (omega arith)
ordered [] a b (x ∷ xs, e) (y ∷ ys, f) l = let e' : 0 ≡ length ((x ∷ xs) ++ a) = ap length e in absurd (omega arith)
ordered (z ∷ h) a b (x ∷ xs, e) (y ∷ ys, f) l = ordered h a b (xs, ap tail_of e) (ys, ap tail_of f) l

longer_by : (now a b : List Event) (z : Bool) → ltb (length a) (length b) ≡ z → Begins now a → Begins now b
    → Begins now (cond z b a) × Begins (cond z b a) (cond z a b) × (a ≡ now → cond z b a ≡ now) × (b ≡ now → cond z b a ≡ now)
longer_by now a b true e pa pb = let lt = ltb-true (length a) (length b) e in
    (pb, ordered now b a pb pa (omega arith), (λ q. let l = begins_length now b pb in let l' : length a ≡ length now = ap length q in absurd (omega arith)), (λ q. q))
longer_by now a b false e pa pb = let ge = ltb-false (length a) (length b) e in
    (pa, ordered now a b pa pb ge, (λ q. q), (λ q. let l = begins_length now a pa in let l' : length b ≡ length now = ap length q in sym (longest_is now a pa (omega arith))))

-- of two beginnings of one history
pub longer_is : (now a b : List Event) → Begins now a → Begins now b → Begins now (longer a b) × Begins (longer a b) (shorter a b) × (a ≡ now → longer a b ≡ now) × (b ≡ now → longer a b ≡ now)
longer_is now a b pa pb = longer_by now a b (ltb (length a) (length b)) refl pa pb

pub times_append : (p : ℕ) (xs ys : List ℕ) → times p (xs ++ ys) ≡ times p xs + times p ys
times_append p [] ys = omega arith
times_append p (x ∷ xs) ys = let ih = times_append p xs ys in omega arith

at_is : (x p : ℕ) → (x ≡ p → is_at x p ≡ 1) × (x ≢ p → is_at x p ≡ 0)
at_is x p = (λ e. ap (λ (b : Bool). cond b 1 0) (eq-eqb x p e), λ n. ap (λ (b : Bool). cond b 1 0) (ne_eqb x p n))

-- the places of new events follow on each other
pub places_once : (p : ℕ) (more : List Event) (n : ℕ) → OnceFrom n (length more + n) p (times p (places_of more n))
places_once p [] n = (λ l m. absurd (omega arith), λ _. refl, λ _. refl)
places_once p (e ∷ more) n = let ih = places_once p more n in let o = at_is (length more + n) p in (
  λ l m. dite (ℕ_discrete (length more + n) p) (λ s. let z = ih.2 (omega arith) in let y = o.0 s in omega arith) (λ ne. let z = ih.0 l (omega arith) in let y = o.1 ne in omega arith),
  λ l. let z = ih.1 l in let y = o.1 (λ s. omega arith) in omega arith,
  λ l. let z = ih.2 (omega arith) in let y = o.1 (λ s. omega arith) in omega arith,
)

-- such a number is 1 at most
pub at_most : (start end p n : ℕ) → OnceFrom start end p n → n ≤ 1
at_most start end p n o = dite (dec_le start p) (λ l. dite (dec_le end p) (λ m. let z = o.2 m in omega arith) (λ m. let z = o.0 l (omega arith) in omega arith)) (λ l. let z = o.1 (omega arith) in omega arith)
