-- A legal history is fixed by its actors, and by the text of its journal; legality reads the same by places.
-- By induction from the oldest event on: equal events so far and an equal actor make an equal event.
use Rattle.mediation.proofs.Common.{[], Actor, actors, add-one, and_parts, ap, append_assoc, append_cancel_left, ap₂, arith, below_or_last, codes, eqb-true, Event, FixedByJournal, flat_map, get_or}
use Rattle.mediation.proofs.Common.{inl, inr, is_actor, IsLegal, IsLegalByPlace, IsStep, leb-true, length, List, Listener, Name, nat_le, Policy, refl, reverse, reverse-append, Rules, Script, Start}
use Rattle.mediation.proofs.Common.{suc, sym, System, take, take_more, Task, true, Worker, zero, ℕ, ◌%◌, ◌&&◌, ◌++◌, ◌+◌, ◌<◌, ◌==◌, ◌^◌, ◌∙◌, ◌∷◌, ◌≡◌, ◌≤◌}
use Rattle.hist_model.specs.Names.{is_child_number, is_task_name}
use Rattle.hist_model.specs.ReportJournal.{event_line, journal_line, lines_of, what_text}
use Rattle.hist_model.specs.ReportWords.{actor_text, name_text}
use Rattle.std.proofs.Math.Seq.{take-length}
use Rattle.std.proofs.lemmas.Fmt.{decimal_by_steps, decimal_injective}
use Rattle.std.specs.Fmt.{decimal}
use Rattle.std.specs.List.{list_all}

-- ---- a legal history is fixed by its actors, and legality reads the same by places

pub same-step : (S : System) (R : Rules) (K : List Event) (d e : Event) → IsStep S R K d → IsStep S R K e → d.who ≡ e.who → d ≡ e
same-step S R K d e p q h = grind arith

pub determined : (S : System) (R : Rules) (K L : List Event) → IsLegal S R K → IsLegal S R L → actors K ≡ actors L → K ≡ L
determined S R [] [] p q h = refl
determined S R [] (e ∷ L) p q h = cc
determined S R (d ∷ K) [] p q h = cc
determined S R (d ∷ K) (e ∷ L) p q h =
    let t : actors K ≡ actors L = cc in
    let u : d.who ≡ e.who = cc in
    let r = determined S R K L p.1 q.1 t in
    ap₂ (λ x xs. x ∷ xs) (same-step S R K d e p.0 (rw (← r) at q.0) u) r

past_more : (xs : List Event) (i : ℕ) (d : Event) → i < length xs → reverse (take (i + 1) xs) ≡ get_or xs i d ∷ reverse (take i xs)
past_more xs i d h = ap reverse (take_more xs i d h) ∙ reverse-append (take i xs) (get_or xs i d ∷ [])

by-place : (S : System) (R : Rules) (H : List Event) (d : Event) → IsLegalByPlace S R H → (n : ℕ) → n ≤ length H → IsLegal S R (reverse (take n H))
by-place S R H d h zero l = tt
by-place S R H d h (suc n) l =
    let q : reverse (take (suc n) H) ≡ get_or H n d ∷ reverse (take n H) = rw add-one at (past_more H n d (omega arith)) in
    rw q (h n d (omega arith), by-place S R H d h n (omega arith))

pub legal_by_place : (S : System) (R : Rules) (H : List Event) (d : Event) → IsLegalByPlace S R H → IsLegal S R (reverse H)
legal_by_place S R H d h = rw take-length at (by-place S R H d h (length H) (omega arith))

places-of : (S : System) (R : Rules) (H : List Event) (n : ℕ) → n ≤ length H → IsLegal S R (reverse (take n H)) → (i : ℕ) (d : Event) → i < n → IsStep S R (reverse (take i H)) (get_or H i d)
places-of S R H zero l legal i d h = absurd (omega arith)
places-of S R H (suc n) l legal i d h =
    let q : reverse (take (suc n) H) ≡ get_or H n d ∷ reverse (take n H) = rw add-one at (past_more H n d (omega arith)) in
    let v : IsLegal S R (get_or H n d ∷ reverse (take n H)) = rw q at legal in
    elim (below_or_last i n h) [
      | inl m ↦ places-of S R H n (omega arith) v.1 i d m
      | inr m ↦ rw m v.0
    ]

pub place_of_legal : (S : System) (R : Rules) (H : List Event) → IsLegal S R (reverse H) → IsLegalByPlace S R H
place_of_legal S R H legal i d h = places-of S R H (length H) (omega arith) (rw take-length legal) i d h

-- ---- a legal history is fixed by the text of its journal

-- digits, and what may follow them: all that separates words comes before the digits
High : List ℕ → Type 0
High [] = Unit {0}
High (b ∷ bs) = (48 ≤ b) × High bs

Low : List ℕ → Type 0
Low [] = Unit {0}
Low (b ∷ bs) = b < 48

high-more : (ds : List ℕ) (b : ℕ) → High ds → 48 ≤ b → High (ds ++ b ∷ [])
unfolding High
high-more [] b h l = (l, tt)
high-more (d ∷ ds) b h l = (h.0, high-more ds b h.1 l)

high-decimal : (n : ℕ) → n < 2 ^ 64 → High (decimal n)
unfolding High
high-decimal n l = decimal_by_steps (λ _ ds. High ds) (λ n h. (omega arith, tt)) (λ n ds h g. high-more ds (48 + n % 10) g (omega arith)) n l

digits-same : (xs ys p q : List ℕ) → High xs → High ys → Low p → Low q → xs ++ p ≡ ys ++ q → xs ≡ ys
unfolding High Low
digits-same [] [] p q h g l m e = refl
digits-same [] (y ∷ ys) [] q h g l m e = cc
digits-same [] (y ∷ ys) (b ∷ p) q h g l m e = let z : b ≡ y = cc in absurd (omega arith)
digits-same (x ∷ xs) [] p [] h g l m e = cc
digits-same (x ∷ xs) [] p (b ∷ q) h g l m e = let z : x ≡ b = cc in absurd (omega arith)
digits-same (x ∷ xs) (y ∷ ys) p q h g l m e =
    let t : xs ++ p ≡ ys ++ q = cc in
    let s = digits-same xs ys p q h.1 g.1 l m t in
    cc

number-same : (x y : ℕ) (p q : List ℕ) → x < 2 ^ 64 → y < 2 ^ 64 → Low p → Low q → decimal x ++ p ≡ decimal y ++ q → (x ≡ y) × (p ≡ q)
number-same x y p q l m a b e =
    let s = decimal_injective x y l m (digits-same (decimal x) (decimal y) p q (high-decimal x l) (high-decimal y m) a b e) in
    (s, append_cancel_left (decimal x) p q (rw (← s) at e))

-- the numbers of a name after its first
abbrev more_text : Name → List ℕ
more_text n = flat_map (λ k. 46 ∷ decimal k) n

low-more : (n : Name) (p : List ℕ) → Low (more_text n ++ 32 ∷ p)
unfolding Low
low-more [] p = omega arith
low-more (k ∷ n) p = omega arith

child-low : (k : ℕ) → is_child_number k ≡ true → k < 2 ^ 64
child-low k h = let p = and_parts (nat_le 1 k) (nat_le k 100000) h in omega (arith, leb-true k 100000 p.1)

more-same : (n m : Name) (p q : List ℕ) → list_all is_child_number n ≡ true → list_all is_child_number m ≡ true → more_text n ++ 32 ∷ p ≡ more_text m ++ 32 ∷ q → n ≡ m
more-same [] [] p q h g e = refl
more-same [] (k ∷ m) p q h g e = cc
more-same (k ∷ n) [] p q h g e = cc
more-same (k ∷ n) (j ∷ m) p q h g e =
    let a = and_parts (is_child_number k) (list_all is_child_number n) h in
    let b = and_parts (is_child_number j) (list_all is_child_number m) g in
    let t : (decimal k ++ more_text n) ++ 32 ∷ p ≡ (decimal j ++ more_text m) ++ 32 ∷ q = cc in
    let s = number-same k j (more_text n ++ 32 ∷ p) (more_text m ++ 32 ∷ q) (child-low k a.0) (child-low j b.0) (low-more n p) (low-more m q) (simp append_assoc at t) in
    let r = more-same n m p q a.1 b.1 s.1 in
    ap₂ (λ x xs. x ∷ xs) s.0 r

name-same : (n m : Name) (p q : List ℕ) → is_task_name n ≡ true → is_task_name m ≡ true → name_text n ++ 32 ∷ p ≡ name_text m ++ 32 ∷ q → n ≡ m
name-same [] m p q h g e = cc
name-same (k ∷ n) [] p q h g e = cc
name-same (k ∷ n) (j ∷ m) p q h g e =
    let a = and_parts (k == 0) (nat_le (length n) 64 && list_all is_child_number n) h in
    let b = and_parts (j == 0) (nat_le (length m) 64 && list_all is_child_number m) g in
    let same : k ≡ j = eqb-true k 0 a.0 ∙ sym (eqb-true j 0 b.0) in
    let t : decimal k ++ (more_text n ++ 32 ∷ p) ≡ decimal j ++ (more_text m ++ 32 ∷ q) = simp append_assoc at e in
    let u = append_cancel_left (decimal k) _ _ (rw (← same) at t) in
    let n-children = (and_parts (nat_le (length n) 64) (list_all is_child_number n) a.1).1 in
    let m-children = (and_parts (nat_le (length m) 64) (list_all is_child_number m) b.1).1 in
    ap₂ (λ x xs. x ∷ xs) same (more-same n m p q n-children m-children u)

abbrev first-byte : List ℕ → ℕ
first-byte [] = 0
first-byte (b ∷ bs) = b

-- a word of an actor, and a space after it
actor-same : (a b : Actor) (p q : List ℕ) → is_actor a ≡ true → is_actor b ≡ true → actor_text a ++ 32 ∷ p ≡ actor_text b ++ 32 ∷ q → a ≡ b
unfolding Low
actor-same Start Start p q k l e = refl
actor-same Listener Listener p q k l e = refl
actor-same (Task n) (Task m) p q k l e = let t : name_text n ++ 32 ∷ p ≡ name_text m ++ 32 ∷ q = cc in ap Task (name-same n m p q k l t)
actor-same (Worker v) (Worker w) p q k l e =
    let t : decimal v ++ 32 ∷ p ≡ decimal w ++ 32 ∷ q = cc in
    let x = leb-true v 16 k in
    let y = leb-true w 16 l in
    ap Worker (number-same v w (32 ∷ p) (32 ∷ q) (omega arith) (omega arith) (omega arith) (omega arith) t).0
actor-same a b p q k l e = absurd (omega (arith, ap first-byte e))

line-same : (place : ℕ) (d e : Event) (x y : List ℕ) → is_actor d.who ≡ true → is_actor e.who ≡ true → event_line place d ++ x ≡ event_line place e ++ y → d.who ≡ e.who
line-same place d e x y k l q =
    let t : decimal place ++ (32 ∷ (actor_text d.who ++ (32 ∷ (what_text d.what ++ 10 ∷ x)))) ≡ decimal place ++ (32 ∷ (actor_text e.who ++ (32 ∷ (what_text e.what ++ 10 ∷ y)))) = simp append_assoc at q in
    let u = append_cancel_left (decimal place) _ _ t in
    let v : actor_text d.who ++ (32 ∷ (what_text d.what ++ 10 ∷ x)) ≡ actor_text e.who ++ (32 ∷ (what_text e.what ++ 10 ∷ y)) = cc in
    actor-same d.who e.who (what_text d.what ++ 10 ∷ x) (what_text e.what ++ 10 ∷ y) k l v

is-actor : (S : System) (R : Rules) (K : List Event) (e : Event) → IsStep S R K e → is_actor e.who ≡ true
is-actor S R K e r = grind arith

-- from the oldest line on: equal events so far, and an equal actor, make an equal event
lines-fix : (S : System) (R : Rules) (K L : List Event) (x y : List ℕ) → IsLegal S R K → IsLegal S R L → length K ≡ length L
    → lines_of journal_line K ++ x ≡ lines_of journal_line L ++ y → K ≡ L
unfolding lines_of
lines-fix S R [] [] x y p q l t = refl
lines-fix S R [] (e ∷ L) x y p q l t = absurd (omega arith)
lines-fix S R (d ∷ K) [] x y p q l t = absurd (omega arith)
lines-fix S R (d ∷ K) (e ∷ L) x y p q l t =
    let u : lines_of journal_line K ++ (event_line (length K) d ++ x) ≡ lines_of journal_line L ++ (event_line (length L) e ++ y) =
    sym (append_assoc (lines_of journal_line K) _ _) ∙ (t ∙ append_assoc (lines_of journal_line L) _ _) in
    let r = lines-fix S R K L (event_line (length K) d ++ x) (event_line (length L) e ++ y) p.1 q.1 (omega arith) u in
    let v : IsStep S R K e = rw (← r) at q.0 in
    let w = append_cancel_left (lines_of journal_line K) _ _ (rw (← r) at u) in
    ap₂ (λ z zs. z ∷ zs) (same-step S R K d e p.0 v (line-same (length K) d e x y (is-actor S R K d p.0) (is-actor S R K e v) w)) r

pub fixed_by_journal : (P : Policy) (S : Script) → FixedByJournal P S
unfolding Low
fixed_by_journal P S K L p q t =
    let u : codes "journal " ++ (decimal (length K) ++ (10 ∷ lines_of journal_line K)) ≡ codes "journal " ++ (decimal (length L) ++ (10 ∷ lines_of journal_line L)) = simp append_assoc at t in
    let v = append_cancel_left (codes "journal ") _ _ u in
    let n = number-same (length K) (length L) _ _ p.1 q.1 (omega arith) (omega arith) v in
    let w : lines_of journal_line K ≡ lines_of journal_line L = cc in
    lines-fix _ _ K L [] [] p.0 q.0 n.0 (ap (λ x. x ++ []) w)
