-- The line of an event tells its actor, and a title its number: what is read of each is what was written.
-- By splitting a line at its spaces and a name at its points, which numbers lack, and by the digits of a number.
use Rattle.std.proofs.Common.{◌≡◌, ℕ, ◌-◌, ◌<◌, ◌≤◌, ◌^◌, Bool, true, false, ◌&&◌, List, [], ◌∷◌, ◌++◌, length, get_or, take, drop, Some, refl, ap, ap₂, ◌∙◌, append_assoc, append-nil, rules, arith}
use Rattle.std.specs.Prelude.{◌==◌, nat_le, All, map, decimal, codes}
use Rattle.std.specs.List.{flat_map, list_all, slice_split}
use Rattle.std.proofs.lemmas.Bool.{and_parts, eqb-true, leb-true, le-leb}
use Rattle.std.proofs.lemmas.Fmt.{decimal_nonempty, digits_decimal, digits_value-decimal, length-decimal-le}
use Rattle.std.proofs.lemmas.List.{length-append, take_at}
use Rattle.std.proofs.lemmas.List.Elements.{All-cons, All-nil}
use Rattle.std.proofs.lemmas.List.Splits.{slice_split_at, slice_split_none}
use Rattle.std.proofs.lemmas.Str.Parse.{IsNumeralModel, numerals_by_fold}
use Rattle.hist_model.specs.Look.{Name}
use Rattle.hist_model.specs.Names.{is_child_number, is_task_name}
use Rattle.hist_model.specs.ReportJournal.{event_line, title, what_text}
use Rattle.hist_model.specs.ReportWords.{actor_text, name_text}
use Rattle.hist_model.specs.Steps.{is_actor}
use Rattle.hist_model.specs.Words.{is_digit, number_after, number_between}
use Rattle.hist_model.specs.declared.event.Actor.{Actor}
use Rattle.hist_model.specs.declared.event.Actor.TheVariants.{Start, Task, Worker, Listener}
use Rattle.hist_model.specs.declared.event.Event.{Event}
use Rattle.audit_check.specs.Actors.{actor_in, actor_of, number_in, numbers_in, task_of, worker_of}
use Rattle.audit_check.specs.Reading.{title_word}
use Rattle.audit_check.proofs.Lines.{lacks, lacks_rest}
use Rattle.audit_check.proofs.Plain.{lacks_decimal, lacks_name}

-- ---- Numbers

own : IsNumeralModel (λ ds. list_all is_digit ds ≡ true) (number_after 0)
unfolding number_after
own = numerals_by_fold _ (search rules) number_after (search rules)

-- a number is read as it was written
pub number_read : (low high n : ℕ) → low ≤ n → n ≤ high → n < 2 ^ 64 → number_between low high (decimal n) ≡ Some n
number_read low high n l h small =
    let v : number_after 0 (decimal n) ≡ n = digits_value-decimal own n small in
    let d : list_all is_digit (decimal n) ≡ true = digits_decimal own n small in
    let one : nat_le 1 (length (decimal n)) ≡ true = le-leb 1 (length (decimal n)) (decimal_nonempty n small) in
    let few : nat_le (length (decimal n)) 20 ≡ true = le-leb (length (decimal n)) 20 (length-decimal-le 20 n (omega arith) (omega arith) small) in
    let m : nat_le low n ≡ true = le-leb low n l in
    let k : nat_le n high ≡ true = le-leb n high h in
    rw (d, one, few, v, m, k) refl

-- ---- Words

split-all : (c : ℕ) (xs : List ℕ) → lacks c xs ≡ true → All (λ b. (b == c) ≡ false) xs
split-all c [] h = All-nil (λ b. (b == c) ≡ false)
split-all c (b ∷ xs) h = let p = lacks_rest c b xs h in All-cons (λ b. (b == c) ≡ false) b xs p.0 (split-all c xs p.1)

split-first : (c : ℕ) (xs ys : List ℕ) → (c == c) ≡ true → lacks c xs ≡ true → slice_split (λ b. b == c) (xs ++ c ∷ ys) ≡ xs ∷ slice_split (λ b. b == c) ys
split-first c xs ys same h = slice_split_at (λ b. b == c) xs c ys (split-all c xs h) same

pieces : (k : ℕ) (n : Name) → slice_split (λ b. b == 46) (decimal k ++ flat_map (λ j. 46 ∷ decimal j) n) ≡ decimal k ∷ map decimal n
pieces k [] = ap (slice_split (λ b. b == 46)) (append-nil (decimal k)) ∙ slice_split_none (λ b. b == 46) (decimal k) (split-all 46 (decimal k) (lacks_decimal 46 k (omega arith)))
pieces k (j ∷ n) =
    split-first 46 (decimal k) (decimal j ++ flat_map (λ j. 46 ∷ decimal j) n) refl (lacks_decimal 46 k (omega arith)) ∙ ap (λ rest. decimal k ∷ rest) (pieces j n)

number-in : (k : ℕ) → k ≤ 100000 → number_in (decimal k) ≡ k
number-in k l = rw (number_read 0 100000 k (omega arith) l (omega arith)) refl

children-in : (n : Name) → list_all is_child_number n ≡ true → map number_in (map decimal n) ≡ n
children-in [] h = refl
children-in (k ∷ n) h =
    let p = and_parts (is_child_number k) (list_all is_child_number n) h in
    let q = and_parts (nat_le 1 k) (nat_le k 100000) p.0 in
    ap₂ (λ x xs. x ∷ xs) (number-in k (leb-true k 100000 q.1)) (children-in n p.1)

name-in : (n : Name) → is_task_name n ≡ true → numbers_in (name_text n) ≡ n
name-in [] h = cc
name-in (k ∷ n) h =
    let p = and_parts (k == 0) (nat_le (length n) 64 && list_all is_child_number n) h in
    let q = and_parts (nat_le (length n) 64) (list_all is_child_number n) p.1 in
    let z : k ≡ 0 = eqb-true k 0 p.0 in
    ap (map number_in) (pieces k n) ∙ ap₂ (λ x xs. x ∷ xs) (number-in k (omega arith)) (children-in n q.1)

-- ---- Actors

word-of : (a : Actor) → is_actor a ≡ true → actor_of (actor_text a) ≡ Some a
word-of Start h = refl
word-of Listener h = refl
word-of (Task n) h = rw (name-in n h, h) refl
word-of (Worker w) h = let l = leb-true w 16 h in rw (number_read 0 16 w (omega arith) l (omega arith)) refl

lacks-space : (a : Actor) → lacks 32 (actor_text a) ≡ true
lacks-space Start = refl
lacks-space Listener = refl
lacks-space (Task n) = lacks_name 32 n (omega arith)
lacks-space (Worker w) = lacks_decimal 32 w (omega arith)

-- the line of an event tells its actor
pub actor_told : (place : ℕ) (e : Event) → is_actor e.who ≡ true → actor_in (event_line place e) ≡ Some e.who
unfolding actor_in
actor_told place e h =
    let p : (b : ℕ) → Bool = (λ b. b == 32) in
    let rest = what_text e.what ++ 10 ∷ [] in
    let text : event_line place e ≡ decimal place ++ 32 ∷ (actor_text e.who ++ 32 ∷ rest) = simp append_assoc in
    let split : slice_split p (event_line place e) ≡ decimal place ∷ actor_text e.who ∷ slice_split p rest =
    ap (slice_split p) text ∙ split-first 32 (decimal place) (actor_text e.who ++ 32 ∷ rest) refl (lacks_decimal 32 place (omega arith))
    ∙ ap (λ more. decimal place ∷ more) (split-first 32 (actor_text e.who) rest refl (lacks-space e.who)) in
    ap (λ words. actor_of (get_or words 1 [])) split ∙ word-of e.who h

-- what a line tells is an actor
pub told_is_actor : (line : List ℕ) (a : Actor) → actor_in line ≡ Some a → is_actor a ≡ true
unfolding actor_in
told_is_actor line a q = by (get_or (slice_split (λ b. b == 32) line) 1 []) q
  where
    task : (n : Name) → task_of n ≡ Some a → is_actor a ≡ true
    task n q = grind arith

    worker : (word : List ℕ) → worker_of (number_between 0 16 word) ≡ Some a → is_actor a ≡ true
    worker word q = grind arith

    by : (word : List ℕ) → actor_of word ≡ Some a → is_actor a ≡ true
    by [] q = cc
    by (b ∷ word) q = grind (arith, task, worker)

-- ---- The title

pub title_told : (n : ℕ) → 1 ≤ n → n < 2 ^ 64 → number_between 1 (2 ^ 64 - 1) (title_word (title (codes "journal") n)) ≡ Some n
title_told n l h =
    let front = codes "journal " ++ decimal n in
    let t : take (length (front ++ 10 ∷ []) - 1) (front ++ 10 ∷ []) ≡ front = take_at front (10 ∷ []) (length (front ++ 10 ∷ []) - 1) (omega (arith, length-append front (10 ∷ []))) in
    ap (λ text. number_between 1 (2 ^ 64 - 1) (drop 8 text)) t ∙ number_read 1 (2 ^ 64 - 1) n l (omega arith) h
