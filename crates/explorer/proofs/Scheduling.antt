-- The schedule of the events so far, whose lines are kept the oldest first, with one step more; and how many steps it has.
-- By the lines but the newest, and by induction on the events that are left.
use Rattle.std.proofs.Common.{◌≡◌, ℕ, ◌+◌, ◌<◌, ◌≤◌, nat_le, leb-true, leb-false, length-set, Bool, true, false, if◌then◌else◌, List, [], ◌∷◌, ◌++◌, length, get_or, set, take, drop, reverse, Some, None, refl, sym, ap, ◌∙◌, subst, arith}
use Rattle.std.proofs.lemmas.List.{get_or_read, reverse-append, reverse-reverse, take-append-drop, take_all, take_more_set}
use Rattle.std.proofs.lemmas.List.Sorted.{IsPermutation-reverse, sum_by-IsPermutation}
use Rattle.std.proofs.lemmas.List.Sums.{sum_by-cons}
use Rattle.hist_model.proofs.Scans.{past_more, reverse_push}
use Rattle.hist_model.specs.ScriptRules.{steps_of}
use Rattle.hist_model.specs.declared.event.Actor.{Actor}
use Rattle.hist_model.specs.declared.event.Actor.TheVariants.{Listener, Start, Task, Worker}
use Rattle.hist_model.specs.declared.event.Event.{Event}
use Rattle.hist_model.specs.declared.script.Step.{Step}
use Rattle.delay_bounded.specs.Schedules.{is_same, schedule_of, with_one, with_step_of}
use Rattle.explorer.specs.Schedules.{is_scheduled}
use Rattle.explorer.specs.Tallies.{most_steps, playing}

-- ---- The newest line

newest : (xs : List Step) (i : ℕ) (d : Step) → length xs ≡ i + 1 → reverse xs ≡ get_or xs i d ∷ reverse (take i xs)
newest xs i d e = ap reverse (sym (take_all (i + 1) xs (omega arith))) ∙ past_more xs i d (omega arith)

counted_on : (a : Actor) (s : Step) (L : List Step) → is_same s.who a ≡ true → with_one a (s ∷ L) ≡ record { who = s.who; count = s.count + 1 } ∷ L
counted_on a s L e = rw e refl

-- the newest line has one more step
pub one_more : (a : Actor) (xs : List Step) (i : ℕ) (p q : Step) → length xs ≡ i + 1 → p ≡ get_or xs i p → q ≡ get_or xs i q → is_same p.who a ≡ true → reverse (set xs i (record { who = q.who; count = q.count + 1 })) ≡ with_one a (reverse xs)
one_more a xs i p q e first second same =
    let line : reverse xs ≡ q ∷ reverse (take i xs) = newest xs i q e ∙ ap (λ (t : Step). t ∷ reverse (take i xs)) (sym second) in
    let both : p ≡ q = get_or_read xs i p (omega arith) first q ∙ sym second in
    let next : Step = record { who = q.who; count = q.count + 1 } in
    let all : set xs i next ≡ take i xs ++ next ∷ [] = sym (take_all (i + 1) (set xs i next) (simp length-set (omega arith))) ∙ take_more_set xs i next (omega arith) in
    ap reverse all ∙ (reverse_push (take i xs) next ∙ rw line (sym (counted_on a q (reverse (take i xs)) (subst (λ (t : Step). is_same t.who a ≡ true) both same))))

pub first : (a : Actor) (xs : List Step) → length xs ≡ 0 → reverse (xs ++ record { who = a; count = 1 } ∷ []) ≡ with_one a (reverse xs)
first a [] e = refl
first a (s ∷ xs) e = absurd (omega arith)

-- ---- How many steps

pub steps_either_way : (xs : List Step) → steps_of (reverse xs) ≡ steps_of xs
steps_either_way xs = sum_by-IsPermutation (λ (s : Step). s.count) xs (reverse xs) (IsPermutation-reverse xs)

steps_first : (s : Step) (L : List Step) → steps_of (s ∷ L) ≡ s.count + steps_of L
steps_first s L = sum_by-cons (λ (t : Step). t.count) s L

steps_by : (a : Actor) (s : Step) (L : List Step) (b : Bool) → is_same s.who a ≡ b → steps_of (with_one a (s ∷ L)) ≡ steps_of (s ∷ L) + 1
steps_by a s L true e = rw e (omega (arith, steps_first s L, steps_first (record { who = s.who; count = s.count + 1 }) L))
steps_by a s L false e = rw e (omega (arith, steps_first (record { who = a; count = 1 }) (s ∷ L)))

steps_one : (a : Actor) (L : List Step) → steps_of (with_one a L) ≡ steps_of L + 1
steps_one a [] = omega (arith, steps_first (record { who = a; count = 1 }) [])
steps_one a (s ∷ L) = steps_by a s L (is_same s.who a) refl

-- ---- One more event

scheduled : (a : Actor) (L : List Step) → is_scheduled a ≡ true → with_step_of a L ≡ with_one a L
scheduled (Task n) L e = refl
scheduled (Worker w) L e = refl
scheduled Start L e = cc
scheduled Listener L e = cc

unscheduled : (a : Actor) (L : List Step) → is_scheduled a ≡ false → with_step_of a L ≡ L
unscheduled (Task n) L e = cc
unscheduled (Worker w) L e = cc
unscheduled Start L e = refl
unscheduled Listener L e = refl

module _ (es : List Event) (i : ℕ) (d : Event) (l : i < length es) where
  -- of an actor that is scheduled
  pub with_event : is_scheduled (get_or es i d).who ≡ true → schedule_of (reverse (take (i + 1) es)) ≡ with_one (get_or es i d).who (schedule_of (reverse (take i es)))
  unfolding schedule_of
  with_event e = ap schedule_of (past_more es i d l) ∙ scheduled (get_or es i d).who (schedule_of (reverse (take i es))) e

  -- of another one
  pub past_event : is_scheduled (get_or es i d).who ≡ false → schedule_of (reverse (take (i + 1) es)) ≡ schedule_of (reverse (take i es))
  unfolding schedule_of
  past_event e = ap schedule_of (past_more es i d l) ∙ unscheduled (get_or es i d).who (schedule_of (reverse (take i es))) e

  pub steps_with : is_scheduled (get_or es i d).who ≡ true → steps_of (schedule_of (reverse (take (i + 1) es))) ≡ steps_of (schedule_of (reverse (take i es))) + 1
  steps_with e = ap steps_of (with_event e) ∙ steps_one (get_or es i d).who (schedule_of (reverse (take i es)))

  -- so the lines are those of one event more
  pub line_added : (old new : List Step) → is_scheduled (get_or es i d).who ≡ true → reverse old ≡ schedule_of (reverse (take i es)) → reverse new ≡ with_one (get_or es i d).who (reverse old)
      → (reverse new ≡ schedule_of (reverse (take (i + 1) es))) × (steps_of new ≡ steps_of old + 1)
  line_added old new e kept added = (
    added ∙ (ap (with_one (get_or es i d).who) kept ∙ sym (with_event e)),
    omega (arith, steps_either_way new, ap steps_of added, steps_one (get_or es i d).who (reverse old), steps_either_way old),
  )

-- ---- All events

steps_more : (a : Actor) (L : List Step) → steps_of L ≤ steps_of (with_step_of a L)
steps_more (Task n) L = omega (arith, steps_one (Task n) L)
steps_more (Worker w) L = omega (arith, steps_one (Worker w) L)
steps_more Start L = omega arith
steps_more Listener L = omega arith

steps_later : (A K : List Event) → steps_of (schedule_of K) ≤ steps_of (schedule_of (A ++ K))
unfolding schedule_of
steps_later [] K = omega arith
steps_later (e ∷ A) K = omega (arith, steps_later A K, steps_more e.who (schedule_of (A ++ K)))

steps_part : (es : List Event) (n : ℕ) → steps_of (schedule_of (reverse (take n es))) ≤ steps_of (schedule_of (reverse es))
steps_part es n =
    let split : reverse es ≡ reverse (drop n es) ++ reverse (take n es) = ap reverse (sym (take-append-drop n es)) ∙ reverse-append (take n es) (drop n es) in
    rw split (steps_later (reverse (drop n es)) (reverse (take n es)))

-- too many for a script
too_many : (L : List Step) → most_steps < steps_of L → (if nat_le (steps_of L) most_steps then Some (reverse L) else None) ≡ None
too_many L l = by (nat_le (steps_of L) most_steps) refl
  where
    by : (b : Bool) → nat_le (steps_of L) most_steps ≡ b → (if b then Some (reverse L) else None) ≡ None
    by true e = absurd (omega (arith, leb-true (steps_of L) most_steps e))
    by false e = refl

pub unplayed : (H : List Event) (es : List Event) → H ≡ reverse es → (i : ℕ) (d : Event) → i < length es → is_scheduled (get_or es i d).who ≡ true → most_steps ≤ steps_of (schedule_of (reverse (take i es))) → playing H ≡ None
unplayed H es is i d l e m =
    rw is (too_many (schedule_of (reverse es)) (omega (arith, steps_with es i d l e, steps_part es (i + 1))))

-- or not
few_enough : (L : List Step) → steps_of L ≤ most_steps → (if nat_le (steps_of L) most_steps then Some (reverse L) else None) ≡ Some (reverse L)
few_enough L l = by (nat_le (steps_of L) most_steps) refl
  where
    by : (b : Bool) → nat_le (steps_of L) most_steps ≡ b → (if b then Some (reverse L) else None) ≡ Some (reverse L)
    by true e = refl
    by false e = absurd (omega (arith, leb-false (steps_of L) most_steps e))

pub played : (H : List Event) (es : List Event) → H ≡ reverse es → (n : ℕ) → n ≡ length es → (lines : List Step) → reverse lines ≡ schedule_of (reverse (take n es)) → steps_of (schedule_of (reverse (take n es))) ≤ most_steps → Some lines ≡ playing H
played H es is n all lines kept few =
    let whole : take n es ≡ es = take_all n es (omega arith) in
    let here : reverse lines ≡ schedule_of H = kept ∙ rw (whole, is) refl in
    let less : steps_of (schedule_of H) ≤ most_steps = rw (is, ← whole) few in
    sym (few_enough (schedule_of H) less ∙ ap Some (ap reverse (sym here) ∙ reverse-reverse lines))
