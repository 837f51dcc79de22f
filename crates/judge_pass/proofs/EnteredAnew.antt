-- From which place on a task took no other steps than those that lead to a call anew.
-- By induction over the events, of which one fewer is looked at each time.
use Rattle.std.proofs.Common.{◌≡◌, ℕ, zero, suc, add-one, ◌+◌, ◌<◌, ◌≤◌, Bool, true, false, List, [], ◌∷◌, length, get_or, take, reverse, ℤ, refl, ap, ◌∙◌, arith, inl, inr}
use Rattle.std.specs.Prelude.{◌&&◌, ◌||◌, not, nat_le, nat_lt}
use Rattle.std.proofs.Math.Seq.{take-length}
use Rattle.std.proofs.lemmas.Bool.{cases_order}
use Rattle.std.proofs.lemmas.Bool.Decides.{nat_tests}
use Rattle.std.proofs.lemmas.List.{length-reverse, length-take}
use Rattle.hist_model.proofs.Scans.{event_at_past, past_more}
use Rattle.hist_model.specs.Calls.{actor_in, caller}
use Rattle.hist_model.specs.Look.{before, is_task, Name, task_name}
use Rattle.hist_model.specs.declared.event.Event.{Event}
use Rattle.mediation.proofs.KernelCalls.{before-all, before-older}
use Rattle.broker_verdict.specs.Answers.{enters_again, only_enters_again}
use Rattle.judge_pass.proofs.CallersGroup.{some_element}

-- the events that were kept up to a place are those before it
length-past : (xs : List Event) (n : ℕ) → n ≤ length xs → length (reverse (take n xs)) ≡ n
length-past xs n h = simp (length-reverse, length-take) (omega arith)

taken-before : (xs : List Event) (c m : ℕ) → c ≤ m → m ≤ length xs → before (reverse (take m xs)) c ≡ reverse (take c xs)
taken-before xs c zero h l = let q : c ≡ zero = omega (arith, h) in rw q (before-all (reverse (take zero xs)) zero (omega (arith, length-past xs zero l)))
taken-before xs c (suc m) h l =
    elim (cases_order c (suc m)) [
      | inl q ↦ rw q (before-all (reverse (take (suc m) xs)) (suc m) (omega (arith, length-past xs (suc m) l)))
      | inr r ↦ elim r [ inl fewer ↦ older fewer (taken-before xs c m (omega (arith, fewer)) (omega (arith, l))) | inr more ↦ absurd (omega (arith, h, more)) ]
    ]
  where
    older : c < suc m → before (reverse (take m xs)) c ≡ reverse (take c xs) → before (reverse (take (suc m) xs)) c ≡ reverse (take c xs)
    older fewer ih =
        let x = some_element xs m (omega (arith, l)) in
        let more : reverse (take (suc m) xs) ≡ get_or xs m x ∷ reverse (take m xs) = rw add-one at (past_more xs m x (omega (arith, l))) in
        rw (more, before-older (get_or xs m x) (reverse (take m xs)) c (omega (arith, fewer, length-past xs m (omega (arith, l))))) ih

-- what was before a place, and who stands there
pub before-past : (xs : List Event) (c : ℕ) → c ≤ length xs → before (reverse xs) c ≡ reverse (take c xs)
before-past xs c h = rw take-length at (taken-before xs c (length xs) h (omega arith))

pub caller-past : (xs : List Event) (e : Event) (c : ℕ) → c < length xs → caller (reverse xs) c ≡ task_name (get_or xs c e).who
caller-past xs e c h = ap actor_in (event_at_past xs e c h)

-- behind all events none is another one
pub none-behind : (K : List Event) (d : ℕ) (n : Name) (nr : ℤ) (args : List ℕ) → length K ≤ d → only_enters_again K d n nr args ≡ true
unfolding only_enters_again
none-behind [] d n nr args h = refl
none-behind (e ∷ K) d n nr args h = let l : nat_lt (length K) d ≡ true = grind (arith, nat_tests) in rw l refl

module _ (xs : List Event) (i : ℕ) (e : Event) (n : Name) (nr : ℤ) (args : List ℕ) (low : i < length xs) (is : e ≡ get_or xs i e) where
  abbrev passes : Bool
  passes = not (is_task e.who n) || enters_again nr args e.what

  abbrev only : ℕ → ℕ → Bool
  only m d = only_enters_again (reverse (take m xs)) d n nr args

  newest : (d : ℕ) → only (i + 1) d ≡ (nat_lt i d || (passes && only i d))
  unfolding only_enters_again
  newest d = rw (past_more xs i e low, ← is, length-past xs i (omega arith)) refl

  -- the event is passed
  pub one-fewer : (d m : ℕ) (all : Bool) → m ≡ i + 1 → passes ≡ true → all ≡ (nat_le m d || only m d) → all ≡ (nat_le i d || only i d)
  one-fewer d m all next h q =
      let same : all ≡ (nat_le (i + 1) d || only (i + 1) d) = rw next at q in
      same ∙ rw (newest d, h) (by (nat_lt i d) (nat_le i d) refl refl)
    where
      by : (a b : Bool) → nat_lt i d ≡ a → nat_le i d ≡ b → (nat_le (i + 1) d || (nat_lt i d || only i d)) ≡ (nat_le i d || only i d)
      by true true x y = rw (x, y) (or-all (nat_le (i + 1) d))
        where
          or-all : (c : Bool) → (c || true) ≡ true
          or-all true = refl
          or-all false = refl
      by true false x y = absurd (grind (arith, nat_tests))
      by false true x y =
          let past : only i d ≡ true = none-behind (reverse (take i xs)) d n nr args (grind (arith, nat_tests, length-past xs i (omega arith))) in
          let no : nat_le (i + 1) d ≡ false = grind (arith, nat_tests) in
          rw (x, y, no, past) refl
      by false false x y = let no : nat_le (i + 1) d ≡ false = grind (arith, nat_tests) in rw (x, y, no) refl

  -- the event isn't
  pub first-found : (d m : ℕ) (all : Bool) → m ≡ i + 1 → passes ≡ false → all ≡ (nat_le m d || only m d) → all ≡ nat_le m d
  first-found d m all next h q =
      let same : all ≡ (nat_le (i + 1) d || only (i + 1) d) = rw next at q in
      rw next (same ∙ rw (newest d, h) (by (nat_lt i d) refl))
    where
      by : (a : Bool) → nat_lt i d ≡ a → (nat_le (i + 1) d || (nat_lt i d || false)) ≡ nat_le (i + 1) d
      by true x = let yes : nat_le (i + 1) d ≡ true = grind (arith, nat_tests) in rw (x, yes) refl
      by false x = let no : nat_le (i + 1) d ≡ false = grind (arith, nat_tests) in rw (x, no) refl

-- at first nothing is passed
pub at-first : (xs : List Event) (place d : ℕ) (n : Name) (nr : ℤ) (args : List ℕ) → place ≤ length xs
    → only_enters_again (reverse (take place xs)) d n nr args ≡ (nat_le place d || only_enters_again (reverse (take place xs)) d n nr args)
at-first xs place d n nr args h = by (nat_le place d) refl
  where
    by : (a : Bool) → nat_le place d ≡ a → only_enters_again (reverse (take place xs)) d n nr args ≡ (nat_le place d || only_enters_again (reverse (take place xs)) d n nr args)
    by true x =
        let past = none-behind (reverse (take place xs)) d n nr args (grind (arith, nat_tests, length-past xs place h)) in
        rw (x, past) refl
    by false x = rw x refl
