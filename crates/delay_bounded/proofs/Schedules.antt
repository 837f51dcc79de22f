-- The schedule of a history plays it: its lines, the oldest first, lead from the start to the same events.
-- By induction on the events: one step more of an actor is one more of its last line, or a line more.
use Rattle.std.proofs.Common.{◌≡◌, ℕ, zero, suc, ◌+◌, Bool, true, false, if◌then◌else◌, List, [], ◌∷◌, ◌++◌, reverse, refl, ◌∙◌, ap, add-one, eqb-true}
use Rattle.std.proofs.lemmas.Bool.{and_parts}
use Rattle.std.proofs.lemmas.Grind.{reverse_onto}
use Rattle.hist_model.specs.Legal.{started, with_schedule, with_step, with_steps}
use Rattle.hist_model.specs.declared.event.Actor.{Actor}
use Rattle.hist_model.specs.declared.event.Actor.TheVariants.{Listener, Start, Task, Worker}
use Rattle.hist_model.specs.declared.event.Event.{Event}
use Rattle.hist_model.specs.declared.policy.Policy.{Policy}
use Rattle.hist_model.specs.declared.script.Script.{Script}
use Rattle.hist_model.specs.declared.script.Step.{Step}
use Rattle.hist_model.proofs.Look.{name_eq-true}
use Rattle.delay_bounded.specs.Circle.{at_place, may_step}
use Rattle.delay_bounded.specs.Laws.{IsTurnByTurn}
use Rattle.delay_bounded.specs.Schedules.{is_same, schedule_of, with_one, with_step_of}

same_actor : (a b : Actor) → is_same a b ≡ true → a ≡ b
same_actor (Task m) (Task n) e = ap Task (name_eq-true m n e)
same_actor (Worker v) (Worker w) e = ap Worker (eqb-true v w e)
same_actor (Task m) (Worker w) e = cc
same_actor (Task m) Start e = cc
same_actor (Task m) Listener e = cc
same_actor (Worker v) (Task n) e = cc
same_actor (Worker v) Start e = cc
same_actor (Worker v) Listener e = cc
same_actor Start b e = cc
same_actor Listener b e = cc

-- one more line for it, or one step more in the last line
one_more : (K : List Event) (a : Actor) (steps : List Step) → may_step K a ≡ true → with_step_of a steps ≡ with_one a steps
one_more K (Task n) steps e = refl
one_more K (Worker w) steps e = refl
one_more K Start steps e = cc
one_more K Listener steps e = cc

module _ (P : Policy) (S : Script) where
  steps_more : (a : Actor) (n : ℕ) (K : List Event) → with_steps P S a (suc n) K ≡ with_step P S a (with_steps P S a n K)
  unfolding with_steps
  steps_more a zero K = refl
  steps_more a (suc n) K = steps_more a n (with_step P S a K)

  schedule_more : (lines : List Step) (s : Step) (K : List Event) → with_schedule P S (lines ++ s ∷ []) K ≡ with_steps P S s.who s.count (with_schedule P S lines K)
  unfolding with_schedule
  schedule_more [] s K = refl
  schedule_more (l ∷ lines) s K = schedule_more lines s (with_steps P S l.who l.count K)

  -- the schedule with these lines, the newest first
  newest_first : (s : Step) (more : List Step) (K : List Event) → with_schedule P S (reverse (s ∷ more)) K ≡ with_steps P S s.who s.count (with_schedule P S (reverse more) K)
  newest_first s more K = let onto : reverse (s ∷ more) ≡ reverse more ++ s ∷ [] = reverse_onto more s [] in rw onto (schedule_more (reverse more) s K)

  one_step : (a : Actor) (K : List Event) → with_steps P S a 1 K ≡ with_step P S a K
  unfolding with_steps
  one_step a K = refl

  with_line : (a : Actor) (s : Step) (more : List Step) (K : List Event) (b : Bool) → is_same s.who a ≡ b
      → with_schedule P S (reverse (if b then record { who = s.who; count = s.count + 1 } ∷ more else record { who = a; count = 1 } ∷ s ∷ more)) K ≡ with_step P S a (with_schedule P S (reverse (s ∷ more)) K)
  with_line a s more K true e =
      let same : s.who ≡ a = same_actor s.who a e in
      let longer : Step = record { who = s.who; count = s.count + 1 } in
      rw (newest_first longer more K, newest_first s more K, add-one, steps_more s.who s.count (with_schedule P S (reverse more) K), same) refl
  with_line a s more K false e =
      let line : Step = record { who = a; count = 1 } in
      newest_first line (s ∷ more) K ∙ one_step a (with_schedule P S (reverse (s ∷ more)) K)

  with_more : (a : Actor) (steps : List Step) (K : List Event) → with_schedule P S (reverse (with_one a steps)) K ≡ with_step P S a (with_schedule P S (reverse steps) K)
  unfolding with_schedule with_steps
  with_more a [] K = refl
  with_more a (s ∷ more) K = with_line a s more K (is_same s.who a) refl

  plays_first : (H : List Event) → H ≡ started S → with_schedule P S (reverse (schedule_of H)) (started S) ≡ H
  unfolding schedule_of with_schedule
  plays_first H e = rw e refl

  plays_on : (H K : List Event) (a : Actor) → H ≡ with_step P S a K → may_step K a ≡ true → with_schedule P S (reverse (schedule_of K)) (started S) ≡ K → with_schedule P S (reverse (schedule_of H)) (started S) ≡ H
  unfolding schedule_of
  plays_on H K a is may before = rw (is, one_more K a (schedule_of K) may, with_more a (schedule_of K) (started S), before) refl

  pub plays : (W : ℕ) (K : List Event) → IsTurnByTurn P S W K → with_schedule P S (reverse (schedule_of K)) (started S) ≡ K
  plays W [] t = absurd t
  plays W (e ∷ []) t = plays_first (e ∷ []) t
  plays W (e ∷ f ∷ K) (q, l, able, is, t) = plays_on (e ∷ f ∷ K) (f ∷ K) (at_place (f ∷ K) q) is (and_parts _ _ able).0 (plays W (f ∷ K) t)
