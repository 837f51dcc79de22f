-- The places of a schedule that is played, and what is played at its end.
-- By the definition of what a schedule plays, from the steps of a line and the lines that are left.
use Rattle.std.proofs.Common.{◌≡◌, ℕ, suc, ◌+◌, ◌-◌, ◌<◌, ◌≤◌, true, false, List, ◌∷◌, length, drop, get_or, refl, sym, ap, add-one, drop-cons, arith, Option, Some, None}
use Rattle.std.specs.Prelude.{slice_get}
use Rattle.std.proofs.lemmas.List.{drop_all}
use Rattle.std.proofs.lemmas.Option.{get_or_from_slice_get, slice_get_within}
use Rattle.hist_model.specs.Legal.{played, started, with_schedule, with_step, with_steps}
use Rattle.hist_model.specs.Look.{ev}
use Rattle.hist_model.specs.Steps.{step}
use Rattle.hist_model.specs.declared.event.Actor.{Actor}
use Rattle.hist_model.specs.declared.event.Actor.TheVariants.{Listener}
use Rattle.hist_model.specs.declared.event.Event.{Event}
use Rattle.hist_model.specs.declared.event.What.TheVariants.{Close}
use Rattle.hist_model.specs.declared.history.Setup.{Setup}
use Rattle.hist_model.specs.declared.policy.Policy.{Policy}
use Rattle.hist_model.specs.declared.script.Script.{Script}
use Rattle.hist_model.specs.declared.script.Step.{Step}
use Rattle.broker_machine.proofs.Tasks.{found_still}
use Rattle.worker_gate.specs.Scheduling.{IsLine, IsLineAt, IsPlace, Moves, with_rest}
use Rattle.worker_gate.specs.declared.schedule.Line.{Line}
use Rattle.worker_gate.specs.declared.scheduled.Place.{Place}

module _ (P : Policy) (S : Script) where
  -- a step of the line in hand
  step_less : (lines : List Step) (a : Actor) (n : ℕ) (K : List Event) → 0 < n → with_schedule P S lines (with_steps P S a (n - 1) (with_step P S a K)) ≡ with_schedule P S lines (with_steps P S a n K)
  unfolding with_steps
  step_less lines a n K h = let s : n ≡ suc (n - 1) = omega arith in ap (λ (m : ℕ). with_schedule P S lines (with_steps P S a m K)) (sym s)

  -- behind it the next one
  line_less : (lines : List Step) (i : ℕ) (s : Step) (a : Actor) (n : ℕ) (K : List Event) → n ≡ 0 → slice_get lines i ≡ Some s → with_schedule P S (drop (i + 1) lines) (with_steps P S s.who s.count K) ≡ with_schedule P S (drop i lines) (with_steps P S a n K)
  unfolding with_schedule with_steps
  line_less lines i s a n K none is =
      let inside : i < length lines = slice_get_within lines i s is in
      let same : get_or lines i s ≡ s = get_or_from_slice_get lines i s s is in
      let rest : drop i lines ≡ s ∷ drop (i + 1) lines = rw (add-one, drop-cons lines i s) (ap (λ (t : Step). t ∷ drop (suc i) lines) same) in
      rw (none, rest) refl

  -- none is left
  none_left : (lines : List Step) (i : ℕ) (a : Actor) (n : ℕ) (K : List Event) → n ≡ 0 → length lines ≤ i → with_schedule P S (drop i lines) (with_steps P S a n K) ≡ K
  unfolding with_schedule with_steps
  none_left lines i a n K none over = rw (none, drop_all i lines over) refl

  -- all are left
  pub all_left : (a : Actor) (K : List Event) → with_schedule P S (drop 0 S.schedule) (with_steps P S a 0 K) ≡ with_schedule P S S.schedule K
  unfolding with_steps
  all_left a K = refl

module _ (made : Setup) (p : Place) (K : List Event) (here : IsPlace made K p) where
  -- a turn that makes a step
  pub step_moves : (H : List Event) → 0 < p.line.left → H ≡ with_step made.policy made.script p.line.who K → Moves made p K (record p { line = record p.line { left = p.line.left - 1 } }) H
  step_moves H left is = record {
    place = record { scheduled = here.scheduled; found = rw is (found_still _ _ K p.line.who p.line.task here.found); over = λ o. (omega (arith, (here.over o).0), (here.over o).1) };
    rest = rw is (step_less made.policy made.script (drop p.next made.script.schedule) p.line.who p.line.left K left);
    fewer = omega arith;
  }

  module _ (done : p.line.left ≡ 0) (goes_on : p.over ≡ false) where
    -- one that takes the next line
    pub line_moves : (l : Line) → IsLine made.script K p.next l → Moves made p K (record p { line = l; next = p.next + 1 }) K
    line_moves l is = record {
      place = record { scheduled = is.scheduled; found = is.found; over = λ o. cc };
      rest = line_less made.policy made.script made.script.schedule p.next _ p.line.who p.line.left K done is.line;
      fewer = let inside = slice_get_within made.script.schedule p.next _ is.line in omega arith;
    }

    -- and one that finds none
    pub end_moves : IsLineAt made.script K p.next None → Moves made p K (record p { over = true }) K
    end_moves over = record {
      place = record { scheduled = here.scheduled; found = here.found; over = λ o. (done, over) };
      rest = refl;
      fewer = rw goes_on (omega arith);
    }

  -- where the schedule is over, all of it was played
  pub over_played : p.over ≡ true → with_rest made p K ≡ K
  over_played o = let e = here.over o in none_left made.policy made.script made.script.schedule p.next p.line.who p.line.left K e.0 e.1

-- the schedule's steps after the start, and the close, are what is played
closed_is_played : (P : Policy) (S : Script) (K : List Event) → K ≡ with_schedule P S S.schedule (started S) → ev Listener Close ∷ K ≡ played P S
unfolding step
closed_is_played P S K is = ap (λ (H : List Event). ev Listener Close ∷ H) is

-- where a state was made with this setup, at the script's start
pub turns_played : (P : Policy) (S : Script) (every : Option ℕ) (made : Setup) (opening K : List Event) → made ≡ record { policy = P; script = S; limit = None; every = every } → opening ≡ started S → K ≡ with_schedule made.policy made.script made.script.schedule opening
    → ev Listener Close ∷ K ≡ played P S
turns_played P S every made opening K m o is = closed_is_played P S K (rw (m, o) at is)
