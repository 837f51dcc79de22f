-- What a script plays under a policy is mediated.
-- By the law of legal histories: a schedule of a script's type plays a legal one, which is short enough, as its steps are counted.
use Rattle.std.proofs.Common.{◌≡◌, ℕ, zero, suc, ◌+◌, ◌<◌, ◌^◌, true, List, [], ◌∷◌, length, arith}
use Rattle.std.specs.List.{list_all}
use Rattle.std.proofs.lemmas.Bool.{and_parts, ltb-true}
use Rattle.std.proofs.lemmas.List.Sums.{sum_by-cons}
use Rattle.hist_model.specs.Legal.{played, with_step, with_steps, with_schedule, started}
use Rattle.hist_model.specs.Mediated.{Mediated}
use Rattle.hist_model.specs.ScriptRules.{IsScript, steps_of, can_be_scheduled}
use Rattle.hist_model.specs.declared.event.Actor.{Actor}
use Rattle.hist_model.specs.declared.event.Actor.TheVariants.{Start, Task, Worker, Listener}
use Rattle.hist_model.specs.declared.event.Event.{Event}
use Rattle.hist_model.specs.declared.policy.Policy.{Policy}
use Rattle.hist_model.specs.declared.script.Script.{Script}
use Rattle.hist_model.specs.declared.script.Step.{Step}
use Rattle.mediation.specs.Scheduled.{IsScheduled, AllScheduled}
use Rattle.mediation.proofs.Mediation.{mediated}
use Rattle.mediation.proofs.Played.{played_is_legal}

module _ (P : Policy) (S : Script) where
  -- so many steps add so many events
  steps_add : (a : Actor) (n : ℕ) (K : List Event) → length (with_steps P S a n K) ≡ n + length K
  unfolding with_steps
  steps_add a zero K = omega arith
  steps_add a (suc n) K = let more = steps_add a n (with_step P S a K) in omega (arith, more)

  -- and so a schedule
  schedule_adds : (steps : List Step) (K : List Event) → length (with_schedule P S steps K) ≡ steps_of steps + length K
  unfolding with_schedule
  schedule_adds [] K = omega arith
  schedule_adds (s ∷ more) K =
      let first = steps_add s.who s.count K in
      let rest : length (with_schedule P S (s ∷ more) K) ≡ steps_of more + length (with_steps P S s.who s.count K) = schedule_adds more (with_steps P S s.who s.count K) in
      let counts : steps_of (s ∷ more) ≡ s.count + steps_of more = sum_by-cons (λ (t : Step). t.count) s more in
      omega (arith, first, rest, counts)

  -- the history that is played has two events beside those of the schedule
  played_length : length (played P S) ≡ suc (steps_of S.schedule + 1)
  played_length = let n = schedule_adds S.schedule (started S) in omega (arith, n)

-- what a script schedules may take steps
pub can_take_steps : (a : Actor) → can_be_scheduled a ≡ true → IsScheduled a
can_take_steps (Task n) h = h
can_take_steps (Worker w) h = let l = ltb-true w 16 h in omega arith
can_take_steps Start h = cc
can_take_steps Listener h = cc

all_scheduled : (lines : List Step) → list_all (λ (s : Step). can_be_scheduled s.who) lines ≡ true → AllScheduled lines
all_scheduled [] h = tt
all_scheduled (s ∷ more) h = let p = and_parts (can_be_scheduled s.who) (list_all (λ (t : Step). can_be_scheduled t.who) more) h in (can_take_steps s.who p.0, all_scheduled more p.1)

-- a script of its type plays a mediated history
pub played_is_mediated : (P : Policy) (S : Script) → IsScript S → Mediated P S (played P S)
played_is_mediated P S keeps =
    let short : length (played P S) < 2 ^ 64 = let n = played_length P S in let k = keeps.steps in omega (arith, n, k) in
    mediated P S (played P S) (played_is_legal P S (all_scheduled S.schedule keeps.schedule)) short
