-- Who may be able to step after a run's history, told without a step.
-- By what a task's step and a worker's are: a worker that has nothing in hand would receive.
use Rattle.std.proofs.Common.{◌≡◌, ℕ, ◌+◌, ◌-◌, ◌<◌, ◌≤◌, ◌%◌, Bool, true, false, ◌&&◌, ◌||◌, not, nat_lt, List, [], refl, sym, ap, ◌∙◌, subst, arith}
use Rattle.std.proofs.lemmas.Bool.Decides.{nat_tests}
use Rattle.hist_model.specs.Calls.{count}
use Rattle.hist_model.specs.Kinds.{skips}
use Rattle.hist_model.specs.Legal.{is_open_session, rules_of, system_of}
use Rattle.hist_model.specs.Names.{is_task_name}
use Rattle.hist_model.specs.Sessions.{deed, deed_for, notif_of, session}
use Rattle.hist_model.specs.Steps.{deed_step, step, task_step, worker_step}
use Rattle.hist_model.specs.declared.event.Actor.TheVariants.{Task, Worker}
use Rattle.hist_model.specs.declared.event.Event.{Event}
use Rattle.hist_model.specs.declared.event.What.{What}
use Rattle.hist_model.specs.declared.policy.Policy.{Policy}
use Rattle.hist_model.specs.declared.script.Script.{Script}
use Rattle.history_frames.specs.Ordinals.{task_name_of, tasks_made}
use Rattle.model_kernel.specs.Steps.{due_step}
use Rattle.delay_bounded.specs.Circle.{all_in_hand, at_place, in_hand, is_able, places}
use Rattle.explorer.specs.Runs.{IsGoing, IsRun, able_in, script_in, story}
use Rattle.explorer.specs.declared.run.Run.{Run}
use Rattle.explorer.proofs.Rounds.{nobody_there, unable_there}

and_none : (a b : Bool) → b ≡ false → (a && b) ≡ false
and_none true b e = e
and_none false b e = refl

-- a run that has come to a history has come to its own
pub still_going : (P : Policy) (S : Script) (K : List Event) (r : Run) → IsRun P S K r → IsGoing P r
still_going P S K r i = record {
  at = record { served = i.at.served; script = refl; events = refl };
  hands = rw i.at.events i.hands;
  marks_are = rw (i.at.script, i.at.events) i.marks_are;
}

module _ (P : Policy) (r : Run) where
  pub task_unable : (o : ℕ) (can : Bool) → can ≡ not (skips (due_step r.machine.kernel o)) → can ≡ false → is_able P (script_in r) (story r) (Task (task_name_of (story r) o)) ≡ false
  unfolding step
  task_unable o can e none = and_none (is_task_name (task_name_of (story r) o)) (not (skips (task_step (system_of (script_in r)) (story r) (task_name_of (story r) o)))) (sym e ∙ none)

  idle_skips : (w : ℕ) (own : List What) → is_open_session own ≡ false → count (story r) ≡ 0
      → skips (deed_step (system_of (script_in r)) (story r) w (deed_for (rules_of P (script_in r).figures) (notif_of own) own)) ≡ true
  idle_skips w own o none = grind (arith, nat_tests)

  pub idle_unable : (w : ℕ) → in_hand (story r) w ≡ false → count (story r) ≡ 0 → is_able P (script_in r) (story r) (Worker w) ≡ false
  unfolding step worker_step deed
  idle_unable w o none =
      let s = idle_skips w (session (story r) w) o none in
      and_none (in_hand (story r) w || all_in_hand (story r) w) (not (skips (worker_step (system_of (script_in r)) (rules_of P (script_in r).figures) (story r) w))) (ap not s)

  -- who stands at a place
  pub task_there : (p : ℕ) → p < tasks_made (story r) → is_able P (script_in r) (story r) (Task (task_name_of (story r) p)) ≡ false → is_able P (script_in r) (story r) (at_place (story r) p) ≡ false
  task_there p l a = let t : nat_lt p (tasks_made (story r)) ≡ true = grind (arith, nat_tests) in rw t a

  -- the place before isn't that of an actor that is able either
  pub one_fewer : (W p q n : ℕ) → n ≡ places W (story r) → 0 < q → q ≤ n → is_able P (script_in r) (story r) (at_place (story r) ((p + (q - 1)) % n)) ≡ false → able_in P W r p q ≡ [] → able_in P W r p (q - 1) ≡ []
  one_fewer W p q n e some l a none =
      let back : q - 1 + 1 ≡ q = omega arith in
      let inside : q - 1 < places W (story r) = omega (arith, e, l, some) in
      unable_there P (script_in r) W (story r) p (q - 1) inside (subst (λ (m : ℕ). is_able P (script_in r) (story r) (at_place (story r) ((p + (q - 1)) % m)) ≡ false) e a)
      ∙ rw back none

  pub none_behind : (W p n : ℕ) → n ≡ places W (story r) → able_in P W r p n ≡ []
  none_behind W p n e = nobody_there P (script_in r) W (story r) p n (omega (arith, e))
