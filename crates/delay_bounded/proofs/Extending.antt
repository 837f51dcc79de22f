-- A finished history goes on to where nobody is able to step, by receives of the first worker that find nothing.
-- By induction on the number of the calls that were notified without a receive: each such receive leaves one less.
use Rattle.std.proofs.Common.{◌≡◌, ℕ, zero, suc, ◌+◌, ◌-◌, Bool, true, false, ◌&&◌, not, if◌then◌else◌, nat_lt, List, [], ◌∷◌, length, Option, Some, None, Err, refl, ap, subst, arith}
use Rattle.std.specs.Prelude.{◌==◌}
use Rattle.std.proofs.lemmas.Bool.{and_parts, ne_eqb, or_right}
use Rattle.hist_model.proofs.Look.{oldest-some}
use Rattle.hist_model.specs.Calls.{calls, count, fetched, listed, recvs}
use Rattle.hist_model.specs.Deeds.{Deed}
use Rattle.hist_model.specs.Kinds.{skips}
use Rattle.hist_model.specs.Legal.{Finished, rules_of, system_of, with_step}
use Rattle.hist_model.specs.Look.{Name, ev, oldest}
use Rattle.hist_model.specs.Sessions.{deed, session}
use Rattle.hist_model.specs.Steps.{oldest_unfetched, step, task_step, worker_step}
use Rattle.hist_model.specs.Tasks.{is_made}
use Rattle.hist_model.specs.declared.event.Actor.{Actor}
use Rattle.hist_model.specs.declared.event.Actor.TheVariants.{Task, Worker}
use Rattle.hist_model.specs.declared.event.Event.{Event}
use Rattle.hist_model.specs.declared.event.What.TheVariants.{Recv, Skip}
use Rattle.hist_model.specs.declared.policy.Policy.{Policy}
use Rattle.hist_model.specs.declared.script.Script.{Script}
use Rattle.history_frames.specs.Ordinals.{task_name_of, tasks_made}
use Rattle.mediation.proofs.Played.{goes_on-step, stays_finished}
use Rattle.mediation.specs.Scheduled.{GoesOn}
use Rattle.sys_abi.specs.Errnos.{enoent}
use Rattle.delay_bounded.specs.Circle.{in_hand, is_able, may_step}
use Rattle.delay_bounded.specs.Laws.{IsOver, IsWalked, with_empty_receives}
use Rattle.delay_bounded.proofs.Finishing.{not_open, receives}

-- the first worker finds nothing to receive
abbrev nothing : Event
nothing = ev (Worker 0) (Recv (Err enoent))

pub longer : (n : ℕ) (K : List Event) → length (with_empty_receives n K) ≡ length K + n
unfolding with_empty_receives
longer zero K = omega arith
longer (suc n) K = omega (arith, longer n (nothing ∷ K))

one_less : (K : List Event) (n : ℕ) → count K ≡ suc n → count (nothing ∷ K) ≡ n
unfolding calls recvs
one_less K n is = omega (arith, is)

skipped : (b : Bool) → b && not (skips Skip) ≡ false
skipped true = refl
skipped false = refl

module _ (P : Policy) (S : Script) (W : ℕ) where
  -- ---- Who is able to step

  none_unfetched : (K : List Event) → Finished K → oldest_unfetched K ≡ None
  unfolding oldest_unfetched
  none_unfetched K f = by (oldest (λ c. listed K c && not (fetched K c)) (length K)) refl
    where
      by : (o : Option ℕ) → oldest (λ c. listed K c && not (fetched K c)) (length K) ≡ o → o ≡ None
      by None is = refl
      by (Some c) is =
          let on : listed K c ≡ true = (and_parts (listed K c) _ (oldest-some (λ d. listed K d && not (fetched K d)) (length K) c is).0).0 in
          let off = f.calls c in
          cc

  no_deed : (K : List Event) (w : ℕ) → Finished K → deed (rules_of P S.figures) (session K w) ≡ Deed.Recv
  no_deed K w f = receives (rules_of P S.figures) (session K w) (not_open (session K w) (f.sessions w))

  -- a worker finds nothing to receive, while there is a call that was notified without a receive
  finds_nothing : (K : List Event) (n : ℕ) → Finished K → count K ≡ suc n → step (system_of S) (rules_of P S.figures) K (Worker 0) ≡ Recv (Err enoent)
  unfolding step worker_step
  finds_nothing K n f is =
      let some : (count K == 0) ≡ false = ne_eqb (count K) 0 (λ none. omega (arith, is, none)) in
      rw (no_deed K 0 f, some, none_unfetched K f) refl

  -- and else takes no step
  worker_idle : (K : List Event) (w : ℕ) → Finished K → count K ≡ 0 → step (system_of S) (rules_of P S.figures) K (Worker w) ≡ Skip
  unfolding step worker_step
  worker_idle K w f is = rw (no_deed K w f, is) refl

  task_idle : (K : List Event) (n : Name) → Finished K → step (system_of S) (rules_of P S.figures) K (Task n) ≡ Skip
  unfolding step task_step
  task_idle K n f = by (is_made K n) refl
    where
      by : (b : Bool) → is_made K n ≡ b → step (system_of S) (rules_of P S.figures) K (Task n) ≡ Skip
      by true made = rw (made, f.tasks n made) refl
      by false made = rw made refl

  idle : (K : List Event) (a : Actor) → step (system_of S) (rules_of P S.figures) K a ≡ Skip → is_able P S K a ≡ false
  idle K a is = rw is (skipped (may_step K a))

  over : (K : List Event) → Finished K → count K ≡ 0 → IsOver P S W K
  over K f is q inside = by (nat_lt q (tasks_made K))
    where
      by : (b : Bool) → is_able P S K (if b then Task (task_name_of K q) else Worker (q - tasks_made K)) ≡ false
      by true = idle K (Task (task_name_of K q)) (task_idle K (task_name_of K q) f)
      by false = idle K (Worker (q - tasks_made K)) (worker_idle K (q - tasks_made K) f is)

  -- ---- One receive more

  walked_more : (K : List Event) (n : ℕ) → IsWalked P S W K → Finished K → count K ≡ suc n → IsWalked P S W (nothing ∷ K)
  walked_more K n k f is =
      let next : with_step P S (Worker 0) K ≡ nothing ∷ K = ap (λ what. ev (Worker 0) what ∷ K) (finds_nothing K n f is) in
      record {
        goes_on = subst (λ (H : List Event). GoesOn P S H) next (goes_on-step P S (Worker 0) K (omega arith) k.goes_on);
        no_skip = (refl, k.no_skip);
        within = (omega arith, k.within);
        lowest = (or_right (in_hand K 0) true refl, k.lowest);
      }

  finished_more : (K : List Event) → IsWalked P S W (nothing ∷ K) → Finished K → Finished (nothing ∷ K)
  finished_more K k f = stays_finished (system_of S) (rules_of P S.figures) K (nothing ∷ []) k.goes_on.legal f (refl, tt)

  pub goes_over : (n : ℕ) (K : List Event) → count K ≡ n → IsWalked P S W K → Finished K → IsWalked P S W (with_empty_receives n K) × IsOver P S W (with_empty_receives n K)
  unfolding with_empty_receives
  goes_over zero K is k f = (k, over K f is)
  goes_over (suc n) K is k f =
      let more = walked_more K n k f is in
      goes_over n (nothing ∷ K) (one_less K n is) more (finished_more K more f)
