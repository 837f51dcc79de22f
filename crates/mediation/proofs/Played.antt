-- What schedules play is legal, a finished history stays finished, and small histories that wrong kernels and brokers would make are refused.
-- By induction on the schedule and on the events (`Rows`, `Calls`, `Replies`), and by unfolding the steps of the small histories.
use Rattle.mediation.proofs.Common.{[], Actor, any_of, ap, arith, base, Bool, call_at, call_of, calls, closes, deed, ended, Err, Event, event_at, false, fetched, Finished, free_from, group, holder}
use Rattle.mediation.proofs.Common.{install_of, is_actor, is_letgo, is_made, is_open_session, is_start, IsLegal, last_pid, length, List, listed, Listener, mem, disposition, named, newest, next_pid}
use Rattle.mediation.proofs.Common.{next_signal, None, notif_of, oldest, oldest_unfetched, owes_native, pending, played, Policy, queue, reaped, Recv, recvs, refl, reply, request_of, Rules, rules_of}
use Rattle.mediation.proofs.Common.{Script, session, session_call, settled, Skip, started, StaysFinished, step, steps_of, suc, System, system_of, takes, task_place, task_step, times_spent, true}
use Rattle.mediation.proofs.Common.{was_waited_for, What, with_step, Worker, worker_step, zero, ℕ, ◌++◌, ◌<◌, ◌∷◌, ◌≡◌, ◌⊎◌}
use Rattle.hist_model.specs.Legal.{with_schedule, with_steps}
use Rattle.hist_model.specs.declared.script.Step.{Step}
use Rattle.mediation.specs.Refused.{EarlyEffect, EffectAfterEnd, LateInstallation, LateOpening, NewestFirst, SecondAnswer, SecondReading, ValidByNumber, WithoutSend}
use Rattle.mediation.specs.Scheduled.{AllScheduled, GoesOn, IsScheduled}
use Rattle.mediation.proofs.Rows.{Row, step-row, row-of, kernel-row}
use Rattle.mediation.proofs.Calls.{fetching}
use Rattle.mediation.proofs.KernelClauses.{takes-own}

-- ---- the history that a schedule plays is legal

may-step : (a : Actor) → IsScheduled a → (is_start a ≡ false) × (is_actor a ≡ true)
may-step a s = grind arith

never-closes : (a : Actor) (what : What) → IsScheduled a → takes a what ≡ true → closes what ≡ false
never-closes a what s t = grind arith

module _ (P : Policy) (S : Script) where
  -- a history that goes on does so after a step
  pub goes_on-step : (a : Actor) (K : List Event) → IsScheduled a → GoesOn P S K → GoesOn P S (with_step P S a K)
  goes_on-step a [] s g = absurd g.unclosed
  goes_on-step a (f ∷ K) s g =
      let T = system_of S in
      let R = rules_of P S.figures in
      let what = step T R (f ∷ K) a in
      let m = may-step a s in
      record { legal = ((g.unclosed, m.0, refl, m.1), g.legal); unclosed = never-closes a what s (takes-own T (f ∷ K) a what (kernel-row T R (f ∷ K) a what (step-row T R (f ∷ K) a m.0))) }

  steps : (a : Actor) (n : ℕ) (K : List Event) → IsScheduled a → GoesOn P S K → GoesOn P S (with_steps P S a n K)
  unfolding with_steps
  steps a zero K s g = g
  steps a (suc n) K s g = steps a n (with_step P S a K) s (goes_on-step a K s g)

  schedule : (lines : List Step) (K : List Event) → AllScheduled lines → GoesOn P S K → GoesOn P S (with_schedule P S lines K)
  unfolding with_schedule
  schedule [] K s g = g
  schedule (l ∷ more) K s g = schedule more (with_steps P S l.who l.count K) s.1 (steps l.who l.count K s.0 g)

  -- so does the start
  pub goes_on-start : GoesOn P S (started S)
  goes_on-start = record { legal = (refl, tt); unclosed = refl }

  ends : (K : List Event) → GoesOn P S K → IsLegal (system_of S) (rules_of P S.figures) (with_step P S Listener K)
  ends K g = grind arith

  pub played_is_legal : AllScheduled S.schedule → IsLegal (system_of S) (rules_of P S.figures) (played P S)
  played_is_legal s = ends (with_schedule P S S.schedule (started S)) (schedule S.schedule (started S) s goes_on-start)

-- ---- finished stays finished

-- the step does nothing: it was none, or it found nothing to receive
abbrev pub idles : What → Bool
idles Skip = true
idles (Recv (Err x)) = true
idles _ = false

-- a session that is not open is none, or has let go
not-open : (own : List What) → is_open_session own ≡ false → (notif_of own ≡ None) ⊎ (any_of is_letgo own ≡ true)
not-open own h = grind arith

row-idles : (S : System) (R : Rules) (K : List Event) (a : Actor) (what : What) → Finished K → Row S R K a what → (K ≡ [] → ⊥) → closes what ≡ false → idles what ≡ true
row-idles S R K (Worker w) what f r l c = let s = not-open (session K w) (f.sessions w) in let g = f.calls in grind (arith, fetching)
row-idles S R K a what f r l c = let t = f.tasks in grind arith

stays : (e : Event) (K : List Event) → idles e.what ≡ true → Finished K → Finished (e ∷ K)
unfolding listed is_made ended session
stays e K h f = grind arith

filled : (K : List Event) → 0 < length K → K ≡ [] → ⊥
filled K l q = omega (arith, ap length q)

pub stays_finished : (S : System) (R : Rules) → StaysFinished S R
stays_finished S R K [] legal f n = f
stays_finished S R K (e ∷ L) legal f n =
    let ih = stays_finished S R K L legal.1 f n.1 in
    stays e (L ++ K) (row-idles S R (L ++ K) e.who e.what ih (row-of S R (L ++ K) e legal.0) (filled (L ++ K) ih.begun) n.0) ih

-- ---- the small histories are not legal

-- each by what its actor's step is in truth
pub refusals : EarlyEffect × LateOpening × SecondReading × SecondAnswer × ValidByNumber × LateInstallation × WithoutSend × NewestFirst × EffectAfterEnd
refusals =
    unfold step task_step worker_step event_at newest oldest ended was_waited_for reaped holder free_from last_pid next_pid is_made disposition pending next_signal listed fetched named settled in
    unfold queue calls recvs session deed call_of steps_of reply oldest_unfetched task_place group mem base session_call install_of call_at request_of owes_native times_spent in
    grind arith
