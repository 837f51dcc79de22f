-- No legal history leaves a call that waits to nobody.
-- By how far a session has settled its call.
use Rattle.mediation.proofs.Common.{[], Actor, and_parts, answered, arith, Bool, cases_Bool, eq-eqb, Event, false, false_from_ne_true, fetched, fetcher, fetches, id, inl, inr, is_place, IsLegal, length, List, listed}
use Rattle.mediation.proofs.Common.{None, not, Option, Policy, refl, Rules, rules_of, Script, session_call, settled, Some, System, system_of, true, waiting, What, Worker, worker_of}
use Rattle.mediation.proofs.Common.{ℕ, ◌&&◌, ◌<◌, ◌^◌, ◌∷◌, ◌≡◌}
use Rattle.hist_model.specs.Legal.{Legal}
use Rattle.mediation.proofs.Phases.{sessions_settle}
use Rattle.hist_model.specs.declared.event.Actor.TheVariants.{Listener, Start, Task}
use Rattle.hist_model.specs.Look.{Name}
use Rattle.mediation.proofs.KernelRows.{KernelRow, TaskRow}
use Rattle.mediation.proofs.Rows.{by-steps, Row}
use Rattle.broker_verdict.specs.Seats.{of_call}
use Rattle.broker_verdict.specs.Trusted.{breaks_by, call_left, is_in_hand, is_left, Keeps, seat_breaks}
use Rattle.broker_verdict.specs.declared.clause.Clause.TheVariants.{Unanswered}

module _ (S : System) (R : Rules) where
  start-fetches : (K : List Event) (what : What) (x : ℕ) → KernelRow S K Start what → fetches what x ≡ true → ⊥
  start-fetches K what x r h = grind arith

  task-fetches : (K : List Event) (n : Name) (what : What) (x : ℕ) → TaskRow S K n what → fetches what x ≡ true → ⊥
  task-fetches K n what x r h = grind arith

  close-fetches : (K : List Event) (what : What) (x : ℕ) → KernelRow S K Listener what → fetches what x ≡ true → ⊥
  close-fetches K what x r h = grind arith

  fetched-by : (K : List Event) (a : Actor) (what : What) (x : ℕ) → Row S R K a what → fetches what x ≡ true → (w : ℕ) × (worker_of a ≡ Some w)
  fetched-by K Start what x r h = absurd (start-fetches K what x r h)
  fetched-by K (Task n) what x r h = absurd (task-fetches K n what x r h)
  fetched-by K (Worker w) what x r h = (w, refl)
  fetched-by K Listener what x r h = absurd (close-fetches K what x r h)

  -- a call that was received has a worker that received it
  has-fetcher : (K : List Event) → IsLegal S R K → (c : ℕ) → fetched K c ≡ true → (w : ℕ) × (fetcher K c ≡ Some w)
  unfolding fetched fetcher
  has-fetcher = by-steps S R (λ K. (c : ℕ) → fetched K c ≡ true → (w : ℕ) × (fetcher K c ≡ Some w)) (λ c h. cc) (λ K e legal r ih c h.
      elim (cases_Bool (fetches e.what (id K c) && listed K c)) [
        | inl q ↦ let f = fetched-by K e.who e.what (id K c) r (and_parts (fetches e.what (id K c)) (listed K c) q).0 in (f.0, rw q f.1)
        | inr q ↦ let i = ih c (rw q at h) in (i.0, rw q i.1)
      ])

  -- each call that waits is in some hand
  never-left : (K : List Event) → IsLegal S R K → length K < 2 ^ 64 → (c : ℕ) → is_left K c ≡ false
  never-left K legal room c = false_from_ne_true (is_left K c) (λ h.
      let p = and_parts (waiting K c) (not (is_in_hand K c)) h in
      let l = and_parts (listed K c) (fetched K c && not (answered K c)) p.0 in
      let f = and_parts (fetched K c) (not (answered K c)) l.1 in
      let w = has-fetcher K legal c f.0 in
      let s = sessions_settle S R K legal room w.0 c l.0 w.1 in
      elim (cases_Bool (is_place (session_call K w.0) c)) [
        | inl q ↦ cc (rw (w.1, q) at p.1)
        | inr q ↦
            let t : settled K c ≡ true = s.ended (λ z. cc (rw (z, eq-eqb c c refl) at q)) in
            cc (rw t at f.1)
      ])

left-none : (f : ℕ → Bool) → ((c : ℕ) → f c ≡ false) → (o : Option ℕ) → of_call o f ≡ false
left-none f h None = refl
left-none f h (Some c) = h c

no-seat : (P : Policy) (S : Script) (K : List Event) (w : ℕ) (what : What) (o : Option ℕ) → seat_breaks P S Unanswered K w what o ≡ false
no-seat P S K w what None = refl
no-seat P S K w what (Some c) = grind arith

no-actor : (P : Policy) (S : Script) (K : List Event) (a : Actor) (what : What) → breaks_by P S Unanswered K a what ≡ false
no-actor P S K (Worker w) what = no-seat P S K w what (session_call K w)
no-actor P S K a what = refl

all-answered : (P : Policy) (S : Script) (K : List Event) → IsLegal (system_of S) (rules_of P S.figures) K → length K < 2 ^ 64 → Keeps P S Unanswered K
all-answered P S [] legal room = tt
all-answered P S (e ∷ K) legal room = (
  rw (no-actor P S K e.who e.what) (left-none (is_left (e ∷ K)) (never-left (system_of S) (rules_of P S.figures) (e ∷ K) legal room) (call_left K e.who e.what)),
  all-answered P S K legal.1 (omega arith),
)

pub answered_all : (P : Policy) (S : Script) (K : List Event) → Legal P S K → Keeps P S Unanswered K
answered_all P S K legal = all-answered P S K legal.0 legal.1
