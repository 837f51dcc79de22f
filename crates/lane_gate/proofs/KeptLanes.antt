-- What a turn leaves of what the state of lanes keeps: a step of a worker that may take it, a step of a task, or none.
-- By the definition of laned histories, one event more, and by the table of seats, which stands for the longer history.
use Rattle.std.proofs.Common.{◌≡◌, ℕ, ◌<◌, Bool, true, false, List, ◌∷◌, length, Option, Some, refl, sym, ap, ◌∙◌, arith, ⊎_elim}
use Rattle.hist_model.proofs.Look.{event_at-below, event_at-here}
use Rattle.hist_model.specs.Legal.{started}
use Rattle.hist_model.specs.Look.{Name, ev, event_at}
use Rattle.hist_model.specs.Sessions.{session}
use Rattle.hist_model.specs.declared.event.Actor.TheVariants.{Task, Worker}
use Rattle.hist_model.specs.declared.event.Event.{Event}
use Rattle.hist_model.specs.declared.event.What.{What}
use Rattle.hist_model.specs.declared.script.Script.{Script}
use Rattle.lane_gate.specs.Keeping.{KeepsLanes}
use Rattle.lane_seats.proofs.Sittings.{stands_still}
use Rattle.lane_seats.specs.Lanes.{KeepsLanes as MayStep, Laned, is_taken}
use Rattle.lane_seats.specs.Sittings.{StandsFor}
use Rattle.lane_seats.specs.declared.seats.Sitting.{Sitting}
use Rattle.worker_gate.specs.Keeping.{Adds, AddsTask, ServedFacts}

-- ---- The start

pub start_is_free : (S : Script) (seat : ℕ) → is_taken (started S) seat ≡ false
unfolding session
start_is_free S seat = refl

pub start_is_laned : (S : Script) → Laned (started S)
start_is_laned S = (tt, tt)

-- ---- One more event

-- the newest event stands at the place that the history had as its length
newest_at : (K : List Event) (e f : Event) → event_at (e ∷ K) (length K) ≡ Some f → f ≡ e
newest_at K e f h = let same : Some f ≡ Some e = sym h ∙ event_at-here e K in cc same

-- an event that stands there is the step that was taken since
pub noted_event : (K H : List Event) (seat place : ℕ) (b : Bool) (event : Event) → Adds (Worker seat) b K H → place ≡ length K → event_at H place ≡ Some event → H ≡ ev (Worker seat) event.what ∷ K
noted_event K H seat place true event s p found =
    let newest : event ≡ ev (Worker seat) s.0 = newest_at K (ev (Worker seat) s.0) event (rw (p, s.1) at found) in
    s.1 ∙ ap (λ (e : Event). ev (Worker seat) e.what ∷ K) (sym newest)
noted_event K H seat place false event s p found = let late : length K < length K = event_at-below K (length K) event (rw (p, s) at found) in absurd (omega arith)

module _ (old new : ServedFacts) (setup : new.setup ≡ old.setup) (seats : List (Option Sitting)) (kept : KeepsLanes old seats) where
  pub keeps_same : new.history.events ≡ old.history.events → KeepsLanes new seats
  keeps_same e = record { limit = rw setup kept.limit; laned = rw e kept.laned; stands = rw e kept.stands }

  -- after a task's step
  pub keeps_task : AddsTask old.history.events new.history.events → KeepsLanes new seats
  keeps_task s = ⊎_elim (λ e. keeps_same e)
      (λ (x : (n : Name) × (what : What) × (new.history.events ≡ ev (Task n) what ∷ old.history.events)). record {
        limit = rw setup kept.limit;
        laned = rw x.2 (tt, kept.laned);
        stands = rw x.2 (stands_still (ev (Task x.0) x.1) old.history.events seats (λ seat. refl) kept.stands);
      }) s

  -- after a step of a worker that may take it, once it is noted in the table
  pub keeps_step : (seat : ℕ) (what : What) (noted : List (Option Sitting)) → MayStep old.history.events (Worker seat) → new.history.events ≡ ev (Worker seat) what ∷ old.history.events
      → StandsFor (ev (Worker seat) what ∷ old.history.events) noted → KeepsLanes new noted
  keeps_step seat what noted may e st = record { limit = rw setup kept.limit; laned = rw e (may, kept.laned); stands = rw e st }
