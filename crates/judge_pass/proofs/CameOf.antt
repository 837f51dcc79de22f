-- What came of an effect, by its number.
-- By the place that is kept of it, and the event that stands there.
use Rattle.std.proofs.Common.{◌≡◌, ℕ, ◌<◌, Bool, true, false, ◌&&◌, List, reverse, length, get_or, Some, refl, ap, sym, ◌∙◌, arith}
use Rattle.std.specs.Prelude.{is_some, not}
use Rattle.hist_model.specs.declared.event.Event.{Event}
use Rattle.hist_model.specs.declared.policy.Policy.{Policy}
use Rattle.hist_model.specs.declared.script.Script.{Script}
use Rattle.hist_model.proofs.Scans.{event_at_past}
use Rattle.history_frames.specs.Ordinals.{nth_of}
use Rattle.broker_verdict.specs.Answers.{has_effect, has_failed, is_again, outcome_at, outcome_of, what_done, what_in}
use Rattle.broker_verdict.specs.Seats.{effect_of, is_effect}
use Rattle.judge_pass.specs.declared.done.Done.{Done}
use Rattle.judge_pass.specs.declared.judge.Judge.{Judge}
use Rattle.judge_pass.specs.declared.seats.Seat.{Seat}
use Rattle.judge_pass.specs.Stands.{IsSeat, place_of_effect, Stands, what_at}
use Rattle.judge_pass.specs.Within.{effects_kept}

-- what stands at a place
pub what_there : (past : List Event) (e : Event) (place : ℕ) → place < length past → what_at (reverse past) place ≡ (get_or past place e).what
what_there past e place low = ap what_in (event_at_past past e place low)

-- the effect with a number stands at the place that is kept of it
pub outcome_there : (P : Policy) (S : Script) (past : List Event) (j : Judge) (n : ℕ) (done : Done) (e : Event) → Stands P S (reverse past) j → n < effects_kept j
    → done ≡ get_or j.done.items n done → done.place < length past
    → outcome_at (reverse past) (nth_of is_effect (reverse past) n) ≡ outcome_of (reverse past) done.place (get_or past done.place e).what
outcome_there P S past j n done e h low kept inside =
    ap (outcome_at (reverse past)) (rw (← kept) at (h.done n done (omega (arith, h.done_are))).place_is)
    ∙ ap (outcome_of (reverse past) done.place) (what_there past e done.place inside)

-- ---- the effect of a seat, of which this is kept

pub own_place : (P : Policy) (S : Script) (K : List Event) (j : Judge) (w n : ℕ) (seat : Seat) (done : Done) → Stands P S K j → IsSeat S K w seat → seat.effect ≡ Some n
    → n < effects_kept j → done ≡ get_or j.done.items n done → effect_of K w ≡ Some done.place
own_place P S K j w n seat done h is has low kept = is.effect_is ∙ ap (place_of_effect K) has ∙ rw (← kept) at (h.done n done (omega (arith, h.done_are, low))).place_is

pub own_what : (past : List Event) (w : ℕ) (e : Event) (done : Done) → effect_of (reverse past) w ≡ Some done.place → done.place < length past
    → what_done (reverse past) (effect_of (reverse past) w) ≡ (get_or past done.place e).what
own_what past w e done at low = ap (what_done (reverse past)) at ∙ what_there past e done.place low

pub own_outcome : (P : Policy) (S : Script) (K : List Event) (w n : ℕ) (seat : Seat) → IsSeat S K w seat → seat.effect ≡ Some n
    → outcome_at K (nth_of is_effect K n) ≡ outcome_at K (effect_of K w)
own_outcome P S K w n seat is has = ap (outcome_at K) (sym (is.effect_is ∙ ap (place_of_effect K) has))

pub allowed : (K : List Event) (w p : ℕ) (b : Bool) → effect_of K w ≡ Some p → b ≡ not (has_effect K w && not b)
allowed K w p true at = rw at refl
allowed K w p false at = rw at refl

-- an effect that there was, with its outcome
pub again : (K : List Event) (w : ℕ) (failed : Bool) → is_some (effect_of K w) ≡ true → failed ≡ has_failed (outcome_at K (effect_of K w)) → not failed ≡ is_again K w
again K w failed some h = rw (some, h) refl
