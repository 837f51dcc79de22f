-- Which effects may be told to a later call, by what is kept of them.
-- By the places that the kept numbers have.
use Rattle.std.proofs.Common.{◌≡◌, ℕ, ◌<◌, Bool, true, false, ◌&&◌, List, get_or, Some, refl, sym, ◌∙◌, arith}
use Rattle.std.specs.Prelude.{not, ◌==◌, bytes_eq, is_some}
use Rattle.std.specs.Ordering.{int_eq}
use Rattle.hist_model.specs.Kinds.{notifies}
use Rattle.hist_model.specs.declared.event.Event.{Event}
use Rattle.hist_model.specs.declared.policy.Policy.{Policy}
use Rattle.hist_model.specs.declared.script.Script.{Script}
use Rattle.history_frames.specs.Ordinals.{nth_of}
use Rattle.broker_verdict.specs.Answers.{gave_at}
use Rattle.broker_verdict.specs.Seats.{is_effect}
use Rattle.judge_pass.specs.declared.calls.Call.{Call}
use Rattle.judge_pass.specs.declared.done.Done.{Done}
use Rattle.judge_pass.specs.declared.judge.Judge.{Judge}
use Rattle.judge_pass.specs.Stands.{hand_at, IsCall, IsDone, Stands}
use Rattle.judge_pass.specs.Told.{may_be_told}
use Rattle.judge_pass.specs.Within.{calls_kept, effects_kept}
use Rattle.judge_pass.proofs.SameGroups.{same_places}

all_of : (a b c d : Bool) → (a && (b && (c && d))) ≡ ((a && (b && c)) && d)
all_of true true true d = refl
all_of true true false d = refl
all_of true false c d = refl
all_of false b c d = refl

pub may_be : (P : Policy) (S : Script) (K : List Event) (j : Judge) (effect call c d p : ℕ) (done : Done) (earlier later : Call) (given : Bool) → Stands P S K j
    → effect < effects_kept j → call < calls_kept j → done ≡ get_or j.done.items effect done → earlier ≡ get_or j.calls.rows.items done.call earlier
    → later ≡ get_or j.calls.rows.items call later
    → nth_of is_effect K effect ≡ Some p → nth_of notifies K call ≡ Some c → hand_at K p ≡ Some d → given ≡ is_some (gave_at K (Some p))
    → may_be_told K c d p
    ≡ ((not done.is_told && (not (done.call == call) && not earlier.is_settled))
    && ((int_eq later.called.nr earlier.called.nr && bytes_eq later.called.args earlier.called.args) && given))
may_be P S K j effect call c d p done earlier later given h low lower done_is earlier_is later_is p_is c_is d_is given_is =
    let kept : IsDone K effect done = rw (← done_is) at (h.done effect done (omega (arith, h.done_are))) in
    let second : IsCall S K call later = rw (← later_is) at (h.calls call later (omega (arith, h.calls_are))) in
    let first : IsCall S K done.call earlier = rw (← earlier_is) at (h.calls done.call earlier kept.call_made) in
    let at : Some p ≡ Some done.place = sym p_is ∙ kept.place_is in
    let p_at : done.place ≡ p = cc in
    let hand : nth_of notifies K done.call ≡ Some d = sym (rw p_at at kept.call_is) ∙ d_is in
    let old : Some earlier.place ≡ Some d = sym first.place_is ∙ hand in
    let d_at : earlier.place ≡ d = cc in
    let new : Some later.place ≡ Some c = sym second.place_is ∙ c_is in
    let c_at : later.place ≡ c = cc in
    let other : (d == c) ≡ (done.call == call) = same_places notifies K done.call call d c hand c_is in
    rw (
      ← all_of (not done.is_told) (not (done.call == call)) (not earlier.is_settled)
          ((int_eq later.called.nr earlier.called.nr && bytes_eq later.called.args earlier.called.args) && given),
      given_is,
      ← kept.told_is,
      p_at,
      ← other,
      ← first.settled_is,
      ← first.called.nr_is,
      ← first.called.args_are,
      ← second.called.nr_is,
      ← second.called.args_are,
      d_at,
      c_at,
    ) refl

-- the places of the two calls
pub record CallsAt (c d : ℕ) (earlier later : Call) : Type 0 where
  pub later_at : later.place ≡ c
  pub earlier_at : earlier.place ≡ d

pub calls_at : (P : Policy) (S : Script) (K : List Event) (j : Judge) (effect call c p d : ℕ) (done : Done) (earlier later : Call) → Stands P S K j → effect < effects_kept j
    → call < calls_kept j → done ≡ get_or j.done.items effect done → earlier ≡ get_or j.calls.rows.items done.call earlier → later ≡ get_or j.calls.rows.items call later
    → nth_of is_effect K effect ≡ Some p → hand_at K p ≡ Some d → nth_of notifies K call ≡ Some c → CallsAt c d earlier later
calls_at P S K j effect call c p d done earlier later h low lower done_is earlier_is later_is p_is d_is c_is =
    let kept : IsDone K effect done = rw (← done_is) at (h.done effect done (omega (arith, h.done_are, low))) in
    let second : IsCall S K call later = rw (← later_is) at (h.calls call later (omega (arith, h.calls_are, lower))) in
    let first : IsCall S K done.call earlier = rw (← earlier_is) at (h.calls done.call earlier kept.call_made) in
    let at : Some p ≡ Some done.place = sym p_is ∙ kept.place_is in
    let p_at : done.place ≡ p = cc in
    let hand : nth_of notifies K done.call ≡ Some d = sym (rw p_at at kept.call_is) ∙ d_is in
    let old : Some earlier.place ≡ Some d = sym first.place_is ∙ hand in
    let new : Some later.place ≡ Some c = sym second.place_is ∙ c_is in
    record { later_at = cc; earlier_at = cc }
