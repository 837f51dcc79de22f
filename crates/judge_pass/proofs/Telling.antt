-- Steps over the effects that are kept of a task, and what they come to.
-- By the place of each, and the call for which it was done.
use Rattle.std.proofs.Common.{◌≡◌, ℕ, ◌<◌, Bool, true, false, ◌&&◌, ℤ, List, [], ◌∷◌, length, get_or, Option, Some, None, refl, ap, sym, ◌∙◌, arith}
use Rattle.std.specs.Prelude.{find, is_some, not, Ok}
use Rattle.hist_model.specs.Calls.{caller}
use Rattle.hist_model.specs.Kinds.{notifies}
use Rattle.hist_model.specs.Look.{ev, is_place}
use Rattle.hist_model.specs.Steps.{session_call}
use Rattle.hist_model.specs.declared.event.Actor.TheVariants.{Worker}
use Rattle.hist_model.specs.declared.event.Back.TheVariants.{Value}
use Rattle.hist_model.specs.declared.event.Event.{Event}
use Rattle.hist_model.specs.declared.event.What.TheVariants.{Send}
use Rattle.hist_model.specs.declared.policy.Policy.{Policy}
use Rattle.hist_model.specs.declared.script.Script.{Script}
use Rattle.history_frames.specs.Ordinals.{nth_of}
use Rattle.history_frames.proofs.Ordinals.{made-place}
use Rattle.broker_verdict.specs.Answers.{gave_at, is_told, place_told, remembered_where, tells}
use Rattle.broker_verdict.specs.Seats.{effect_of, is_effect, of_call}
use Rattle.judge_pass.specs.declared.calls.Call.{Call}
use Rattle.judge_pass.specs.declared.judge.Judge.{Judge}
use Rattle.judge_pass.specs.declared.task_table.Task.{Task}
use Rattle.judge_pass.specs.Stands.{effects_for, hand_at, IsCall, IsTask, Stands}
use Rattle.judge_pass.specs.Told.{own_told, remembered_for}
use Rattle.judge_pass.specs.Within.{calls_kept, effects_kept}
use Rattle.judge_pass.proofs.CallersGroup.{some_element}

-- the place of an effect, and of the call for which it was done
pub record HasHand (K : List Event) (n : ℕ) : Type 0 where
  pub place : ℕ
  pub call : ℕ
  pub place_is : nth_of is_effect K n ≡ Some place
  pub hand_is : hand_at K place ≡ Some call

pub effect_hand : (P : Policy) (S : Script) (K : List Event) (j : Judge) (n : ℕ) → Stands P S K j → n < effects_kept j → HasHand K n
effect_hand P S K j n h low =
    let d = some_element j.done.items n low in
    let done = get_or j.done.items n d in
    let kept = h.done n d (omega (arith, h.done_are, low)) in
    let call = made-place notifies K done.call kept.call_made in
    record { place = done.place; call = call.0; place_is = kept.place_is; hand_is = kept.call_is ∙ call.1 }

-- one that fails the test is passed over, one that passes it is found, and where none is left none is
pub passed_over : (test : ℕ → Bool) (rest later : List ℕ) (n : ℕ) (all : Option ℕ) → rest ≡ n ∷ later → test n ≡ false → find test rest ≡ all → find test later ≡ all
passed_over test rest later n all first h e = let f : find test (n ∷ later) ≡ all = rw first at e in rw h at f

pub found_first : (test : ℕ → Bool) (rest later : List ℕ) (n : ℕ) (all : Option ℕ) → rest ≡ n ∷ later → test n ≡ true → find test rest ≡ all → Some n ≡ all
found_first test rest later n all first h e = let f : find test (n ∷ later) ≡ all = rw first at e in rw h at f

pub none_left : (test : ℕ → Bool) (rest : List ℕ) (all : Option ℕ) → length rest ≡ 0 → find test rest ≡ all → None ≡ all
none_left test [] all empty e = e
none_left test (n ∷ rest) all empty e = absurd (omega arith)

-- what is kept of the task that made a call are the effects for its calls
pub untold_is : (P : Policy) (S : Script) (K : List Event) (j : Judge) (call c : ℕ) (row : Call) (task : Task) → Stands P S K j → call < calls_kept j
    → row ≡ get_or j.calls.rows.items call row → task ≡ get_or j.tasks.items row.caller task → nth_of notifies K call ≡ Some c
    → task.untold.items ≡ effects_for K (caller K c)
untold_is P S K j call c row task h low row_is task_is c_is =
    let is : IsCall S K call row = rw (← row_is) at (h.calls call row (omega (arith, h.calls_are, low))) in
    let kept : IsTask K row.caller task = rw (← task_is) at (h.tasks row.caller task is.caller_made) in
    let there : Some row.place ≡ Some c = sym is.place_is ∙ c_is in
    let place : row.place ≡ c = cc in
    kept.untold_are ∙ ap (effects_for K) (sym is.caller_is) ∙ ap (λ (x : ℕ). effects_for K (caller K x)) place

-- ---- which effect is told

pub own_or_none : (K : List Event) (w c : ℕ) (t : ℕ) → own_told K w ≡ Some t → own_told K w ≡ place_told K w c (gave_at K (effect_of K w))
own_or_none K w c t h = by_number (gave_at K (effect_of K w)) refl
  where
    by_number : (o : Option ℕ) → gave_at K (effect_of K w) ≡ o → own_told K w ≡ place_told K w c (gave_at K (effect_of K w))
    by_number None q = let n : None ≡ Some t = rw q at h in absurd (cc)
    by_number (Some n) q = rw q refl

gave_none : (K : List Event) (o : Option ℕ) (n : ℕ) → gave_at K o ≡ Some n → o ≡ None → ⊥
gave_none K o n h q = let z : None ≡ Some n = rw q at h in cc

pub none_own : (K : List Event) (w : ℕ) → own_told K w ≡ None → gave_at K (effect_of K w) ≡ None
none_own K w h = by_number (gave_at K (effect_of K w)) refl
  where
    by_number : (o : Option ℕ) → gave_at K (effect_of K w) ≡ o → gave_at K (effect_of K w) ≡ None
    by_number None q = q
    by_number (Some n) q = let z : effect_of K w ≡ None = rw q at h in absurd (gave_none K (effect_of K w) n q z)

pub some_own : (K : List Event) (w t : ℕ) → own_told K w ≡ Some t → is_some (gave_at K (effect_of K w)) ≡ true
some_own K w t h = by_number (gave_at K (effect_of K w)) refl
  where
    by_number : (o : Option ℕ) → gave_at K (effect_of K w) ≡ o → is_some (gave_at K (effect_of K w)) ≡ true
    by_number None q = let n : None ≡ Some t = rw q at h in absurd (cc)
    by_number (Some n) q = ap is_some q

-- ---- what a success that is sent tells

in_hand_told : (K : List Event) (w p : ℕ) (hand : Option ℕ) → of_call hand (λ c. is_place (remembered_where K (is_told K) w c) p) ≡ is_place (remembered_for K w hand) p
in_hand_told K w p None = refl
in_hand_told K w p (Some c) = refl

pub tells_so : (K : List Event) (w id p : ℕ) (value : ℤ)
    → tells K (is_told K) (ev (Worker w) (Send id (Value value) (Ok tt))) p ≡ (not (is_some (gave_at K (effect_of K w))) && is_place (remembered_for K w (session_call K w)) p)
tells_so K w id p value = ap (λ (b : Bool). not (is_some (gave_at K (effect_of K w))) && b) (in_hand_told K w p (session_call K w))
