-- What is kept of a task, when one more event comes.
-- By what the event leaves of the look-backs for the task's name.
use Rattle.std.proofs.Common.{◌≡◌, ℕ, ◌<◌, Bool, true, false, ◌&&◌, ◌||◌, List, [], ◌∷◌, ◌++◌, length, refl, sym, ◌∙◌, subst, arith, inl, inr, Option, Some, None}
use Rattle.std.proofs.lemmas.Bool.{both_ways, cases_Bool}
use Rattle.broker_verdict.specs.Seats.{is_effect}
use Rattle.hist_model.specs.Calls.{caller, unlists}
use Rattle.hist_model.specs.Kinds.{closes, leaves, notifies}
use Rattle.hist_model.specs.Legal.{system_of}
use Rattle.hist_model.specs.Look.{is_task, Name, task_name}
use Rattle.hist_model.specs.Memory.{group_named, last_call}
use Rattle.hist_model.specs.Signals.{call_of}
use Rattle.hist_model.specs.Steps.{IsOfKernel}
use Rattle.hist_model.specs.declared.event.Event.{Event}
use Rattle.hist_model.specs.declared.script.Script.{Script}
use Rattle.hist_model.proofs.Look.{event_at-here}
use Rattle.history_frames.specs.Ordinals.{count_of, group_of, groups_made, makes_group, task_name_of, tasks_made}
use Rattle.history_frames.proofs.Groups.{group-named-kept, group-stays}
use Rattle.history_frames.proofs.Listed.{caller-older, listed-cases, listed-here}
use Rattle.mediation.proofs.KernelTasks.{waits-here, waits-in-call}
use Rattle.tasks.proofs.Frames.{call-left, last-left, Leaves, names-apart}
use Rattle.tasks.proofs.Named.{name-kept}
use Rattle.judge_pass.specs.Stands.{effects_for, gives_to, IsBelow, IsTask, IsTaskOf, may_give, place_of_call}
use Rattle.judge_pass.specs.declared.task_table.Task.{Task}
use Rattle.judge_pass.proofs.Rows.{below-more, count-least, place-there}
use Rattle.judge_pass.proofs.Rows as rows

-- a call's number leads to the same place
pub call-kept : (e : Event) (K : List Event) (o : Option ℕ) → IsBelow (count_of notifies K) o → place_of_call (e ∷ K) o ≡ place_of_call K o
call-kept e K (Some n) h = rows.place-kept notifies e K (Some n) h
call-kept e K None h = refl

-- the group of a task that was made is as it was
pub group-same : (e : Event) (K : List Event) (n : Name) (g : ℕ) → group_named K n ≡ group_of K g → g < groups_made K → group_named (e ∷ K) n ≡ group_of (e ∷ K) g
group-same e K n g h l =
    let p = place-there makes_group K g l in
    group-named-kept e K n p.0 (h ∙ p.1) ∙ sym (group-stays e K g p.0 p.1)

-- the event changes nothing of a task
pub record LeavesTask (e : Event) (K : List Event) (n : Name) : Type 0 where
  pub call_same : call_of (e ∷ K) n ≡ call_of K n
  pub last_same : last_call (e ∷ K) n ≡ last_call K n
  pub effects_same : effects_for (e ∷ K) n ≡ effects_for K n

pub task-of-kept : (e : Event) (K : List Event) (n : Name) (t : Task) → IsTaskOf K n t → LeavesTask e K n → IsTaskOf (e ∷ K) n t
task-of-kept e K n t h l = record {
  group_is = group-same e K n t.group h.group_is h.group_made;
  group_made = omega (arith, h.group_made, count-least makes_group e K);
  call_is = l.call_same ∙ (h.call_is ∙ sym (call-kept e K t.call h.call_made));
  call_made = below-more _ _ t.call (count-least notifies e K) h.call_made;
  entered_is = rw l.last_same h.entered_is;
  untold_are = h.untold_are ∙ sym l.effects_same;
}

pub task-kept : (e : Event) (K : List Event) (o : ℕ) (t : Task) → o < tasks_made K → IsTask K o t → LeavesTask e K (task_name_of K o) → IsTask (e ∷ K) o t
task-kept e K o t l h s = subst (λ (n : Name). IsTaskOf (e ∷ K) n t) (sym (name-kept e K o l)) (task-of-kept e K (task_name_of K o) t h s)

-- ---- effects for calls of a task

pub effects-same : (e : Event) (K : List Event) (n : Name) → may_give e.what ≡ false → effects_for (e ∷ K) n ≡ effects_for K n
unfolding effects_for
effects-same e K n h = rw h refl

pub effects-other : (e : Event) (K : List Event) (n : Name) → gives_to K e n ≡ false → effects_for (e ∷ K) n ≡ effects_for K n
unfolding effects_for
effects-other e K n h = rw h refl

pub effects-more : (e : Event) (K : List Event) (n : Name) → gives_to K e n ≡ true → effects_for (e ∷ K) n ≡ effects_for K n ++ count_of is_effect K ∷ []
unfolding effects_for
effects-more e K n h = rw h refl

-- ---- an event that is no step of the task

pub quiet-task : (e : Event) (K : List Event) (n : Name) → Leaves e n → may_give e.what ≡ false → LeavesTask e K n
quiet-task e K n l g = record { call_same = call-left e K n l; last_same = last-left e K n l; effects_same = effects-same e K n g }

-- a step of another actor
pub other-task : (e : Event) (n : Name) → is_task e.who n ≡ false → (notifies e.what ≡ true → task_name e.who ≡ n → ⊥) → closes e.what ≡ false → Leaves e n
other-task e n t f c = record {
  no_step = rw t refl;
  no_call = elim (cases_Bool (notifies e.what)) [
    | inl q ↦ rw q (names-apart (task_name e.who) n (f q))
    | inr q ↦ rw q refl
  ];
  no_close = c;
}

-- ---- the task's own steps

module _ (S : Script) (e : Event) (K : List Event) (history : IsOfKernel (system_of S) (e ∷ K)) where
  -- it enters a listed call
  pub call-entered : notifies e.what ≡ true → call_of (e ∷ K) (task_name e.who) ≡ Some (length K)
  call-entered h =
      let c : caller (e ∷ K) (length K) ≡ task_name e.who = rw event_at-here refl in
      rw (← c) (waits-here (system_of S) (e ∷ K) (length K) history (listed-here e K ∙ h))

  -- it leaves its call
  pub call-gone : (n : Name) → leaves e.what ≡ true → is_task e.who n ≡ true → notifies e.what ≡ false → call_of (e ∷ K) n ≡ None
  call-gone n h t f = by (call_of (e ∷ K) n) refl
    where
      by : (o : Option ℕ) → call_of (e ∷ K) n ≡ o → call_of (e ∷ K) n ≡ None
      by None q = q
      by (Some c) q =
          let w = waits-in-call (e ∷ K) n c q in
          elim (listed-cases e K c w.0) [
            | inl x ↦ absurd (both_ways (notifies e.what) f x.1)
            | inr x ↦
                let r : caller K c ≡ n = sym (caller-older e K c x.0) ∙ w.1 in
                let u : unlists e (caller K c) ≡ false = x.2 in
                absurd (never (closes e.what) (leaves e.what) (is_task e.who (caller K c)) h (rw r t) u)
          ]
        where
          never : (a b c : Bool) → b ≡ true → c ≡ true → (a || (b && c)) ≡ false → ⊥
          never true b c x y z = cc
          never false b c x y z = cc
