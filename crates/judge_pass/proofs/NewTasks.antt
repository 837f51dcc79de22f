-- What is kept of a task that is made: it has taken no step, and waits in no call.
-- By induction on a history of the kernel, whose tasks were made before they step.
use Rattle.std.proofs.Common.{◌≡◌, ℕ, ◌<◌, Bool, true, false, ◌&&◌, ◌||◌, List, [], ◌∷◌, length, refl, sym, ◌∙◌, subst, arith, inl, inr, Option, Some, None, ◌⊎◌}
use Rattle.std.specs.Prelude.{if◌then◌else◌}
use Rattle.std.proofs.lemmas.Bool.{and_parts, both_ways, cases_Bool}
use Rattle.broker_verdict.proofs.Own.{hand_call}
use Rattle.broker_verdict.specs.Effects.{seat_call}
use Rattle.broker_verdict.specs.Seats.{of_call}
use Rattle.hist_model.specs.Calls.{caller, is_call}
use Rattle.hist_model.specs.Kinds.{enters, makes, notifies}
use Rattle.hist_model.specs.Legal.{system_of}
use Rattle.hist_model.specs.Look.{is_task, Name, name_eq, task_name}
use Rattle.hist_model.specs.Memory.{last_call}
use Rattle.hist_model.specs.Signals.{call_of}
use Rattle.hist_model.specs.Steps.{IsOfKernel, session_call}
use Rattle.hist_model.specs.Systems.{System}
use Rattle.hist_model.specs.Tasks.{child_of, is_made}
use Rattle.hist_model.specs.declared.event.Actor.{Actor}
use Rattle.hist_model.specs.declared.event.Actor.TheVariants.{Listener, Start, Task, Worker}
use Rattle.hist_model.specs.declared.event.Event.{Event}
use Rattle.hist_model.specs.declared.event.What.{What}
use Rattle.hist_model.specs.declared.event.What.TheVariants.{Skip}
use Rattle.hist_model.specs.declared.script.Script.{Script}
use Rattle.hist_model.proofs.Look.{event_at-here, event_at-older, name_eq-true}
use Rattle.history_frames.specs.Ordinals.{groups_made, tasks_made}
use Rattle.history_frames.proofs.Held.{older-made}
use Rattle.history_frames.proofs.Listed.{caller-older, is_call-below, listed-cases, listed-is_call}
use Rattle.mediation.proofs.KernelRows.{by-kernel-steps, KernelRow}
use Rattle.mediation.proofs.KernelTasks.{made-place, names_differ, place-is, waits-in-call}
use Rattle.tasks.proofs.Named.{name-new}
use Rattle.tasks.specs.Fold.{IsGroupOf}
use Rattle.judge_pass.specs.Stands.{effects_for, gives_to, IsTask, IsTaskOf}
use Rattle.judge_pass.specs.declared.task_table.Entry.TheVariants.{Other}
use Rattle.judge_pass.specs.declared.task_table.Task.{Task as TaskRow}
use Rattle.history_frames.proofs.Ordinals.{place-below}
use Rattle.history_frames.specs.Ordinals.{makes_group}

-- a task that enters a call was made
enter-row : (S : System) (K : List Event) (a : Actor) (w : What) → KernelRow S K a w → enters w ≡ true → is_made K (task_name a) ≡ true
enter-row S K Start w r h = grind arith
enter-row S K (Task n) w r h = grind (arith, and_parts)
enter-row S K (Worker v) w r h = grind arith
enter-row S K Listener w r h = grind arith

notifies-enters : (w : What) → notifies w ≡ true → enters w ≡ true
notifies-enters w h = grind arith

-- and so was the task of a call
pub caller-made : (S : System) (K : List Event) → IsOfKernel S K → (c : ℕ) → is_call K c ≡ true → is_made K (caller K c) ≡ true
caller-made S = by-kernel-steps S (λ K. (c : ℕ) → is_call K c ≡ true → is_made K (caller K c) ≡ true) (λ c h. absurd (omega (arith, is_call-below [] c h))) (λ K e history row ih c h. by K e row ih c h (cases K e c h))
  where
    cases : (K : List Event) (e : Event) (c : ℕ) → is_call (e ∷ K) c ≡ true → (c ≡ length K) ⊎ (c < length K)
    cases K e c h = let l = is_call-below (e ∷ K) c h in grind arith

    by : (K : List Event) (e : Event) → KernelRow S K e.who e.what → ((c : ℕ) → is_call K c ≡ true → is_made K (caller K c) ≡ true) → (c : ℕ) → is_call (e ∷ K) c ≡ true → (c ≡ length K) ⊎ (c < length K)
        → is_made (e ∷ K) (caller (e ∷ K) c) ≡ true
    by K e row ih c h (inl q) =
        let k : notifies e.what ≡ true = rw (q, event_at-here) at h in
        rw (q, event_at-here) (older-made e K (task_name e.who) (enter-row S K e.who e.what row (notifies-enters e.what k)))
    by K e row ih c h (inr l) =
        let k : is_call K c ≡ true = rw (event_at-older e K c l) at h in
        rw (caller-older e K c l) (older-made e K (caller K c) (ih c k))

-- without a task of this name, none has entered a call, and none has an effect for its calls
pub unmade-last : (S : System) (K : List Event) → IsOfKernel S K → (n : Name) → is_made K n ≡ false → last_call K n ≡ Skip
unfolding last_call is_made
unmade-last S = by-kernel-steps S (λ K. (n : Name) → is_made K n ≡ false → last_call K n ≡ Skip) (λ n h. refl) (λ K e history row ih n h.
    let old : is_made K n ≡ false = or-right (makes e.what && name_eq (child_of e.what) n) (is_made K n) h in
    elim (cases_Bool (is_task e.who n && enters e.what)) [
      | inr q ↦ rw q (ih n old)
      | inl q ↦
          let p = and_parts (is_task e.who n) (enters e.what) q in
          let m : is_made K (task_name e.who) ≡ true = enter-row S K e.who e.what row p.1 in
          absurd (both_ways (is_made K n) old (rw (named e.who n p.0) at m))
    ])
  where
    or-right : (a b : Bool) → (a || b) ≡ false → b ≡ false
    or-right a b h = grind arith

    named : (a : Actor) (n : Name) → is_task a n ≡ true → task_name a ≡ n
    named Start n h = cc
    named (Task m) n h = name_eq-true m n h
    named (Worker w) n h = cc
    named Listener n h = cc

pub unmade-effects : (S : System) (K : List Event) → IsOfKernel S K → (n : Name) → is_made K n ≡ false → effects_for K n ≡ []
unfolding effects_for is_made
unmade-effects S = by-kernel-steps S (λ K. (n : Name) → is_made K n ≡ false → effects_for K n ≡ []) (λ n h. refl) (λ K e history row ih n h.
    let old : is_made K n ≡ false = or-right (makes e.what && name_eq (child_of e.what) n) (is_made K n) h in
    rw (none K e history n old) (ih n old))
  where
    or-right : (a b : Bool) → (a || b) ≡ false → b ≡ false
    or-right a b h = grind arith

    never : (a : Bool) → (a && false) ≡ false
    never true = refl
    never false = refl

    hand : (K : List Event) → IsOfKernel S K → (n : Name) → is_made K n ≡ false → (w : ℕ) (o : Option ℕ) → session_call K w ≡ o → of_call o (λ c. name_eq (caller K c) n) ≡ false
    hand K history n old w None q = refl
    hand K history n old w (Some c) q = elim (cases_Bool (name_eq (caller K c) n)) [
      | inr f ↦ f
      | inl t ↦
          let m = caller-made S K history c (hand_call K w c q) in
          absurd (both_ways (is_made K n) old (rw (name_eq-true (caller K c) n t) at m))
    ]

    seat : (K : List Event) → IsOfKernel S K → (n : Name) → is_made K n ≡ false → (a : Actor) → of_call (seat_call K a) (λ c. name_eq (caller K c) n) ≡ false
    seat K history n old Start = refl
    seat K history n old (Task m) = refl
    seat K history n old (Worker w) = hand K history n old w (session_call K w) refl
    seat K history n old Listener = refl

    none : (K : List Event) (e : Event) → IsOfKernel S K → (n : Name) → is_made K n ≡ false → gives_to K e n ≡ false
    none K e history n old = rw (seat K history n old e.who) (never _)

module _ (S : Script) (e : Event) (K : List Event) (history : IsOfKernel (system_of S) (e ∷ K)) (m : makes e.what ≡ true) where
  -- the name is new
  pub child-new : is_made K (child_of e.what) ≡ false
  child-new = elim (cases_Bool (is_made K (child_of e.what))) [
    | inr q ↦ q
    | inl q ↦
        let p = made-place K (child_of e.what) q in
        let t = place-is K (child_of e.what) p.0 p.1 in
        let here = event_at-here e K in
        let there = event_at-older e K p.0 t.2 in
        let same = names_differ (system_of S) (e ∷ K) history p.0 (length K) (rw there t.0) (rw here m) (rw (there, here) (name_eq-true _ _ t.1)) in
        absurd (omega (arith, same, t.2))
  ]

  waits-not : (makes-not : notifies e.what ≡ false) → call_of (e ∷ K) (child_of e.what) ≡ None
  waits-not f = by (call_of (e ∷ K) (child_of e.what)) refl
    where
      by : (o : Option ℕ) → call_of (e ∷ K) (child_of e.what) ≡ o → call_of (e ∷ K) (child_of e.what) ≡ None
      by None q = q
      by (Some c) q =
          let w = waits-in-call (e ∷ K) (child_of e.what) c q in
          elim (listed-cases e K c w.0) [
            | inl x ↦ absurd (both_ways (notifies e.what) f x.1)
            | inr x ↦
                let r : caller K c ≡ child_of e.what = sym (caller-older e K c x.0) ∙ w.1 in
                let y = caller-made (system_of S) K history.1 c (listed-is_call K c x.1) in
                absurd (both_ways (is_made K (child_of e.what)) child-new (rw r at y))
          ]

  makes-only : (notifies e.what ≡ false) × (enters e.what ≡ false)
  makes-only = grind arith

  last-skip : last_call (e ∷ K) (child_of e.what) ≡ Skip
  unfolding last_call
  last-skip = rw makes-only.1 (quiet (is_task e.who (child_of e.what)) (unmade-last (system_of S) K history.1 (child_of e.what) child-new))
    where
      quiet : {x : What} (b : Bool) → x ≡ Skip → (if b && false then e.what else x) ≡ Skip
      quiet true h = h
      quiet false h = h

  none-given : gives_to K e (child_of e.what) ≡ false
  none-given = grind arith

  no-effects : effects_for (e ∷ K) (child_of e.what) ≡ []
  unfolding effects_for
  no-effects = rw none-given (unmade-effects (system_of S) K history.1 (child_of e.what) child-new)

  -- a task without steps, in this group
  pub new-task : (t : TaskRow) (g : ℕ) → IsGroupOf (e ∷ K) (child_of e.what) g → t.group ≡ g → t.call ≡ None → t.entered ≡ Other → t.untold.items ≡ []
      → IsTask (e ∷ K) (tasks_made K) t
  new-task t g in_group q call entered untold =
      let l : g < groups_made (e ∷ K) = (place-below makes_group (e ∷ K) g in_group.0 in_group.1).0 in
      subst (λ (n : Name). IsTaskOf (e ∷ K) n t) (sym (name-new e K m)) (record {
        group_is = rw q (in_group.2 ∙ sym in_group.1);
        group_made = rw q l;
        call_is = rw call (waits-not makes-only.0);
        call_made = rw call tt;
        entered_is = rw (entered, last-skip) (λ z. cc, λ z. cc);
        untold_are = untold ∙ sym no-effects;
      })
