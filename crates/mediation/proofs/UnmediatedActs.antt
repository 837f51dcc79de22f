-- Small histories with an act that rests on too little are not mediated.
-- By computing the part that is broken, for the act at the end; each act of a mediated history has it.
use Rattle.std.proofs.Common.{[], ap, arith, List, None, Option, refl, Some, ℕ, ◌∷◌, ◌≡◌}
use Rattle.hist_model.specs.Calls.{fetched, listed, named, queue, settled}
use Rattle.hist_model.specs.Copies.{heard, progress, read_text}
use Rattle.hist_model.specs.Decisions.{decide, decide_from, fits}
use Rattle.hist_model.specs.ReportAudit.{session_at}
use Rattle.hist_model.specs.Laws.{fetcher}
use Rattle.hist_model.specs.Legal.{rules_of}
use Rattle.hist_model.specs.Look.{before, ev, event_at, newest, oldest}
use Rattle.hist_model.specs.Mediated.{ActIsGranted, AuditNames, BaseIs, Each, HasMemory, IsMediated, PlantIsGranted, PutIsInjected, WaitedUntilChecked}
use Rattle.hist_model.specs.Sessions.{first_some, outcome_in, session}
use Rattle.hist_model.specs.Steps.{group, mem, oldest_unfetched, session_call, task_place}
use Rattle.hist_model.specs.Tasks.{ended, holder, reaped, was_waited_for}
use Rattle.hist_model.specs.declared.event.Event.{Event}
use Rattle.hist_model.specs.Requests.{argument, request}
use Rattle.hist_model.specs.declared.policy.Policy.{Policy}
use Rattle.hist_model.specs.declared.script.Script.{Script}
use Rattle.mediation.proofs.Unmediated.{breaks, unlike}
use Rattle.mediation.specs.Unmediated.{asked, Breaks, container, effect_before_check, figures, file, history, making, node, notified, rules, Turns}
use Rattle.mediation.specs.UnmediatedActs.{act_after_interrupt, act_again, act_by_other_notification, act_by_reused_number, act_for_another, act_on_fault, act_unread, act_without_call}
use Rattle.mediation.specs.UnmediatedActs.{act_unnamed, plant_again, plant_unnamed, planting, put_again, put_unnamed}
use Rattle.hist_model.specs.declared.event.What.TheVariants.{AddfdPut, Recv}
use Rattle.mediation.specs.Refused.{worker}
use Rattle.std.specs.Prelude.{Ok}
use Rattle.mediation.specs.UnmediatedActs.{AtActs, HasCall, HasNoFault, HasNotification, HasWhole, IsChecked, IsFetcher, IsFirst, OfCall}
use Rattle.sys_abi.specs.declared.wire.Notif.{Notif}

-- what of the grant of an act tells a part of it
abbrev pub Tells : Policy → Script → (List Event → ℕ → Type 0) → Type 0
Tells P S Part = (K : List Event) (w c : ℕ) (n : Notif) → IsMediated (rules_of P S.figures) K w c n → first_some outcome_in (session K w) ≡ None → BaseIs S K w c n ((rules_of P S.figures).dirfd n) → Part K w

-- each act then has this part
pub at-acts : (P : Policy) (S : Script) (Part : List Event → ℕ → Type 0) → Tells P S Part → (K : List Event) → Each (ActIsGranted P S) K → AtActs Part K
at-acts P S Part f [] h = tt
at-acts P S Part f (e ∷ K) h = (λ w q cap a who what. let z = h.0 w q cap a who what in f K w z.call z.received z.mediated z.is_first z.from_base, at-acts P S Part f K h.1)

breaks-part : (Part : List Event → ℕ → Type 0) → Tells rules container Part → (steps : Turns) → (AtActs Part (history steps) → ⊥) → Breaks (AtActs Part) steps
breaks-part Part f steps refuted = breaks (AtActs Part) steps (λ m. at-acts rules container Part f (history steps) m.effects.acts) refuted

without-call : Breaks (AtActs HasCall) act_without_call
unfolding session_call
without-call = breaks-part HasCall (λ K w c n m o b. (c, m.of_call)) act_without_call (λ h. cc ((h.0 0 _ _ _ refl refl).1))

for-another : Breaks (AtActs (OfCall IsFetcher)) act_for_another
unfolding fetcher session_call oldest_unfetched fetched listed named oldest event_at
for-another = breaks-part (OfCall IsFetcher) (λ K w c n m o b. (c, m.of_call, m.fetched_by)) act_for_another (λ h.
    let z = h.0 0 _ _ _ refl refl in
    let c : z.0 ≡ 2 = cc (z.1) in
    cc (rw c at z.2))

-- the device of a notification of mknod
device : Option Notif → ℕ
device (Some n) = argument n.call.args 2
device None = 0

by-other-notification : Breaks (AtActs (OfCall HasNotification)) act_by_other_notification
unfolding session session_call oldest_unfetched fetched listed named oldest event_at task_place device
by-other-notification = breaks-part (OfCall HasNotification) (λ K w c n m o b. (c, m.of_call, rw (← m.of_notif) m.notif_is)) act_by_other_notification (λ h.
    let z = h.0 0 _ _ _ refl refl in
    let c : z.0 ≡ 2 = cc (z.1) in
    unlike 259 261 (ap device (rw c at z.2)) refl)

unread : Breaks (AtActs HasWhole) act_unread
unfolding session progress read_text
unread = breaks-part HasWhole (λ K w c n m o b. (n, m.notif_is, m.whole)) act_unread (λ h. let z = h.0 0 _ _ _ refl refl in let n : z.0 ≡ notified node 1 = cc (z.1) in cc (rw n at z.2))

on-fault : Breaks (AtActs HasNoFault) act_on_fault
unfolding session progress read_text
on-fault = breaks-part HasNoFault (λ K w c n m o b. (n, m.notif_is, m.no_fault)) act_on_fault (λ h. let z = h.0 0 _ _ _ refl refl in let n : z.0 ≡ notified node 1 = cc (z.1) in cc (rw n at z.2))

unchecked : Breaks (AtActs IsChecked) effect_before_check
unfolding session
unchecked = breaks-part IsChecked (λ K w c n m o b. m.checked) effect_before_check (λ h. omega (arith, h.0 0 _ _ _ refl refl))

-- before the second check the call isn't listed
after-interrupt : Breaks (AtActs (OfCall WaitedUntilChecked)) act_after_interrupt
unfolding before session session_call oldest_unfetched settled queue fetched listed named oldest event_at
after-interrupt = breaks-part (OfCall WaitedUntilChecked) (λ K w c n m o b. (c, m.of_call, m.waited)) act_after_interrupt (λ h.
    let z = h.0 0 _ _ _ refl refl in
    let c : z.0 ≡ 2 = cc (z.1) in
    let v = rw c at z.2 in
    cc (v 9 (omega arith) refl refl))

-- the memory is that of the task at place 7, and the call's task is at place 1
by-reused-number : Breaks (AtActs (OfCall HasMemory)) act_by_reused_number
unfolding mem group task_place holder reaped ended was_waited_for session_call oldest_unfetched fetched listed named newest oldest event_at
by-reused-number = breaks-part (OfCall HasMemory) (λ K w c n m o b. (c, m.of_call, m.memory)) act_by_reused_number (λ h.
    let z = h.0 0 _ _ _ refl refl in
    let c : z.0 ≡ 3 = cc (z.1) in
    let v = rw c at z.2 in
    cc (v.opened_is, v.of_caller))

again : Breaks (AtActs IsFirst) act_again
unfolding session
again = breaks-part IsFirst (λ K w c n m o b. o) act_again (λ h. cc (h.0 0 _ _ _ refl refl))

plant-again : Breaks (Each (PlantIsGranted rules container)) plant_again
unfolding session
plant-again = breaks (Each (PlantIsGranted rules container)) plant_again (λ m. m.effects.plants) (λ h. cc ((h.0 0 _ _ _ _ refl refl).is_first))

put-again : Breaks (Each (PutIsInjected rules container)) put_again
unfolding session
put-again = breaks (Each (PutIsInjected rules container)) put_again (λ m. m.effects.puts) (λ h. cc ((h.0 0 _ _ refl refl).is_first))

pub second_uses : Breaks (AtActs IsFirst) act_again × Breaks (Each (PlantIsGranted rules container)) plant_again × Breaks (Each (PutIsInjected rules container)) put_again
second_uses = (again, plant-again, put-again)

-- ---- the audit of a use

-- the audit has the session of the one receive
began-act : (r : ℕ) → event_at (history act_unnamed) r ≡ Some (ev worker (Recv (Ok (notified node 1)))) → r ≡ 3
unfolding event_at
began-act r h = grind arith

act-unnamed : Breaks (AuditNames rules) act_unnamed
unfolding event_at before session progress read_text request fits decide_from decide session_at heard
act-unnamed = breaks (AuditNames rules) act_unnamed (λ m. m.answers.audit) (λ h. let z = h 9 0 making (notified node 1) refl refl refl in cc ((rw (began-act z.place z.receive) at z.finds).finding))

began-put : (r : ℕ) → event_at (history put_unnamed) r ≡ Some (ev worker (Recv (Ok (notified file 1)))) → r ≡ 3
unfolding event_at
began-put r h = grind arith

put-unnamed : Breaks (AuditNames rules) put_unnamed
unfolding event_at before session progress read_text request fits decide_from decide session_at heard
put-unnamed = breaks (AuditNames rules) put_unnamed (λ m. m.answers.audit) (λ h. let z = h 9 0 (AddfdPut asked (Ok tt)) (notified file 1) refl refl refl in cc ((rw (began-put z.place z.receive) at z.finds).finding))

began-plant : (r : ℕ) → event_at (history plant_unnamed) r ≡ Some (ev worker (Recv (Ok (notified figures 1)))) → r ≡ 2
unfolding event_at
began-plant r h = grind arith

plant-unnamed : Breaks (AuditNames rules) plant_unnamed
unfolding event_at before session progress read_text request fits decide_from decide session_at heard
plant-unnamed = breaks (AuditNames rules) plant_unnamed (λ m. m.answers.audit) (λ h. let z = h 6 0 planting (notified figures 1) refl refl refl in cc ((rw (began-plant z.place z.receive) at z.finds).finding))

pub unnamed_uses : Breaks (AuditNames rules) act_unnamed × Breaks (AuditNames rules) plant_unnamed × Breaks (AuditNames rules) put_unnamed
unnamed_uses = (act-unnamed, plant-unnamed, put-unnamed)

pub unfounded_acts : Breaks (AtActs HasCall) act_without_call × Breaks (AtActs (OfCall IsFetcher)) act_for_another × Breaks (AtActs (OfCall HasNotification)) act_by_other_notification × Breaks (AtActs HasWhole) act_unread
    × Breaks (AtActs HasNoFault) act_on_fault × Breaks (AtActs IsChecked) effect_before_check × Breaks (AtActs (OfCall WaitedUntilChecked)) act_after_interrupt × Breaks (AtActs (OfCall HasMemory)) act_by_reused_number
unfounded_acts = (without-call, for-another, by-other-notification, unread, on-fault, unchecked, after-interrupt, by-reused-number)
