-- Tests of the call that a seat has in hand, and groups of tasks, by what is kept.
-- By what the tables stand for.
use Rattle.std.proofs.Common.{◌≡◌, ℕ, ◌<◌, Bool, true, false, ◌&&◌, List, ◌∷◌, length, refl, sym, ap, ◌∙◌, subst, arith, inl, inr, Option, Some, None}
use Rattle.std.specs.Prelude.{get_or, if◌then◌else◌, IfSome, is_none as not_some, is_some, not, ◌==◌, ℤ}
use Rattle.std.proofs.lemmas.Bool.{cases_Bool, eq-eqb, eqb-true}
use Rattle.broker_verdict.specs.Seats.{directory_named, dirfd_of_call, Foreign, Fresh, has_no_base, is_base, is_dirfd, is_of_call, is_own_id, of_call, Stale, worth_now}
use Rattle.hist_model.specs.Calls.{caller, listed}
use Rattle.hist_model.specs.Look.{is_place}
use Rattle.hist_model.specs.Memory.{group_named}
use Rattle.hist_model.specs.Steps.{opened, place_or, session_call}
use Rattle.hist_model.specs.Files.{files}
use Rattle.hist_model.specs.Natives.{base_of}
use Rattle.hist_model.specs.Requests.{base_dirfd}
use Rattle.hist_model.specs.Trees.{ordinal_of}
use Rattle.hist_model.specs.declared.request.NodeRef.{NodeRef}
use Rattle.judge_pass.specs.Tables.{dirfd_named}
use Rattle.hist_model.specs.Legal.{system_of}
use Rattle.hist_model.specs.Kinds.{notifies}
use Rattle.hist_model.specs.Tasks.{holder, is_none, name_of}
use Rattle.hist_model.proofs.Look.{name_eq-true}
use Rattle.history_frames.proofs.Ordinals.{place-below, place-makes}
use Rattle.tasks.proofs.Named.{name-made}
use Rattle.hist_model.specs.declared.event.Event.{Event}
use Rattle.hist_model.specs.declared.policy.Policy.{Policy}
use Rattle.hist_model.specs.declared.script.Script.{Script}
use Rattle.history_frames.specs.Ordinals.{count_of, group_of, groups_made, makes_group, task_name_of}
use Rattle.mediation.proofs.KernelTasks.{made-place, names_differ, place-is}
use Rattle.judge_pass.specs.Stands.{IsBelow, IsCall, IsHistory, IsSeat, IsTask, place_of_call, place_of_group, Stands}
use Rattle.judge_pass.specs.Takes.{HasHolder}
use Rattle.judge_pass.specs.declared.calls.Call.{Call}
use Rattle.judge_pass.specs.declared.judge.Judge.{Judge}
use Rattle.judge_pass.specs.declared.task_table.Task.{Task}
use Rattle.judge_pass.proofs.CallersGroup.{callers_group}
use Rattle.judge_pass.proofs.TaskRows.{call-kept}
use Rattle.broker_verdict.specs.Trusted.{is_left}
use Rattle.judge_pass.proofs.InHand.{Finds, IsInHand, nothing_found}
use Rattle.judge_pass.specs.Within.{calls_kept, IsCallWithin, IsWithin}
use Rattle.judge_pass.specs.declared.seats.Seat.{Seat}
use Rattle.judge_pass.proofs.SameGroups.{made_group, same_groups}

pub own-some : (S : Script) (K : List Event) (w x n : ℕ) (call : Call) → IsCall S K n call → session_call K w ≡ Some call.place → (call.called.id == x) ≡ is_own_id K w x
own-some S K w x n call h q = rw (q, h.called.id_is) refl

pub own-none : (K : List Event) (w x : ℕ) → session_call K w ≡ None → false ≡ is_own_id K w x
own-none K w x q = rw q refl

-- the group of the task that holds a PID
pub holders-group : (P : Policy) (S : Script) (K : List Event) (j : Judge) (task : Option ℕ) (o : ℕ) (t : Task) (pid : ℕ) → Stands P S K j → HasHolder K pid task → task ≡ Some o → t ≡ get_or j.tasks.items o t
    → opened K (holder K pid) ≡ place_of_group K (Some t.group)
holders-group P S K j task o t pid s holds q tq =
    let h : HasHolder K pid (Some o) = rw q at holds in
    let mine : IsTask K o t = subst (λ (x : Task). IsTask K o x) (sym tq) (s.tasks o t h.0) in
    let n = task_name_of K o in
    let p = made-place K n (name-made K o h.0) in
    let u = place-is K n p.0 p.1 in
    let named : name_of K h.1 ≡ n = rw h.3 refl in
    let same : p.0 ≡ h.1 = names_differ (system_of S) K s.history.of_kernel p.0 h.1 u.0 (place-makes K o h.1 h.3) (name_eq-true (name_of K p.0) n u.1 ∙ sym named) in
    ap (opened K) (h.2 ∙ (ap (λ (x : ℕ). Some x) (sym same) ∙ sym p.1)) ∙ mine.group_is

-- ---- how far a read can be relied on

same-place : (K : List Event) (g h m : ℕ) → g < groups_made K → h < groups_made K → group_of K h ≡ Some m → is_place (group_of K g) m ≡ (h == g)
same-place K g h m gm hm at = let e = same_groups K h g hm gm in rw at at e

-- the call with this number, by what is kept of it and of its task's group
module _ (P : Policy) (S : Script) (K : List Event) (j : Judge) (s : Stands P S K j) (seat : Seat) (call : Call) (hand : IsInHand j seat call) (low : IfSome seat.call (λ k. k < calls_kept j)) where
  low-number : hand.number < count_of notifies K
  low-number = let k = rw hand.has at low in omega (arith, k, s.calls_are)

  is-call : IsCall S K hand.number call
  is-call = subst (λ (x : Call). IsCall S K hand.number x) (sym hand.kept) (s.calls hand.number call low-number)

  at-place : place_of_call K seat.call ≡ Some call.place
  at-place = ap (place_of_call K) hand.has ∙ is-call.place_is

  module _ (own g m : ℕ) (known : (d : Task) → own ≡ (get_or j.tasks.items call.caller d).group) (at : place_of_group K (Some g) ≡ Some m) where
    test : is_place (group_named K (caller K call.place)) m ≡ (g == own)
    test =
        let c = callers_group P S K j hand.number call own s is-call known in
        ap (λ (o : Option ℕ). is_place o m) c.is ∙ same-place K own g m c.made (place-below makes_group K g m at).0 at

    pub worth-own : own ≡ g → (b : Bool) → call.is_listed ≡ b → (if b then Fresh else Stale) ≡ worth_now K (place_of_call K seat.call) m
    worth-own q b on =
        let l : listed K call.place ≡ b = is-call.listed_is ∙ on in
        rw (at-place, test, l, q, eq-eqb g g refl) refl

    pub worth-foreign : (own ≡ g → ⊥) → Foreign ≡ worth_now K (place_of_call K seat.call) m
    worth-foreign a =
        let f : (g == own) ≡ false = elim (cases_Bool (g == own)) [ inr z ↦ z | inl z ↦ absurd (a (sym (eqb-true g own z))) ] in
        rw (at-place, test, f) refl

pub worth-none : (K : List Event) (j : Judge) (seat : Seat) (m : ℕ) → IfSome seat.call (λ k. k < calls_kept j) → Finds j seat.call None → Foreign ≡ worth_now K (place_of_call K seat.call) m
worth-none K j seat m low h = rw (nothing_found K j seat.call low h) refl

-- its caller is one of the tasks that are kept
pub caller-within : (j : Judge) (seat : Seat) (call : Call) → IsWithin j → IsInHand j seat call → IfSome seat.call (λ k. k < calls_kept j) → call.caller < length j.tasks.items
caller-within j seat call w hand low =
    let k = rw hand.has at low in
    (subst (λ (x : Call). IsCallWithin j x) (sym hand.kept) (w.calls hand.number call k)).caller

-- the event is this one
pub as-event : (P : Policy) (S : Script) (K : List Event) (e f : Event) → e ≡ f → IsHistory S (e ∷ K) → (j : Judge) → (IsHistory S (f ∷ K) → Stands P S (f ∷ K) j) → Stands P S (e ∷ K) j
as-event P S K e f q history j h = subst (λ (x : Event). Stands P S (x ∷ K) j) (sym q) (h (subst (λ (x : Event). IsHistory S (x ∷ K)) q history))

pub below-some : (o : Option ℕ) (n m : ℕ) → n ≡ m → IfSome o (λ g. g < n) → IsBelow m o
below-some None n m q h = tt
below-some (Some g) n m q h = omega (arith, q, h)

-- ---- the directory of the call in hand

pub based-none : (S : Script) (K : List Event) (w : ℕ) (d : ℤ) → session_call K w ≡ None → false ≡ of_call (session_call K w) (λ c. has_no_base S K c d)
based-none S K w d q = rw q refl

none-same : (o : Option NodeRef) → is_none (ordinal_of o) ≡ not_some o
none-same None = refl
none-same (Some n) = refl

-- where a descriptor of a call's task leads
pub directory-is : (P : Policy) (S : Script) (K : List Event) (j : Judge) (n g : ℕ) (d : ℤ) (call : Call) (named : Option NodeRef) → Stands P S K j → IsCall S K n call
    → ((t : Task) → g ≡ (get_or j.tasks.items call.caller t).group) → ordinal_of named ≡ dirfd_named S j.directories.rows.items g d → directory_named S K call.place d ≡ ordinal_of named
directory-is P S K j n g d call named s h known leads =
    let c = callers_group P S K j n call g s h known in
    let p = made_group K g c.made in
    ap (λ (o : Option ℕ). base_of S (files S K) (place_or o) d) (c.is ∙ p.1) ∙ (s.directories g p.0 d p.1 ∙ sym leads)

pub based-some : (P : Policy) (S : Script) (K : List Event) (j : Judge) (w n g : ℕ) (d : ℤ) (call : Call) (named : Option NodeRef) → Stands P S K j → IsCall S K n call → session_call K w ≡ Some call.place
    → ((t : Task) → g ≡ (get_or j.tasks.items call.caller t).group) → ordinal_of named ≡ dirfd_named S j.directories.rows.items g d
    → (is_dirfd (base_dirfd call.called.nr call.called.args) d && not_some named) ≡ of_call (session_call K w) (λ c. has_no_base S K c d)
based-some P S K j w n g d call named s h hand known leads =
    let dirfd-is : dirfd_of_call K call.place ≡ base_dirfd call.called.nr call.called.args = rw (h.called.nr_is, h.called.args_are) refl in
    rw (hand, directory-is P S K j n g d call named s h known leads, dirfd-is, none-same named) refl

-- whether a directory is the one to which the call's descriptor leads
pub of-call-some : (P : Policy) (S : Script) (K : List Event) (j : Judge) (n g : ℕ) (d : ℤ) (call : Call) (named : Option NodeRef) (there : Option ℕ) → Stands P S K j → IsCall S K n call
    → ((t : Task) → g ≡ (get_or j.tasks.items call.caller t).group) → ordinal_of named ≡ dirfd_named S j.directories.rows.items g d → base_dirfd call.called.nr call.called.args ≡ Some d
    → is_base there (ordinal_of named) ≡ is_of_call S K call.place (dirfd_of_call K call.place) there
of-call-some P S K j n g d call named there s h known leads has =
    let dirfd-is : dirfd_of_call K call.place ≡ Some d = rw (h.called.nr_is, h.called.args_are) has in
    rw (dirfd-is, directory-is P S K j n g d call named s h known leads) refl

pub flip : (o : Option NodeRef) (b : Bool) → is_some o ≡ not b → b ≡ not_some o
flip None true h = refl
flip None false h = cc
flip (Some n) true h = cc
flip (Some n) false h = refl

-- ---- the call that a seat leaves

pub hand-leaves : (P : Policy) (S : Script) (K : List Event) (e : Event) (j : Judge) (w : ℕ) (seat : Seat) (b : Bool) → Stands P S K j → w < 17 → seat ≡ get_or j.seats.items w seat
    → b ≡ of_call (place_of_call (e ∷ K) seat.call) (is_left (e ∷ K)) → b ≡ of_call (session_call K w) (is_left (e ∷ K))
hand-leaves P S K e j w seat b s l q h =
    let is : IsSeat S K w seat = subst (λ (x : Seat). IsSeat S K w x) (sym q) (s.seats w seat l) in
    h ∙ ap (λ (c : Option ℕ). of_call c (is_left (e ∷ K))) (call-kept e K seat.call is.call_made ∙ sym is.call_is)

pub hand-below : (j : Judge) (w m : ℕ) (seat : Seat) → IsWithin j → w < 17 → seat ≡ get_or j.seats.items w seat → m ≡ calls_kept j → IfSome seat.call (λ k. k < m)
hand-below j w m seat h l q e = rw (e, q) (h.seats w seat l).call
