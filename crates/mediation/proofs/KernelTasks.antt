-- Tasks: their PIDs, their calls, their places, and their names.
-- By induction on a history of the kernel, with the row of its newest step.
use Rattle.hist_model.specs.Steps.{IsOfKernel}
use Rattle.mediation.proofs.Common.{[], Actor, alive, and_from, ap, append_cancel_right, arith, below_or_last, call_of, caller, CallsAreLast, cases_Bool, child_of, ended, ends, ev, Event}
use Rattle.mediation.proofs.Common.{event_at, event_at-here, event_at-older, false, false_from_ne_true, given, given_in, holder, inl, inr, is_made, is_passive, is_spawn, is_task}
use Rattle.mediation.proofs.Common.{last_own, length, List, listed, makes, makes_in, Name, name_eq, name_eq-refl, name_eq-true, name_of, NamesDiffer, newest, newest-found, newest-some, None}
use Rattle.mediation.proofs.Common.{notifies, oldest-found, oldest-some, Option, or_cases, pid_of, pid_or, PidsDiffer, reaped, reaps, refl, reverse, reverse-append}
use Rattle.mediation.proofs.Common.{Some, steps_of, System, task_name, task_place, true, unlists, was_waited_for, What, ℕ, ◌&&◌, ◌++◌, ◌+◌, ◌<◌, ◌∷◌, ◌≡◌, ◌≤◌, ◌⊎◌}
use Rattle.history_frames.proofs.Groups.{place-kept}
use Rattle.history_frames.proofs.Listed.{listed-below, listed-here, listed-older}
use Rattle.history_frames.proofs.Held.{holder-is, holds-below, names-more, next-free, pids-more}
use Rattle.history_frames.proofs.Ordinals.{makes-below}
use Rattle.mediation.proofs.KernelRows.{KernelRow, by-kernel-steps}

-- two names differ or are one
pub same-name : (n m : Name) → (name_eq n m ≡ false) ⊎ (n ≡ m)
same-name n m = elim (cases_Bool (name_eq n m)) [ inl q ↦ inr (name_eq-true n m q) | inr q ↦ inl q ]

-- the newest event
pub event_at-last : (e : Event) (K : List Event) (c : ℕ) → c ≡ length K → event_at (e ∷ K) c ≡ Some e
event_at-last e K c q = rw (q, event_at-here)

-- ---- unreaped tasks have different PIDs

-- a step that gives a number gives a free one
given-free : (S : System) (K : List Event) (a : Actor) (w : What) (p : ℕ) → KernelRow S K a w → given w ≡ Some p → holder K p ≡ None
unfolding holder newest
given-free S K a w p r g = grind (arith, next-free)

pub pids_differ : (S : System) (K : List Event) → IsOfKernel S K → PidsDiffer K
pids_differ S = by-kernel-steps S PidsDiffer (λ p t u h g. absurd (omega (arith, holds-below [] p t h))) (λ K e history r. pids-more e K (λ q. given-free S K e.who e.what q r))

-- ---- a listed call's task lives, and its last own event is that call

pub listed-was : (e : Event) (K : List Event) (c : ℕ) → c < length K → listed (e ∷ K) c ≡ true → listed K c ≡ true
listed-was e K c l h = grind (arith, listed-older)

-- the call in which a task waits is listed, and the task's
pub waits-in-call : (K : List Event) (n : Name) (c : ℕ) → call_of K n ≡ Some c → (listed K c ≡ true) × (caller K c ≡ n)
unfolding call_of
waits-in-call K n c q = grind (arith, newest-some, name_eq-true)

-- the task of a listed call waits in some call
waits-in_some : (K : List Event) (c : ℕ) → listed K c ≡ true → call_of K (caller K c) ≡ None → ⊥
unfolding call_of
waits-in_some K c h e =
    newest-found (λ d. listed K d && name_eq (caller K d) (caller K c)) (length K) c (listed-below K c h) (and_from (listed K c) (name_eq (caller K c) (caller K c)) h (name_eq-refl (caller K c))) e

-- while its call stays listed, a task only installs or skips
idle : (S : System) (K : List Event) (a : Actor) (w : What) (n : Name) → KernelRow S K a w → (call_of K n ≡ None → ⊥) → unlists (ev a w) n ≡ false
    → (is_task a n ≡ false) ⊎ ((is_passive w ≡ true) × (ends w ≡ false))
idle S K a w n r h g = grind (arith, same-name)

old-last : (S : System) (K : List Event) (e : Event) (c : ℕ) → KernelRow S K e.who e.what → listed K c ≡ true → unlists e (caller K c) ≡ false
    → (alive K (caller K c) ≡ true) × (last_own K (caller K c) ≡ Some c) → (alive (e ∷ K) (caller K c) ≡ true) × (last_own (e ∷ K) (caller K c) ≡ Some c)
unfolding ended is_made last_own
old-last S K e c r h u l = grind (arith, idle, waits-in_some)

new-last : (S : System) (K : List Event) (e : Event) → KernelRow S K e.who e.what → notifies e.what ≡ true
    → (alive (e ∷ K) (task_name e.who) ≡ true) × (last_own (e ∷ K) (task_name e.who) ≡ Some (length K))
unfolding last_own ended is_made
new-last S K e r h = grind (arith, name_eq-refl)

pub calls_are_last : (S : System) (K : List Event) → IsOfKernel S K → CallsAreLast K
calls_are_last S = by-kernel-steps S CallsAreLast (λ c h. absurd (omega (arith, listed-below [] c h))) (λ K e history r ih c h. elim (below_or_last c (length K) (listed-below (e ∷ K) c h)) [
  | inl l ↦ let w = listed-was e K c l h in let o = old-last S K e c r w in let i = ih c w in grind (arith, listed-older, event_at-older)
  | inr q ↦ let n : notifies e.what ≡ true = rw listed-here at (rw q at h) in rw (q, event_at-here) (new-last S K e r n)
])

-- the task of a listed call waits in it
pub waits-here : (S : System) (K : List Event) (c : ℕ) → IsOfKernel S K → listed K c ≡ true → call_of K (caller K c) ≡ Some c
waits-here S K c history l = go (call_of K (caller K c)) refl
  where
    go : (o : Option ℕ) → call_of K (caller K c) ≡ o → call_of K (caller K c) ≡ Some c
    go None q = absurd (waits-in_some K c l q)
    go (Some d) q = let w = waits-in-call K (caller K c) d q in let k = (calls_are_last S K history d w.0).1 in cc (w.1, k, (calls_are_last S K history c l).1)

-- ---- the places of tasks

pub place-is : (K : List Event) (n : Name) (t : ℕ) → task_place K n ≡ Some t → (makes_in (event_at K t) ≡ true) × (name_eq (name_of K t) n ≡ true) × (t < length K)
unfolding task_place
place-is K n t q = grind (arith, oldest-some)

pub made-place : (K : List Event) (n : Name) → is_made K n ≡ true → (t : ℕ) × (task_place K n ≡ Some t)
unfolding is_made task_place
made-place [] n h = cc
made-place (e ∷ K) n h = elim (or_cases (makes e.what && name_eq (child_of e.what) n) (is_made K n) h) [
  | inl q ↦ oldest-found (λ u. makes_in (event_at (e ∷ K) u) && name_eq (name_of (e ∷ K) u) n) (length (e ∷ K)) (length K) (omega arith) (rw event_at-here q)
  | inr q ↦ let m = made-place K n q in (m.0, place-kept e K n m.0 m.1)
]

pub makes-pid : (o : Option Event) → makes_in o ≡ true → given_in o ≡ Some (pid_or (given_in o))
makes-pid o h = grind arith

-- ---- who holds a living task's number

-- a wait reaps an ended task
reaps-ended : (S : System) (K : List Event) (a : Actor) (w : What) (m : Name) → KernelRow S K a w → reaps w m ≡ true → ended K m ≡ true
reaps-ended S K a w m r h = grind (arith, oldest-some, same-name)

waited-ended : (S : System) (K : List Event) → IsOfKernel S K → (m : Name) → was_waited_for K m ≡ true → ended K m ≡ true
unfolding was_waited_for ended
waited-ended S = by-kernel-steps S (λ K. (m : Name) → was_waited_for K m ≡ true → ended K m ≡ true) (λ m h. cc) (λ K e history r ih m h. grind (arith, reaps-ended))

-- a living task holds its number
pub living-holder : (S : System) (K : List Event) (m : Name) (t p : ℕ) → IsOfKernel S K → alive K m ≡ true → task_place K m ≡ Some t → pid_of K t ≡ Some p → holder K p ≡ Some t
unfolding reaped
living-holder S K m t p history h q g =
    let n = name_eq-true (name_of K t) m (place-is K m t q).1 in
    let u : reaped K m ≡ false = grind (arith, waited-ended) in
    holder-is K p t (pids_differ S K history) (rw (g, n, u) (grind arith))

-- ---- a child's name is new

snoc-same : (n m : Name) (k l : ℕ) → n ++ k ∷ [] ≡ m ++ l ∷ [] → (n ≡ m) × (k ≡ l)
snoc-same n m k l h =
    let r : k ∷ reverse n ≡ l ∷ reverse m = simp reverse-append at (ap reverse h) in
    let q : k ≡ l = cc in
    (append_cancel_right n m (l ∷ []) (rw q at h), q)

-- a child's last number is at most the number of its parent's spawns
children-numbered : (S : System) (K : List Event) → IsOfKernel S K → (n : Name) (k : ℕ) → is_made K (n ++ k ∷ []) ≡ true → k ≤ steps_of is_spawn K n
unfolding is_made steps_of
children-numbered S = by-kernel-steps S (λ K. (n : Name) (k : ℕ) → is_made K (n ++ k ∷ []) ≡ true → k ≤ steps_of is_spawn K n) (λ n k h. cc)
    (λ K e history r ih n k h. let s = snoc-same n [] k 0 in grind (arith, same-name, snoc-same, name_eq-refl))

child-fresh : (S : System) (K : List Event) (n : Name) → IsOfKernel S K → is_made K (n ++ (steps_of is_spawn K n + 1) ∷ []) ≡ false
child-fresh S K n history = false_from_ne_true _ (λ h. let x = children-numbered S K history n (steps_of is_spawn K n + 1) h in absurd (omega arith))

-- the name of a new task is new
new-name : (S : System) (K : List Event) (a : Actor) (w : What) → IsOfKernel S K → KernelRow S K a w → makes w ≡ true → is_made K (child_of w) ≡ false
unfolding is_made
new-name S K a w history r h = grind (arith, child-fresh)

pub names_differ : (S : System) (K : List Event) → IsOfKernel S K → NamesDiffer K
names_differ S = by-kernel-steps S NamesDiffer (λ t u m k q. absurd (omega (arith, makes-below [] t m))) (λ K e history r. names-more e K (new-name S K e.who e.what history r))
