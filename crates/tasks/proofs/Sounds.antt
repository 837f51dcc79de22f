-- What holds of a history of tasks holds after each step.
-- By the one event that names, ordinals and counts look at first; what a step tells of it is in `StepFacts`.
use Rattle.std.proofs.Common.{◌≡◌, ◌⊎◌, inl, inr, ℕ, ◌+◌, ◌<◌, ◌≤◌, Bool, true, false, ◌&&◌, not, List, [], ◌∷◌, ◌++◌, length, Option, Some, None, refl, sym, ap, ◌∙◌, arith}
use Rattle.std.specs.Prelude.{if◌then◌else◌, ◌==◌, Ok}
use Rattle.std.proofs.lemmas.Bool.{cases_Bool, cases_lt, both_ways, and_parts, or_cases, false_from_ne_true}
use Rattle.hist_model.specs.Kinds.{makes, closes, notifies}
use Rattle.hist_model.specs.Legal.{system_of}
use Rattle.hist_model.specs.Look.{Name, name_eq, is_task, task_name, newest}
use Rattle.hist_model.specs.Memory.{last_call}
use Rattle.hist_model.specs.Signals.{call_of}
use Rattle.hist_model.specs.Steps.{counts, recounts, is_spawn, steps_of, next_child, start, owes_native}
use Rattle.hist_model.specs.Systems.{System}
use Rattle.hist_model.specs.Tasks.{ended, was_waited_for, reaps, is_made, child_of, given, holder, name_of, handles, disposition, pending, sends_signal, delivers, is_named}
use Rattle.hist_model.specs.declared.event.Actor.TheVariants.{Task}
use Rattle.hist_model.specs.declared.event.Event.{Event}
use Rattle.hist_model.specs.declared.event.Disposition.{Disposition}
use Rattle.hist_model.specs.declared.event.What.{What}
use Rattle.hist_model.specs.declared.event.What.TheVariants.{Spawn, Reap, Handler, Signal}
use Rattle.hist_model.specs.declared.script.Script.{Script}
use Rattle.hist_model.proofs.Look.{name_eq-true}
use Rattle.history_frames.specs.Ordinals.{count_of, tasks_made, task_name_of}
use Rattle.history_frames.proofs.Ordinals.{made-same, makes-below}
use Rattle.history_frames.proofs.Held.{pids-more, names-more, older-made, ended-more, waited-same, next-free, made-is, holder-holds, holds-makes, holds-below}
use Rattle.tasks.specs.Sound.{IsSound, IsUntouched, IsFirstOrChild, IsStepOf, IsOther, keeps_tasks}
use Rattle.tasks.proofs.Listed.{snoc-nil, snoc-parts}
use Rattle.tasks.proofs.Named.{name-kept, name-new, name-made, made-cases, made-ordinal, spawns-own, spawns-least}
use Rattle.tasks.proofs.Frames.{Leaves, never, names-apart, steps-left, owes-left, ended-left, last-left, call-left}
use Rattle.tasks.proofs.StepFacts.{Facts, step-facts}
use Rattle.tasks.proofs.Entries.{WaitInLast, entries-step, entries-other, entries-none, entries-first}
use Rattle.tasks.proofs.Places.{counts-more, facts-close}

-- a task that isn't made is none that was made
unmade-less : (e : Event) (K : List Event) (n : Name) → is_made (e ∷ K) n ≡ false → is_made K n ≡ false
unmade-less e K n h = false_from_ne_true (is_made K n) (λ q. both_ways (is_made (e ∷ K) n) h (older-made e K n q))

-- what an event tells that is the start, a task's step or no task's
pub record Fits (K : List Event) (e : Event) : Type 0 where
  pub unmade : is_made K (child_of e.what) ≡ false
  pub full : makes e.what ≡ true → child_of e.what ≡ [] → ⊥
  pub free : (q : ℕ) → given e.what ≡ Some q → holder K q ≡ None
  pub over : (m : Name) → reaps e.what m ≡ true → ended K m ≡ true
  pub first : makes e.what ≡ true → tasks_made K ≡ 0 → child_of e.what ≡ 0 ∷ []
  pub lineage : (m : Name) (k : ℕ) → makes e.what ≡ true → child_of e.what ≡ m ++ k ∷ [] → IsFirstOrChild (e ∷ K) m k
  pub left : (n : Name) → is_made K n ≡ false → Leaves e n
  pub nameless : (s : ℕ) → (if is_task e.who [] then handles e.what s else None) ≡ None
  pub entries : WaitInLast (e ∷ K)

-- ---- one event more

sent-made : (K : List Event) (w : What) (n : Name) (s : ℕ) → sends_signal K w n s ≡ true → is_made K n ≡ true
sent-made K (Signal p sig (Ok u)) n s h = go (holder K p) refl (and_parts (sig == s) (is_named K (holder K p) n) h).1
  where
    go : (o : Option ℕ) → holder K p ≡ o → is_named K o n ≡ true → is_made K n ≡ true
    go None q z = cc
    go (Some t) q z = ap (is_made K) (sym (name_eq-true (name_of K t) n z)) ∙ made-is K t (holds-makes K p t (holder-holds K p t q))
sent-made K w n s h = cc

pending-none : (e : Event) (K : List Event) (m : Name) (s : ℕ) → sends_signal K e.what m s ≡ false → pending K m s ≡ false → pending (e ∷ K) m s ≡ false
unfolding pending
pending-none e K m s h p = rw (h, p) (never (not (delivers e.what s && is_task e.who m)))

disposition-nameless : (e : Event) (K : List Event) (s : ℕ) → (if is_task e.who [] then handles e.what s else None) ≡ None → disposition (e ∷ K) [] s ≡ disposition K [] s
unfolding disposition
disposition-nameless e K s h = rw h (same (name_eq (child_of e.what) []) (disposition K [] s))
  where
    same : (b : Bool) (m : Disposition) → (if b then m else m) ≡ m
    same true m = refl
    same false m = refl

waited-cases : (e : Event) (K : List Event) (m : Name) → was_waited_for (e ∷ K) m ≡ true → (reaps e.what m ≡ true) ⊎ (was_waited_for K m ≡ true)
unfolding was_waited_for
waited-cases e K m h = or_cases (reaps e.what m) (was_waited_for K m) h

lineage-more : (K : List Event) (e : Event) (m : Name) (k : ℕ) → IsFirstOrChild K m k → IsFirstOrChild (e ∷ K) m k
lineage-more K e m k (inl p) = inl p
lineage-more K e m k (inr p) = inr (older-made e K m p.0, p.1, omega (arith, p.2, spawns-least e K m))

none-made : (K : List Event) (n : Name) → tasks_made K ≤ 0 → is_made K n ≡ false
none-made K n h = false_from_ne_true (is_made K n) (λ q. let o = made-ordinal K n q in omega (arith, o.1))

module _ (K : List Event) (e : Event) (Y : IsSound K) (F : Fits K e) where
  -- nothing happens to a task that wasn't made
  pub untouched-more : (n : Name) → is_made K n ≡ false → IsUntouched (e ∷ K) n
  untouched-more n v =
      let u = Y.unmade n v in
      let l = F.left n v in
      record {
        no_counts = steps-left counts refl e K n l ∙ u.no_counts;
        no_recounts = steps-left recounts refl e K n l ∙ u.no_recounts;
        no_spawns = steps-left is_spawn refl e K n l ∙ u.no_spawns;
        no_call = call-left e K n l ∙ u.no_call;
        no_entry = last-left e K n l ∙ u.no_entry;
        no_debt = owes-left e K n l ∙ u.no_debt;
        no_end = ended-left e K n l ∙ u.no_end;
        no_wait = waited-same e K n (false_from_ne_true (reaps e.what n) (λ z. both_ways (ended K n) u.no_end (F.over n z))) ∙ u.no_wait;
        no_signal = λ s. pending-none e K n s (false_from_ne_true (sends_signal K e.what n s) (λ z. both_ways (is_made K n) v (sent-made K e.what n s z))) (u.no_signal s);
      }

  first-more : 0 < tasks_made (e ∷ K) → task_name_of (e ∷ K) 0 ≡ 0 ∷ []
  first-more l = elim (cases_lt 0 (tasks_made K)) [
    | inl a ↦ name-kept e K 0 a ∙ Y.first a
    | inr a ↦ elim (cases_Bool (makes e.what)) [
      | inl h ↦ let q : tasks_made K ≡ 0 = omega arith in ap (task_name_of (e ∷ K)) (sym q) ∙ (name-new e K h ∙ F.first h q)
      | inr h ↦ absurd (omega (arith, made-same makes e K h))
    ]
  ]

  counted-more : (n : Name) → 0 < tasks_made (e ∷ K) → steps_of counts (e ∷ K) n < length (e ∷ K)
  counted-more n l = elim (cases_lt 0 (tasks_made K)) [
    | inl a ↦ omega (arith, Y.counted n a, counts-more e K n)
    | inr a ↦ omega (arith, (untouched-more n (none-made K n a)).no_counts)
  ]

  pub sound-more : IsSound (e ∷ K)
  sound-more = record {
    pids = pids-more e K F.free Y.pids;
    names = names-more e K (λ z. F.unmade) Y.names;
    nameless = false_from_ne_true (is_made (e ∷ K) []) (λ h. elim (made-cases e K [] h) [
      | inl p ↦ F.full p.0 p.1
      | inr p ↦ both_ways (is_made K []) Y.nameless p
    ]);
    first = first-more;
    lineage = λ m k h. elim (made-cases e K (m ++ k ∷ []) h) [
      | inl p ↦ F.lineage m k p.0 p.1
      | inr p ↦ lineage-more K e m k (Y.lineage m k p)
    ];
    waited = λ n h. elim (waited-cases e K n h) [ inl z ↦ ended-more e K n (F.over n z) | inr z ↦ ended-more e K n (Y.waited n z) ];
    unmade = λ n h. untouched-more n (unmade-less e K n h);
    defaults = λ s. disposition-nameless e K s (F.nameless s) ∙ Y.defaults s;
    counted = counted-more;
    entries = F.entries;
  }

-- ---- a task's step

-- a task of the next child's name was never made
child-unmade : (K : List Event) (n : Name) → IsSound K → is_made K n ≡ true → is_made K (next_child K n) ≡ false
child-unmade K n Y m = false_from_ne_true (is_made K (next_child K n)) (λ h. elim (Y.lineage n (steps_of is_spawn K n + 1) h) [
  | inl p ↦ both_ways (is_made K []) Y.nameless (ap (is_made K) (sym p.0) ∙ m)
  | inr p ↦ omega (arith, p.2)
])

-- a step of one task leaves the others
pub other-left : (e : Event) (n m : Name) → e.who ≡ Task n → closes e.what ≡ false → (n ≡ m → ⊥) → Leaves e m
other-left e n m who c d =
    let a : is_task e.who m ≡ false = ap (λ x. is_task x m) who ∙ names-apart n m d in
    let b : name_eq (task_name e.who) m ≡ false = ap (λ x. name_eq (task_name x) m) who ∙ names-apart n m d in
    record {
      no_step = rw a;
      no_call = rw b (never (notifies e.what));
      no_close = c;
    }

none-both : (b : Bool) → ◌≡◌ {A = Option Disposition} (if b then None else None) None
none-both true = refl
none-both false = refl

module _ (S : Script) (K : List Event) (e : Event) (o : ℕ) (p : IsStepOf S K e o) (Y : IsSound K) where
  abbrev own : Name
  own = task_name_of K o

  made : is_made K own ≡ true
  made = name-made K o p.there

  child : (w : What) → Facts (system_of S) K own w → is_made K (child_of w) ≡ false
  child (Spawn m a) f = ap (is_made K) f.1 ∙ child-unmade K own Y made
  child w f = Y.nameless

  full : (w : What) → Facts (system_of S) K own w → makes w ≡ true → child_of w ≡ [] → ⊥
  full (Spawn m a) f h q = snoc-nil own (steps_of is_spawn K own + 1) (sym f.1 ∙ q)
  full w f h q = cc

  free : (w : What) → Facts (system_of S) K own w → (q : ℕ) → given w ≡ Some q → holder K q ≡ None
  free (Spawn m (Ok a)) f q g = next-free S.pidbase S.pidmax K q (f.2 ∙ g)
  free w f q g = cc

  over : (w : What) → Facts (system_of S) K own w → (m : Name) → reaps w m ≡ true → ended K m ≡ true
  over (Reap (Ok x)) f m h = ap (ended K) (sym (name_eq-true x m h)) ∙ f.1
  over w f m h = cc

  line : (w : What) → e.what ≡ w → Facts (system_of S) K own w → (m : Name) (k : ℕ) → makes w ≡ true → child_of w ≡ m ++ k ∷ [] → IsFirstOrChild (e ∷ K) m k
  line (Spawn x a) z f m k h q =
      let s = snoc-parts m own k (steps_of is_spawn K own + 1) (sym q ∙ f.1) in
      let g : is_made (e ∷ K) m ≡ true = ap (is_made (e ∷ K)) s.0 ∙ older-made e K own made in
      let b : steps_of is_spawn (e ∷ K) m ≡ steps_of is_spawn K own + 1 = ap (steps_of is_spawn (e ∷ K)) s.0 ∙ (spawns-own e K own p.who ∙ ap (λ w. steps_of is_spawn K own + is_spawn w) z) in
      inr (g, omega (arith, s.1), omega (arith, s.1, b))
  line w z f m k h q = cc

  nothing : (s : ℕ) → (if is_task e.who [] then handles e.what s else None) ≡ None
  nothing s = ap (λ (b : Bool). if b then handles e.what s else None) (ap (λ x. is_task x []) p.who ∙ names-apart own [] (λ q. both_ways (is_made K []) Y.nameless (ap (is_made K) (sym q) ∙ made)))

  pub fits-step : Fits K e
  fits-step =
      let f = step-facts S K e o p in
      record {
        unmade = child e.what f;
        full = full e.what f;
        free = free e.what f;
        over = over e.what f;
        first = λ h q. absurd (omega (arith, p.there, q));
        lineage = line e.what refl f;
        left = λ n h. other-left e own n p.who (facts-close S K own e.what f) (λ k. both_ways (is_made K n) h (ap (is_made K) (sym k) ∙ made));
        nameless = nothing;
        entries = entries-step S K e o p Y.entries;
      }

-- ---- an event that is no task's

kept-child : (w : What) → keeps_tasks w ≡ true → child_of w ≡ []
kept-child (Spawn n a) h = cc
kept-child w h = refl

kept-given : (w : What) → keeps_tasks w ≡ true → makes w ≡ false
kept-given (Spawn n a) h = cc
kept-given w h = refl

kept-number : (w : What) (q : ℕ) → keeps_tasks w ≡ true → given w ≡ Some q → ⊥
kept-number (Spawn n a) q h g = cc
kept-number w q h g = cc

kept-reaps : (w : What) (m : Name) → keeps_tasks w ≡ true → reaps w m ≡ true → ⊥
kept-reaps (Reap (Ok x)) m h g = cc
kept-reaps w m h g = cc

kept-handles : (w : What) (s : ℕ) → keeps_tasks w ≡ true → handles w s ≡ None
kept-handles (Handler s m) x h = cc
kept-handles w x h = refl

pub other-leaves : (e : Event) (n : Name) → IsOther e → Leaves e n
other-leaves e n h = let b = h.no_call in record { no_step = h.no_step n; no_call = rw b; no_close = h.no_close }

pub fits-other : (K : List Event) (e : Event) → IsOther e → IsSound K → Fits K e
fits-other K e h Y = record {
  unmade = ap (is_made K) (kept-child e.what h.keeps) ∙ Y.nameless;
  full = λ m q. absurd (both_ways (makes e.what) (kept-given e.what h.keeps) m);
  free = λ q g. absurd (kept-number e.what q h.keeps g);
  over = λ m q. absurd (kept-reaps e.what m h.keeps q);
  first = λ m q. absurd (both_ways (makes e.what) (kept-given e.what h.keeps) m);
  lineage = λ m k z q. absurd (both_ways (makes e.what) (kept-given e.what h.keeps) z);
  left = λ n z. other-leaves e n h;
  nameless = λ s. ap (λ (o : Option Disposition). if is_task e.who [] then o else None) (kept-handles e.what s h.keeps) ∙ none-both (is_task e.who []);
  entries = entries-other K e h Y.entries;
}

-- ---- the beginning

pub sound-none : IsSound []
unfolding ended was_waited_for pending disposition is_made call_of last_call owes_native steps_of newest count_of
sound-none = record {
  pids = λ p t u h g. absurd (omega (arith, holds-below [] p t h));
  names = λ t u h g q. absurd (omega (arith, makes-below [] t h));
  nameless = refl;
  first = λ l. absurd (omega (arith, l));
  lineage = λ m k h. absurd (cc);
  waited = λ n h. cc;
  unmade = λ n h. record { no_counts = refl; no_recounts = refl; no_spawns = refl; no_call = refl; no_entry = refl; no_debt = refl; no_end = refl; no_wait = refl; no_signal = λ s. refl };
  defaults = λ s. refl;
  counted = λ n l. absurd (omega (arith, l));
  entries = entries-none;
}

nobody-holds : (q : ℕ) → holder [] q ≡ None
unfolding holder newest
nobody-holds q = refl

nobody-made : (n : Name) → is_made [] n ≡ false
unfolding is_made
nobody-made n = refl

pub fits-start : (S : System) → Fits [] (start S)
fits-start S = record {
  unmade = nobody-made (0 ∷ []);
  full = λ m q. cc;
  free = λ q g. nobody-holds q;
  over = λ m q. cc;
  first = λ m q. refl;
  lineage = λ m k z q. let s = snoc-parts m [] k 0 (sym q) in inl s;
  left = λ n z. record { no_step = refl; no_call = refl; no_close = refl };
  nameless = λ s. refl;
  entries = entries-first S;
}
