-- The call in which a task waits is the one that it entered last, also after one more event.
-- By whether the call is the event or was the task's before it, and since a task that waits in a call enters none.
use Rattle.std.proofs.Common.{◌≡◌, ◌⊎◌, inl, inr, ℕ, zero, suc, ◌<◌, ◌≤◌, Bool, true, false, not, ◌&&◌, List, [], ◌∷◌, length, Option, Some, None, refl, sym, ap, ◌∙◌, arith}
use Rattle.std.proofs.lemmas.Bool.{cases_Bool, both_ways, and_parts, and_from}
use Rattle.hist_model.specs.Look.{Name, name_eq, is_task, task_name, event_at, newest}
use Rattle.hist_model.specs.Kinds.{enters, notifies, skips}
use Rattle.hist_model.specs.Calls.{listed, caller, unlists}
use Rattle.hist_model.specs.Legal.{system_of}
use Rattle.hist_model.specs.Memory.{last_call}
use Rattle.hist_model.specs.Signals.{call_of}
use Rattle.hist_model.specs.Steps.{start}
use Rattle.hist_model.specs.Systems.{System}
use Rattle.hist_model.specs.declared.event.Actor.TheVariants.{Task}
use Rattle.hist_model.specs.declared.event.Event.{Event}
use Rattle.hist_model.specs.declared.event.What.{What}
use Rattle.hist_model.specs.declared.event.What.TheVariants.{Enter}
use Rattle.hist_model.specs.declared.script.Script.{Script}
use Rattle.hist_model.proofs.Look.{name_eq-true, name_eq-refl, event_at-here, event_at-older, event_at-below, below_or_last, newest-some, newest-found}
use Rattle.history_frames.specs.Ordinals.{task_name_of}
use Rattle.history_frames.proofs.Listed.{listed-cases, listed-stays, caller-older}
use Rattle.tasks.specs.Sound.{IsStepOf, IsOther}
use Rattle.tasks.proofs.StepFacts.{Facts, step-facts}

-- the call in which a task waits is the one that it entered last
abbrev pub WaitInLast : List Event → Type 0
WaitInLast K = (n : Name) (c : ℕ) → call_of K n ≡ Some c → (e : Event) × (event_at K c ≡ Some e) × (e.what ≡ last_call K n)

-- nothing newer passes the test than what was found
newest-last : (test : ℕ → Bool) (n t u : ℕ) → newest test n ≡ Some t → test u ≡ true → u < n → u ≤ t
unfolding newest
newest-last test zero t u q h l = absurd (omega arith)
newest-last test (suc n) t u q h l = elim (cases_Bool (test n)) [
  | inl b ↦ let e : Some n ≡ Some t = rw b at q in let s : n ≡ t = cc in omega arith
  | inr b ↦ elim (below_or_last u n l) [
    | inl m ↦ newest-last test n t u (rw b at q) h m
    | inr m ↦ absurd (both_ways (test n) b (rw m at h))
  ]
]

-- a listed call of the task that was there before is the one in which it waited
older-call : (e : Event) (K : List Event) (n : Name) (c : ℕ) → call_of (e ∷ K) n ≡ Some c → c < length K → listed K c ≡ true → unlists e n ≡ false → caller K c ≡ n → call_of K n ≡ Some c
unfolding call_of
older-call e K n c q l on stays by = go (newest (λ x. listed K x && name_eq (caller K x) n) (length K)) refl
  where
    passes : (listed K c && name_eq (caller K c) n) ≡ true
    passes = rw (on, by) (name_eq-refl n)

    go : (o : Option ℕ) → newest (λ x. listed K x && name_eq (caller K x) n) (length K) ≡ o → newest (λ x. listed K x && name_eq (caller K x) n) (length K) ≡ Some c
    go None f = absurd (newest-found (λ x. listed K x && name_eq (caller K x) n) (length K) c l passes f)
    go (Some d) f =
        let s = newest-some (λ x. listed K x && name_eq (caller K x) n) (length K) d f in
        let p = and_parts (listed K d) (name_eq (caller K d) n) s.0 in
        let name = name_eq-true (caller K d) n p.1 in
        let still = listed-stays e K d p.0 (ap (unlists e) name ∙ stays) in
        let named : name_eq (caller (e ∷ K) d) n ≡ true = ap (λ m. name_eq m n) (caller-older e K d s.1) ∙ p.1 in
        let low = newest-last (λ x. listed K x && name_eq (caller K x) n) (length K) d c f passes l in
        let high = newest-last (λ x. listed (e ∷ K) x && name_eq (caller (e ∷ K) x) n) (length (e ∷ K)) c d q (and_from (listed (e ∷ K) d) (name_eq (caller (e ∷ K) d) n) still named) (omega (arith, s.1)) in
        let same : d ≡ c = omega arith in
        f ∙ ap Some same

-- the call is the event, or the task waited in it before
call-cases : (e : Event) (K : List Event) (n : Name) (c : ℕ) → call_of (e ∷ K) n ≡ Some c → ((c ≡ length K) × (notifies e.what ≡ true) × (task_name e.who ≡ n)) ⊎ (call_of K n ≡ Some c)
call-cases e K n c q =
    let s = newest-some (λ x. listed (e ∷ K) x && name_eq (caller (e ∷ K) x) n) (length (e ∷ K)) c (unfold call_of in q) in
    let p = and_parts (listed (e ∷ K) c) (name_eq (caller (e ∷ K) c) n) s.0 in
    let name = name_eq-true (caller (e ∷ K) c) n p.1 in
    elim (listed-cases e K c p.0) [
      | inl h ↦ inl (h.0, h.1, rw (h.0, event_at-here e K) at name)
      | inr h ↦
          let by : caller K c ≡ n = sym (caller-older e K c h.0) ∙ name in
          inr (older-call e K n c q h.0 h.1 (ap (unlists e) (sym by) ∙ h.2) by)
    ]

last-now : (e : Event) (K : List Event) (n : Name) → (is_task e.who n && enters e.what) ≡ true → last_call (e ∷ K) n ≡ e.what
unfolding last_call
last-now e K n h = rw h

last-kept : (e : Event) (K : List Event) (n : Name) → (is_task e.who n && enters e.what) ≡ false → last_call (e ∷ K) n ≡ last_call K n
unfolding last_call
last-kept e K n h = rw h

notifies-enters : (w : What) → notifies w ≡ true → enters w ≡ true
notifies-enters (Enter nr args v) h = refl
notifies-enters w h = cc

module _ (e : Event) (K : List Event) (w : WaitInLast K) (free : (n : Name) → is_task e.who n ≡ true → enters e.what ≡ true → call_of K n ≡ None) (own : notifies e.what ≡ true → (m : Name) × (e.who ≡ Task m)) where
  entered-now : (n : Name) → notifies e.what ≡ true → task_name e.who ≡ n → e.what ≡ last_call (e ∷ K) n
  entered-now n h q =
      let o = own h in
      let m : o.0 ≡ n = sym (ap task_name o.1) ∙ q in
      let t : is_task e.who n ≡ true = ap (λ a. is_task a n) o.1 ∙ (ap (λ x. name_eq x n) m ∙ name_eq-refl n) in
      sym (last-now e K n (and_from (is_task e.who n) (enters e.what) t (notifies-enters e.what h)))

  entered-before : (n : Name) (c : ℕ) → call_of K n ≡ Some c → last_call (e ∷ K) n ≡ last_call K n
  entered-before n c q = elim (cases_Bool (is_task e.who n && enters e.what)) [
    | inl h ↦
        let p = and_parts (is_task e.who n) (enters e.what) h in
        let z : None ≡ Some c = sym (free n p.0 p.1) ∙ q in cc
    | inr h ↦ last-kept e K n h
  ]

  entries-more : WaitInLast (e ∷ K)
  entries-more n c q = elim (call-cases e K n c q) [
    | inl h ↦ (e, ap (event_at (e ∷ K)) h.0 ∙ event_at-here e K, entered-now n h.1 h.2)
    | inr h ↦ let z = w n c h in (z.0, event_at-older e K c (event_at-below K c z.0 z.1) ∙ z.1, z.2 ∙ sym (entered-before n c h))
  ]

-- a step enters a call only where its task waits in none
enters-free : (S : System) (K : List Event) (n : Name) (w : What) → Facts S K n w → enters w ≡ true → call_of K n ≡ None
enters-free S K n (Enter nr args v) f h = f.0
enters-free S K n w f h = cc

pub entries-step : (S : Script) (K : List Event) (e : Event) (o : ℕ) → IsStepOf S K e o → WaitInLast K → WaitInLast (e ∷ K)
entries-step S K e o p w = entries-more e K w
    (λ n t h.
    let q : name_eq (task_name_of K o) n ≡ true = sym (ap (λ a. is_task a n) p.who) ∙ t in
    ap (call_of K) (sym (name_eq-true (task_name_of K o) n q)) ∙ enters-free (system_of S) K (task_name_of K o) e.what (step-facts S K e o p) h)
    (λ h. (task_name_of K o, p.who))

-- an entry is no skip
entering-steps : (w : What) → enters w ≡ true → skips w ≡ false
entering-steps (Enter nr args v) h = refl
entering-steps w h = cc

pub entries-other : (K : List Event) (e : Event) → IsOther e → WaitInLast K → WaitInLast (e ∷ K)
entries-other K e h w = entries-more e K w (λ n t x. absurd (both_ways (is_task e.who n && not (skips e.what)) (h.no_step n) (rw (t, entering-steps e.what x) refl))) (λ x. absurd (both_ways (notifies e.what) h.no_call x))

pub entries-none : WaitInLast []
unfolding call_of newest
entries-none n c q = cc

pub entries-first : (S : System) → WaitInLast (start S ∷ [])
entries-first S = entries-more (start S) [] entries-none (λ n t x. cc) (λ x. cc)
