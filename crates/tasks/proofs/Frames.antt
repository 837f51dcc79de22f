-- What one more event changes of how far a task is: the steps counted, the call in which it waits, the call entered last, what it owes.
-- By the one event that each definition looks at first; for the call, by the test of each place below the event.
use Rattle.std.proofs.Common.{◌≡◌, inl, inr, ℕ, zero, suc, ◌+◌, ◌<◌, Bool, true, false, ◌&&◌, ◌||◌, not, List, ◌∷◌, length, Option, Some, None, refl, ap, ◌∙◌, arith}
use Rattle.std.specs.Prelude.{if◌then◌else◌}
use Rattle.std.proofs.lemmas.Bool.{cases_Bool, false_from_ne_true}
use Rattle.hist_model.specs.Look.{Name, name_eq, is_task, task_name, newest}
use Rattle.hist_model.specs.Kinds.{ends, enters, owes, skips, leaves, closes, notifies}
use Rattle.hist_model.specs.Calls.{listed, caller, id, unlists, notify_id}
use Rattle.hist_model.specs.Memory.{last_call}
use Rattle.hist_model.specs.Signals.{call_of}
use Rattle.hist_model.specs.Steps.{steps_of, owes_native}
use Rattle.hist_model.specs.Tasks.{ended}
use Rattle.hist_model.specs.declared.event.Event.{Event}
use Rattle.hist_model.specs.declared.event.Actor.TheVariants.{Task}
use Rattle.hist_model.specs.declared.event.What.{What}
use Rattle.hist_model.specs.declared.event.What.TheVariants.{Enter, Resume, Deliver, Skip}
use Rattle.hist_model.specs.declared.event.Entered.TheVariants.{Notify}
use Rattle.hist_model.proofs.Look.{name_eq-true, name_eq-refl, event_at-here, newest-some}
use Rattle.history_frames.proofs.Listed.{listed-here, listed-older, caller-older, id-older}
use Rattle.tasks.specs.State.{call_after}
use Rattle.tasks.specs.Fold.{call_id, id_at}

pub never : (b : Bool) → (b && false) ≡ false
never b = grind arith

pub names-apart : (n m : Name) → (n ≡ m → ⊥) → name_eq n m ≡ false
names-apart n m h = false_from_ne_true (name_eq n m) (λ q. h (name_eq-true n m q))

pub skips-is : (w : What) → skips w ≡ true → w ≡ Skip
skips-is Skip h = refl
skips-is w h = cc

-- ---- the newest place

pub newest-same : (p q : ℕ → Bool) (n : ℕ) → ((c : ℕ) → c < n → p c ≡ q c) → newest p n ≡ newest q n
unfolding newest
newest-same p q zero h = refl
newest-same p q (suc n) h = rw (newest-same p q n (λ c l. h c (omega arith)), h n (omega arith))

newest-less : (p q : ℕ → Bool) (n : ℕ) → p n ≡ false → ((c : ℕ) → c < n → p c ≡ q c) → newest p (suc n) ≡ newest q n
unfolding newest
newest-less p q n f h = rw f (newest-same p q n h)

newest-here : (p : ℕ → Bool) (n : ℕ) → p n ≡ true → newest p (suc n) ≡ Some n
unfolding newest
newest-here p n h = rw h

newest-never : (p : ℕ → Bool) (n : ℕ) → ((c : ℕ) → c < n → p c ≡ false) → newest p n ≡ None
unfolding newest
newest-never p zero h = refl
newest-never p (suc n) h = rw (h n (omega arith)) (newest-never p n (λ c l. h c (omega arith)))

-- ---- a task that the event leaves as it is: it takes no step, or Skip, and its call stays listed

pub record Leaves (e : Event) (n : Name) : Type 0 where
  pub no_step : (is_task e.who n && not (skips e.what)) ≡ false
  pub no_call : (notifies e.what && name_eq (task_name e.who) n) ≡ false
  pub no_close : closes e.what ≡ false

-- what the step alone tells, and Skip doesn't, isn't told of such a task
left-out : (f : What → Bool) → f Skip ≡ false → (e : Event) (n : Name) → (is_task e.who n && not (skips e.what)) ≡ false → (f e.what && is_task e.who n) ≡ false
left-out f z e n h = elim (cases_Bool (is_task e.who n)) [
  | inl q ↦ elim (cases_Bool (skips e.what)) [
    | inl s ↦ let w : f e.what ≡ false = ap f (skips-is e.what s) ∙ z in rw w
    | inr s ↦ let h' : (true && true) ≡ false = rw (q, s) at h in cc
  ]
  | inr q ↦ rw q (never (f e.what))
]

pub steps-left : (f : What → ℕ) → f Skip ≡ 0 → (e : Event) (K : List Event) (n : Name) → Leaves e n → steps_of f (e ∷ K) n ≡ steps_of f K n
unfolding steps_of
steps-left f z e K n l = elim (cases_Bool (is_task e.who n)) [
  | inl q ↦ elim (cases_Bool (skips e.what)) [
    | inl s ↦ let w : f e.what ≡ 0 = ap f (skips-is e.what s) ∙ z in rw (q, w) (omega arith)
    | inr s ↦ let h = l.no_step in let h' : (true && true) ≡ false = rw (q, s) at h in cc
  ]
  | inr q ↦ rw q (omega arith)
]

pub owes-left : (e : Event) (K : List Event) (n : Name) → Leaves e n → owes_native (e ∷ K) n ≡ owes_native K n
unfolding owes_native
owes-left e K n l = let h = l.no_step in rw h

pub ended-left : (e : Event) (K : List Event) (n : Name) → Leaves e n → ended (e ∷ K) n ≡ ended K n
unfolding ended
ended-left e K n l = let h = left-out ends refl e n l.no_step in rw h

pub last-left : (e : Event) (K : List Event) (n : Name) → Leaves e n → last_call (e ∷ K) n ≡ last_call K n
unfolding last_call
last-left e K n l =
    let h = left-out enters refl e n l.no_step in
    let h' : (is_task e.who n && enters e.what) ≡ false = turned (enters e.what) (is_task e.who n) h in
    rw h'
  where
    turned : (a b : Bool) → (a && b) ≡ false → (b && a) ≡ false
    turned a b h = grind arith

-- the test by which the call of a task is found, at a place below the event
test-here : (e : Event) (K : List Event) (n : Name) → (listed (e ∷ K) (length K) && name_eq (caller (e ∷ K) (length K)) n) ≡ (notifies e.what && name_eq (task_name e.who) n)
test-here e K n = rw (listed-here e K, event_at-here e K)

test-older : (e : Event) (K : List Event) (n : Name) (c : ℕ) → c < length K
    → (listed (e ∷ K) c && name_eq (caller (e ∷ K) c) n) ≡ ((listed K c && not (unlists e (caller K c))) && name_eq (caller K c) n)
test-older e K n c l = rw (listed-older e K c l, caller-older e K c l)

kept : (a u m : Bool) → (m ≡ true → u ≡ false) → ((a && not u) && m) ≡ (a && m)
kept a u true h = let q = h refl in rw q (grind arith)
kept a u false h = grind arith

lost : (a u m : Bool) → (m ≡ true → u ≡ true) → ((a && not u) && m) ≡ false
lost a u true h = let q = h refl in rw q (grind arith)
lost a u false h = grind arith

-- a call of the task stays listed
stays : (e : Event) (n m : Name) → closes e.what ≡ false → (leaves e.what && is_task e.who n) ≡ false → name_eq m n ≡ true → unlists e m ≡ false
stays e n m c h q =
    let s = name_eq-true m n q in
    let h' : (leaves e.what && is_task e.who m) ≡ false = ap (λ x. leaves e.what && is_task e.who x) s ∙ h in
    rw (c, h')

call-stays : (e : Event) (K : List Event) (n : Name) → closes e.what ≡ false → (leaves e.what && is_task e.who n) ≡ false → (notifies e.what && name_eq (task_name e.who) n) ≡ false → call_of (e ∷ K) n ≡ call_of K n
unfolding call_of
call-stays e K n c h q = newest-less (λ c. listed (e ∷ K) c && name_eq (caller (e ∷ K) c) n) (λ c. listed K c && name_eq (caller K c) n) (length K) (test-here e K n ∙ q)
    (λ x l. test-older e K n x l ∙ kept (listed K x) (unlists e (caller K x)) (name_eq (caller K x) n) (stays e n (caller K x) c h))

pub call-left : (e : Event) (K : List Event) (n : Name) → Leaves e n → call_of (e ∷ K) n ≡ call_of K n
call-left e K n l = call-stays e K n l.no_close (left-out leaves refl e n l.no_step) l.no_call

pub call-below : (K : List Event) (n : Name) (c : ℕ) → call_of K n ≡ Some c → c < length K
unfolding call_of
call-below K n c q = (newest-some (λ c. listed K c && name_eq (caller K c) n) (length K) c q).1

-- the id of an older call stays its own
id-stays : (e : Event) (K : List Event) (n : Name) → id_at (e ∷ K) (call_of K n) ≡ id_at K (call_of K n)
id-stays e K n = go (call_of K n) refl
  where
    go : (o : Option ℕ) → call_of K n ≡ o → id_at (e ∷ K) o ≡ id_at K o
    go None q = refl
    go (Some c) q = ap Some (id-older e K c (call-below K n c q))

pub call_id-left : (e : Event) (K : List Event) (n : Name) → Leaves e n → call_id (e ∷ K) n ≡ call_id K n
call_id-left e K n l = ap (id_at (e ∷ K)) (call-left e K n l) ∙ id-stays e K n

-- ---- the task that takes the step

module _ (e : Event) (K : List Event) (n : Name) (own : is_task e.who n ≡ true) where
  pub steps-own : (f : What → ℕ) → steps_of f (e ∷ K) n ≡ steps_of f K n + f e.what
  unfolding steps_of
  steps-own f = rw own

  pub owes-own : owes_native (e ∷ K) n ≡ (if skips e.what then owes_native K n else owes e.what)
  unfolding owes_native
  owes-own = rw own (turned (skips e.what) (owes_native K n) (owes e.what))
    where
      turned : (s a b : Bool) → (if not s then b else a) ≡ (if s then a else b)
      turned true a b = refl
      turned false a b = refl

  pub ended-own : ended (e ∷ K) n ≡ (ends e.what || ended K n)
  unfolding ended
  ended-own = rw own (grind arith)

  pub last-own : last_call (e ∷ K) n ≡ (if enters e.what then e.what else last_call K n)
  unfolding last_call
  last-own = rw own

-- its call is the one that it enters, or none once it has left it
call-new : (e : Event) (K : List Event) (n : Name) → (notifies e.what && name_eq (task_name e.who) n) ≡ true → call_id (e ∷ K) n ≡ Some (notify_id e.what)
unfolding call_of
call-new e K n h =
    let q = newest-here (λ c. listed (e ∷ K) c && name_eq (caller (e ∷ K) c) n) (length K) (test-here e K n ∙ h) in
    rw (q, event_at-here e K)

call-gone : (e : Event) (K : List Event) (n : Name) → (leaves e.what && is_task e.who n) ≡ true → (notifies e.what && name_eq (task_name e.who) n) ≡ false → call_of (e ∷ K) n ≡ None
unfolding call_of
call-gone e K n h q =
    newest-less (λ c. listed (e ∷ K) c && name_eq (caller (e ∷ K) c) n) (λ c. false) (length K) (test-here e K n ∙ q)
    (λ x l. test-older e K n x l ∙ lost (listed K x) (unlists e (caller K x)) (name_eq (caller K x) n) (goes x))
    ∙ newest-never (λ c. false) (length K) (λ c l. refl)
  where
    or-true : (b : Bool) → (b || true) ≡ true
    or-true b = grind arith

    goes : (x : ℕ) → name_eq (caller K x) n ≡ true → unlists e (caller K x) ≡ true
    goes x m =
        let s = name_eq-true (caller K x) n m in
        let h' : (leaves e.what && is_task e.who (caller K x)) ≡ true = ap (λ y. leaves e.what && is_task e.who y) s ∙ h in
        rw h' (or-true (closes e.what))

pub call-own : (K : List Event) (n : Name) (w : What) → closes w ≡ false → call_id (record { who = Task n; what = w } ∷ K) n ≡ call_after w (call_id K n)
call-own K n (Enter nr args (Notify id)) c = call-new (record { who = Task n; what = Enter nr args (Notify id) }) K n (name_eq-refl n)
call-own K n (Resume back) c = ap (id_at (record { who = Task n; what = Resume back } ∷ K)) (call-gone (record { who = Task n; what = Resume back }) K n (name_eq-refl n) refl)
call-own K n (Deliver sig effect) c = ap (id_at (record { who = Task n; what = Deliver sig effect } ∷ K)) (call-gone (record { who = Task n; what = Deliver sig effect }) K n (name_eq-refl n) refl)
call-own K n w c = ap (id_at (record { who = Task n; what = w } ∷ K)) (call-stays (record { who = Task n; what = w }) K n c refl refl) ∙ id-stays (record { who = Task n; what = w }) K n
