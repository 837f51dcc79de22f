-- The ledgers of a history after one more event, and the ledgers from which workers were replaced in it.
-- By the law that one more step is one more answer of its worker's ledger, and by cases on whether the event is a worker's step.
use Rattle.std.proofs.Common.{◌≡◌, ℕ, suc, ◌+◌, ◌-◌, ◌<◌, ◌≤◌, ◌^◌, Bool, true, false, not, ◌&&◌, List, [], ◌∷◌, ◌++◌, length, refl, sym, ap, ◌∙◌, ◌⊎◌, inl, inr, Option, Some, None, append-nil, arith}
use Rattle.std.specs.Prelude.{if◌then◌else◌, ◌==◌, ◌%◌, ◌/◌, get_or, slice_set}
use Rattle.std.proofs.lemmas.Bool.{cases_Bool, eqb-true, cases_lt, eq-eqb, ne_eqb, lt-ltb}
use Rattle.std.proofs.lemmas.List.{get_or_append_left, get_or-set_same, get_or-set_other, length-append, length-set}
use Rattle.std.proofs.Math.Seq.{get_or-append_seam}
use Rattle.hist_model.specs.Kinds.{is_letgo, skips}
use Rattle.hist_model.specs.Legal.{rules_of, started, system_of}
use Rattle.hist_model.specs.Look.{ev, is_worker}
use Rattle.hist_model.specs.Sessions.{session}
use Rattle.hist_model.specs.Steps.{IsLegal, start}
use Rattle.hist_model.specs.declared.event.Actor.{Actor}
use Rattle.hist_model.specs.declared.event.Actor.TheVariants.{Listener, Start, Task, Worker}
use Rattle.hist_model.specs.declared.event.Event.{Event}
use Rattle.hist_model.specs.declared.event.What.TheVariants.{Close}
use Rattle.hist_model.specs.declared.policy.Policy.{Policy}
use Rattle.hist_model.specs.declared.script.Script.{Script}
use Rattle.broker_core.specs.Answers.{Answer, answer_of, is_not_yet}
use Rattle.broker_machine.proofs.Fitting.{Answers}
use Rattle.worker_ledger.specs.Heard.{all_heard}
use Rattle.worker_ledger.specs.Ledgers.{own_answers}
use Rattle.worker_ledger.specs.Notes.{Notes, next_count, noted}
use Rattle.worker_ledger.specs.declared.ledger.Ledger.{Ledger}
use Rattle.handover.specs.Handing.{Handed, handed, handed_after, handed_at, is_some_worker, is_worker_step, worker_number, worker_steps}
use Rattle.handover.specs.Keeping.{AllKeep, AreBehind, AreLedgers, Keeps, all_handed, handed_as, newest_skips}
use Rattle.handover.specs.Ledgers.{is_step_of, ledger_of, taken, told_in}
use Rattle.handover.specs.Replacing.{written}
use Rattle.handover.specs.declared.ledgers.Handover.{Handover}
use Rattle.handover.specs.declared.ledgers.Ledgers.{Ledgers}
use Rattle.handover.proofs.Fitting.{has_answer}
use Rattle.handover.proofs.Handed.{taken_other, taken_step, taken_within}
use Rattle.handover.proofs.Told.{answered_step, comes, due, lets_go, noted_one, session_other, session_step, step_some, step_worker}

no-way : false ≡ true → ⊥
no-way h = cc

and-false : (b : Bool) → (b && false) ≡ false
and-false true = refl
and-false false = refl

-- ---- Which events are steps of which workers

one-worker : (a : Actor) (v w : ℕ) → is_worker a v ≡ true → (w ≡ v → ⊥) → is_worker a w ≡ false
one-worker (Worker u) v w h n = ne_eqb u w (λ q. n (sym q ∙ eqb-true u v h))
one-worker a v w h n = refl

no-worker : (a : Actor) (w : ℕ) → worker_number a ≡ None → is_worker a w ≡ false
no-worker (Worker u) w h = cc
no-worker a w h = refl

number-of : (a : Actor) (w : ℕ) → is_worker a w ≡ true → worker_number a ≡ Some w
number-of (Worker u) w h = ap Some (eqb-true u w h)
number-of Start w h = absurd (no-way h)
number-of (Task n) w h = absurd (no-way h)
number-of Listener w h = absurd (no-way h)

module _ (e : Event) (w : ℕ) where
  other-step : (v : ℕ) → is_step_of v e ≡ true → (w ≡ v → ⊥) → is_step_of w e ≡ false
  other-step v own n = ap (λ (b : Bool). b && not (skips e.what)) (one-worker e.who v w (step_worker e v own) n)

  skip-step : skips e.what ≡ true → is_step_of w e ≡ false
  skip-step s = ap (λ (b : Bool). is_worker e.who w && not b) s ∙ and-false (is_worker e.who w)

  its-step : is_worker e.who w ≡ true → skips e.what ≡ false → is_step_of w e ≡ true
  its-step h s = ap (λ (b : Bool). b && not (skips e.what)) h ∙ ap not s

  some-worker : is_worker e.who w ≡ true → skips e.what ≡ false → is_worker_step e ≡ true
  some-worker h s = ap (λ (o : Option ℕ). is_some_worker o && not (skips e.what)) (number-of e.who w h) ∙ ap not s

skip-by : (e : Event) → skips e.what ≡ true → is_worker_step e ≡ false
skip-by e s = ap (λ (b : Bool). is_some_worker (worker_number e.who) && not b) s ∙ and-false (is_some_worker (worker_number e.who))

none-by : (e : Event) → worker_number e.who ≡ None → is_worker_step e ≡ false
none-by e h = ap (λ (o : Option ℕ). is_some_worker o && not (skips e.what)) h

-- ---- One ledger

pub keeps_other : (e : Event) (K : List Event) (w : ℕ) (l : Ledger) → is_step_of w e ≡ false → Keeps K w l → Keeps (e ∷ K) w l
keeps_other e K w l h k = record {
  number = k.number;
  count = k.count ∙ sym (taken_other e K w h);
  told = k.told ∙ ap own_answers (sym (session_other e K w h));
}

next-few : (n : ℕ) → n < 2 ^ 64 - 1 → next_count n ≡ n + 1
next-few n h = ap (λ (b : Bool). if b then n + 1 else n) (lt-ltb n (2 ^ 64 - 1) h)

module _ (P : Policy) (S : Script) (e : Event) (K : List Event) (w : ℕ) (l : IsLegal (system_of S) (rules_of P S.figures) (e ∷ K)) (few : length (e ∷ K) < 2 ^ 62) (own : is_step_of w e ≡ true) where
  answered : Answers (due P S K w) e.what
  answered = answered_step P S e K w l.0 (step_worker e w own)

  has-come : is_not_yet (answer_of e.what) ≡ false
  has-come = has_answer (due P S K w) (answer_of e.what) (comes (rules_of P S.figures) (due P S K w) e.what answered (step_some e w own))

  count-noted : (n : ℕ) → n ≡ taken K w → (if is_not_yet (answer_of e.what) then n else next_count n) ≡ taken (e ∷ K) w
  count-noted n q =
      let most : taken K w ≤ length K = taken_within K w in
      ap (λ (b : Bool). if b then n else next_count n) has-come ∙ (ap next_count q ∙ (next-few (taken K w) (omega arith) ∙ sym (taken_step e K w own)))

  told-noted : (told : List Answer) → told ≡ told_in K w → (if is_not_yet (answer_of e.what) then told else noted (is_letgo e.what) (answer_of e.what) told) ≡ told_in (e ∷ K) w
  told-noted told q =
      ap (λ (b : Bool). if b then told else noted (is_letgo e.what) (answer_of e.what) told) has-come
      ∙ (ap (noted (is_letgo e.what) (answer_of e.what)) q
      ∙ (ap (λ (b : Bool). noted b (answer_of e.what) (told_in K w)) (sym (lets_go (rules_of P S.figures) (due P S K w) e.what answered (step_some e w own)))
      ∙ (noted_one (rules_of P S.figures) (due P S K w) e.what answered (step_some e w own) (session K w) ∙ ap own_answers (sym (session_step e K w own)))))

  pub keeps_noted : (old new : Ledger) → Keeps K w old → Notes (is_letgo e.what) (answer_of e.what) old new → new.no ≡ old.no → Keeps (e ∷ K) w new
  keeps_noted old new k n same = record {
    number = same ∙ k.number;
    count = n.0 ∙ count-noted old.count k.count;
    told = n.1 ∙ told-noted (all_heard old.own.items) k.told;
  }

-- ---- All ledgers

all-other : (e : Event) (K : List Event) (ls : List Ledger) → ((w : ℕ) → is_step_of w e ≡ false) → AllKeep K ls → AllKeep (e ∷ K) ls
all-other e K ls h a = λ w d l. keeps_other e K w (get_or ls w d) (h w) (a w d l)

all-set : (e : Event) (K : List Event) (v : ℕ) (ls : List Ledger) (x : Ledger) → is_step_of v e ≡ true → AllKeep K ls → Keeps (e ∷ K) v x → AllKeep (e ∷ K) (slice_set ls v x)
all-set e K v ls x own a k = λ w d l.
    let l' : w < length ls = rw length-set at l in
    elim (order_or_same w v) [
      | inl h ↦ rw (h, get_or-set_same ls v x d (rw h at l')) k
      | inr h ↦ rw (get_or-set_other ls v w x d h) (keeps_other e K w (get_or ls w d) (other-step e w v own h) (a w d l'))
    ]
  where
    order_or_same : (w v : ℕ) → (w ≡ v) ⊎ (w ≡ v → ⊥)
    order_or_same w v = elim (cases_Bool (w == v)) [ inl h ↦ inl (eqb-true w v h) | inr h ↦ inr (λ q. no-way (sym h ∙ eq-eqb w v q)) ]

-- ---- The steps of workers, and the ledgers from which one was replaced

one-more : (b : Bool) (n m : ℕ) → n ≤ m → (if b then n + 1 else n) ≤ suc m
one-more true n m h = omega arith
one-more false n m h = omega arith

steps_within : (K : List Event) → worker_steps K ≤ length K
unfolding worker_steps
steps_within [] = omega arith
steps_within (e ∷ K) = one-more (is_worker_step e) (worker_steps K) (length K) (steps_within K)

module _ (e : Event) (K : List Event) where
  steps-more : is_worker_step e ≡ true → worker_steps (e ∷ K) ≡ worker_steps K + 1
  unfolding worker_steps
  steps-more h = ap (λ (b : Bool). if b then worker_steps K + 1 else worker_steps K) h

  steps-other : is_worker_step e ≡ false → worker_steps (e ∷ K) ≡ worker_steps K
  unfolding worker_steps
  steps-other h = ap (λ (b : Bool). if b then worker_steps K + 1 else worker_steps K) h

  handed-more : (every : ℕ) → handed every (e ∷ K) ≡ handed every K ++ handed_after every (worker_steps (e ∷ K)) e K
  unfolding handed
  handed-more every = refl

  handed-other : (every : ℕ) → is_worker_step e ≡ false → handed every (e ∷ K) ≡ handed every K
  handed-other every h =
      handed-more every
      ∙ (ap (λ (b : Bool). handed every K ++ (if b && (worker_steps (e ∷ K) % every == 0) then handed_at (worker_steps (e ∷ K) / every) (worker_number e.who) e K else [])) h
      ∙ append-nil (handed every K))

  handed-still : (every steps : ℕ) → is_worker_step e ≡ true → steps ≡ worker_steps (e ∷ K) → (steps % every == 0) ≡ false → handed every (e ∷ K) ≡ handed every K
  handed-still every steps h q due =
      handed-more every
      ∙ (ap (λ (n : ℕ). handed every K ++ handed_after every n e K) (sym q)
      ∙ (ap (λ (b : Bool). handed every K ++ (if b && (steps % every == 0) then handed_at (steps / every) (worker_number e.who) e K else [])) h
      ∙ (ap (λ (b : Bool). handed every K ++ (if b then handed_at (steps / every) (worker_number e.who) e K else [])) due
      ∙ append-nil (handed every K))))

  handed-now : (every steps w : ℕ) → is_worker_step e ≡ true → worker_number e.who ≡ Some w → steps ≡ worker_steps (e ∷ K) → (steps % every == 0) ≡ true
      → handed every (e ∷ K) ≡ handed every K ++ handed_at (steps / every) (Some w) e K
  handed-now every steps w h number q due =
      handed-more every
      ∙ (ap (λ (n : ℕ). handed every K ++ handed_after every n e K) (sym q)
      ∙ (ap (λ (b : Bool). handed every K ++ (if b && (steps % every == 0) then handed_at (steps / every) (worker_number e.who) e K else [])) h
      ∙ (ap (λ (b : Bool). handed every K ++ (if b then handed_at (steps / every) (worker_number e.who) e K else [])) due
      ∙ ap (λ (o : Option ℕ). handed every K ++ handed_at (steps / every) o e K) number)))

all-handed-more : (old : List Handover) (h : Handover) → all_handed (old ++ h ∷ []) ≡ all_handed old ++ handed_as h ∷ []
all-handed-more [] h = refl
all-handed-more (x ∷ old) h = ap (λ (xs : List Handed). handed_as x ∷ xs) (all-handed-more old h)

-- ---- The ledgers after a worker's event

pub steps_few : (w : ℕ) (H : List Event) (ls : Ledgers) → AreBehind w H ls → length H < 2 ^ 62 → ls.steps + 1 < 2 ^ 63
steps_few w [] ls b few = absurd b
steps_few w (e ∷ K) ls b few =
    let within : worker_steps K ≤ length K = steps_within K in
    let steps : ls.steps ≡ worker_steps K = b.1.steps in
    omega arith

pub every_of : (w : ℕ) (H : List Event) (ls : Ledgers) → AreBehind w H ls → (0 < ls.every) × (length ls.ledgers.items ≡ 17) × (0 < length H)
every_of w [] ls b = absurd b
every_of w (e ∷ K) ls b = (b.1.every, b.1.number, omega arith)

-- where the worker waited
pub still_ledgers : (w : ℕ) (H : List Event) (ls : Ledgers) → AreBehind w H ls → newest_skips H ≡ true → AreLedgers H ls
still_ledgers w [] ls b s = absurd b
still_ledgers w (e ∷ K) ls b s = record {
  number = b.1.number;
  keep = all-other e K ls.ledgers.items (λ v. skip-step e v s) b.1.keep;
  every = b.1.every;
  steps = b.1.steps ∙ sym (steps-other e K (skip-by e s));
  handed = b.1.handed ∙ sym (handed-other e K ls.every (skip-by e s));
}

-- after an event of no worker
pub other_ledgers : (e : Event) (K : List Event) (ls : Ledgers) → worker_number e.who ≡ None → AreLedgers K ls → AreLedgers (e ∷ K) ls
other_ledgers e K ls h a = record {
  number = a.number;
  keep = all-other e K ls.ledgers.items (λ v. ap (λ (b : Bool). b && not (skips e.what)) (no-worker e.who v h)) a.keep;
  every = a.every;
  steps = a.steps ∙ sym (steps-other e K (none-by e h));
  handed = a.handed ∙ sym (handed-other e K ls.every (none-by e h));
}

module _ (w : ℕ) (e : Event) (K : List Event) (old new : Ledgers) (x : Ledger) (b : AreBehind w (e ∷ K) old) (s : skips e.what ≡ false) (items : new.ledgers.items ≡ slice_set old.ledgers.items w x) (every : new.every ≡ old.every)
    (steps : new.steps ≡ old.steps + 1) (k : Keeps (e ∷ K) w x) where
  steps-new : new.steps ≡ worker_steps (e ∷ K)
  steps-new = steps ∙ (ap (λ (n : ℕ). n + 1) b.1.steps ∙ sym (steps-more e K (some-worker e w b.0 s)))

  stepped : all_handed new.handed.items ≡ handed new.every (e ∷ K) → AreLedgers (e ∷ K) new
  stepped h = record {
    number = rw (items, length-set) b.1.number;
    keep = rw items (all-set e K w old.ledgers.items x (its-step e w b.0 s) b.1.keep k);
    every = rw every b.1.every;
    steps = steps-new;
    handed = h;
  }

  noted-ledgers : new.handed ≡ old.handed → (new.steps % new.every == 0) ≡ false → AreLedgers (e ∷ K) new
  noted-ledgers same due =
      stepped (rw same (b.1.handed ∙ (ap (λ (n : ℕ). handed n K) (sym every) ∙ sym (handed-still e K new.every new.steps (some-worker e w b.0 s) steps-new due))))

  handed-ledgers : (h : Handover) (behind : Bool) → new.handed.items ≡ old.handed.items ++ h ∷ [] → (new.steps % new.every == 0) ≡ true → behind ≡ ((new.steps / new.every) % 2 == 1)
      → h.place ≡ length K → h.worker ≡ w → h.ledger.items ≡ ledger_of (written behind (e ∷ K)) w → AreLedgers (e ∷ K) new
  handed-ledgers h behind more due is place worker text =
      stepped (ap all_handed more
      ∙ (all-handed-more old.handed.items h
      ∙ (ap (λ (xs : List Handed). xs ++ handed_as h ∷ []) (b.1.handed ∙ ap (λ (n : ℕ). handed n K) (sym every))
      ∙ (ap (λ (y : Handed). handed new.every K ++ y ∷ []) as-defined
      ∙ sym (handed-now e K new.every new.steps w (some-worker e w b.0 s) (number-of e.who w b.0) steps-new due)))))
    where
      as-defined : handed_as h ≡ record { place = length K; worker = w; text = ledger_of (if (new.steps / new.every) % 2 == 1 then K else e ∷ K) w }
      as-defined = rw (place, worker, text, is) refl

-- where it stepped
pub noted_ledgers : (w : ℕ) (H : List Event) (old new : Ledgers) (x : Ledger) → AreBehind w H old → newest_skips H ≡ false → new.ledgers.items ≡ slice_set old.ledgers.items w x → new.every ≡ old.every
    → new.steps ≡ old.steps + 1 → new.handed ≡ old.handed → (new.steps % new.every == 0) ≡ false → Keeps H w x → AreLedgers H new
noted_ledgers w [] old new x b s items every steps same due k = absurd b
noted_ledgers w (e ∷ K) old new x b s items every steps same due k = noted-ledgers w e K old new x b s items every steps k same due

-- where it was replaced
pub handed_ledgers : (w : ℕ) (H : List Event) (old new : Ledgers) (x : Ledger) (h : Handover) (behind : Bool) → AreBehind w H old → newest_skips H ≡ false → new.ledgers.items ≡ slice_set old.ledgers.items w x
    → new.every ≡ old.every → new.steps ≡ old.steps + 1 → new.handed.items ≡ old.handed.items ++ h ∷ [] → (new.steps % new.every == 0) ≡ true → behind ≡ ((new.steps / new.every) % 2 == 1)
    → h.place ≡ length H - 1 → h.worker ≡ w → h.ledger.items ≡ ledger_of (written behind H) w → Keeps H w x → AreLedgers H new
handed_ledgers w [] old new x h behind b s items every steps more due is place worker text k = absurd b
handed_ledgers w (e ∷ K) old new x h behind b s items every steps more due is place worker text k =
    let at : h.place ≡ length K = omega arith in
    handed-ledgers w e K old new x b s items every steps k h behind more due is at worker text

-- ---- The start, and the close

-- a worker that has taken nothing keeps an empty history
pub keeps_nothing : (w : ℕ) (l : Ledger) → l.no ≡ w → l.count ≡ 0 → l.own.items ≡ [] → Keeps [] w l
unfolding taken session
keeps_nothing w l n c o = record { number = n; count = c; told = ap all_heard o }

pub all_push : (ls : List Ledger) (x : Ledger) → AllKeep [] ls → Keeps [] (length ls) x → AllKeep [] (ls ++ x ∷ [])
all_push ls x a k = λ w d l. elim (cases_lt w (length ls)) [
  | inl h ↦ rw (get_or_append_left ls (x ∷ []) d w h) (a w d h)
  | inr h ↦
      let n : w < length ls + 1 = rw length-append at l in
      let q : w ≡ length ls = omega arith in
      rw (q, get_or-append_seam ls x [] d) k
]

nothing_kept : (ls : Ledgers) → length ls.ledgers.items ≡ 17 → AllKeep [] ls.ledgers.items → 0 < ls.every → ls.steps ≡ 0 → ls.handed.items ≡ [] → AreLedgers [] ls
unfolding worker_steps handed
nothing_kept ls n k e s h = record { number = n; keep = k; every = e; steps = s; handed = ap all_handed h }

pub started_ledgers : (S : Script) (ls : Ledgers) → length ls.ledgers.items ≡ 17 → AllKeep [] ls.ledgers.items → 0 < ls.every → ls.steps ≡ 0 → ls.handed.items ≡ [] → AreLedgers (started S) ls
started_ledgers S ls n k e s h = other_ledgers (start (system_of S)) [] ls refl (nothing_kept ls n k e s h)

pub closed_handed : (every : ℕ) (K : List Event) → handed every (ev Listener Close ∷ K) ≡ handed every K
closed_handed every K = handed-other (ev Listener Close) K every refl
