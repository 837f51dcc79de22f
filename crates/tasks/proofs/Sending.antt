-- The signals of a task after an event, and who holds a PID.
-- By the one event that each definition looks at first, for each of the four signals.
use Rattle.std.proofs.Common.{◌≡◌, inl, inr, ℕ, Bool, true, false, ◌&&◌, ◌||◌, not, List, ◌∷◌, length, Option, Some, None, refl, sym, ap, ◌∙◌, arith}
use Rattle.std.specs.Prelude.{if◌then◌else◌, ◌==◌, Ok}
use Rattle.std.proofs.lemmas.Bool.{both_ways, and_parts, cases_Bool, false_from_ne_true}
use Rattle.hist_model.specs.Look.{Name, name_eq, is_task, ev, event_at}
use Rattle.hist_model.specs.Tasks.{ended, reaped, was_waited_for, has_parent, parent, name_of, pid_of, given, given_in, child_of, handles, disposition, disposition_or, pending, sends_signal, delivers, is_made, is_named, holds as holds_at, holder}
use Rattle.hist_model.specs.Kinds.{makes}
use Rattle.hist_model.specs.Steps.{makes_in, task_place, pid_named, pid_at, pid_or}
use Rattle.hist_model.specs.declared.event.Actor.{Actor}
use Rattle.hist_model.specs.declared.event.Event.{Event}
use Rattle.hist_model.specs.declared.event.Disposition.{Disposition}
use Rattle.hist_model.specs.declared.event.What.{What}
use Rattle.hist_model.specs.declared.event.What.TheVariants.{Signal, Deliver, Handler, Spawn}
use Rattle.hist_model.specs.declared.script.Script.{Script}
use Rattle.hist_model.proofs.Look.{name_eq-true, name_eq-refl, oldest-some}
use Rattle.history_frames.proofs.Held.{holder-is, holder-holds, holds-makes}
use Rattle.sys_abi.specs.Signals.{sigkill, sigusr1, sigusr2, sigterm}
use Rattle.tasks.specs.Sets.{pending_of, dispositions_of, with_signal}
use Rattle.tasks.specs.State.{Row, is_reaped, holds, sent, stepped, modes_after}
use Rattle.tasks.specs.Fold.{IsRow}
use Rattle.tasks.specs.Sound.{IsSound}
use Rattle.tasks.proofs.Named.{found-place}
use Rattle.tasks.proofs.Frames.{never}

-- ---- who holds a number

-- the row says whether its task is reaped
pub reaped-is : (S : Script) (K : List Event) (r : Row) → IsRow S K r.name r → reaped K r.name ≡ is_reaped r
unfolding reaped
reaped-is S K r i = rw (i.waited_is, i.ended_is, i.fostered_is) (turned (was_waited_for K r.name) (ended K r.name) (has_parent r.name) (ended K (parent r.name)))
  where
    turned : (a b c d : Bool) → (a || (b && (not c || d))) ≡ (a || (b && not (c && not d)))
    turned a b c d = grind arith

given-number : (w : What) → makes w ≡ true → given w ≡ Some (pid_or (given w))
given-number (Spawn n (Ok a)) h = refl
given-number w h = cc

number-given : (o : Option Event) → makes_in o ≡ true → given_in o ≡ Some (pid_or (given_in o))
number-given None h = cc
number-given (Some e) h = given-number e.what h

-- the place of a task that was made, with its number
pub place-number : (K : List Event) (n : Name) → is_made K n ≡ true → (t : ℕ) × (makes_in (event_at K t) ≡ true) × (name_of K t ≡ n) × (pid_of K t ≡ Some (pid_named K n))
place-number K n m =
    let f = found-place K n m in
    let s = (oldest-some (λ u. makes_in (event_at K u) && name_eq (name_of K u) n) (length K) f.0 (unfold task_place in f.1)).0 in
    let p = and_parts (makes_in (event_at K f.0)) (name_eq (name_of K f.0) n) s in
    (f.0, p.0, name_eq-true (name_of K f.0) n p.1, number-given (event_at K f.0) p.0 ∙ ap Some (sym (ap (pid_at K) f.1)))

module _ (S : Script) (K : List Event) (Y : IsSound K) (r : Row) (i : IsRow S K r.name r) (m : is_made K r.name ≡ true) where
  pub holds-is : (p : ℕ) → holds_at K p (place-number K r.name m).0 ≡ holds p r
  holds-is p = let q = place-number K r.name m in rw (q.3, q.2, reaped-is S K r i, i.pid_is)

  -- the row holds a number exactly where the definitions have its task hold it
  pub holder-named : (p : ℕ) → is_named K (holder K p) r.name ≡ holds p r
  holder-named p = elim (cases_Bool (holds p r)) [
    | inl h ↦ let q = place-number K r.name m in ap (λ o. is_named K o r.name) (holder-is K p q.0 Y.pids (holds-is p ∙ h)) ∙ (ap (λ x. name_eq x r.name) q.2 ∙ (name_eq-refl r.name ∙ sym h))
    | inr h ↦ go (holder K p) refl h
  ]
    where
      go : (o : Option ℕ) → holder K p ≡ o → holds p r ≡ false → is_named K o r.name ≡ holds p r
      go None q h = sym h
      go (Some t) q h = false_from_ne_true (name_eq (name_of K t) r.name) (λ z.
          let a = place-number K r.name m in
          let b = holder-holds K p t q in
          let same = Y.names t a.0 (holds-makes K p t b) a.1 (name_eq-true (name_of K t) r.name z ∙ sym a.2) in
          both_ways (holds p r) h (sym (holds-is p) ∙ (ap (holds_at K p) (sym same) ∙ b))) ∙ sym h

-- ---- which signals are pending

pending-left : (e : Event) (K : List Event) (n : Name) (s : ℕ) → sends_signal K e.what n s ≡ false → (delivers e.what s && is_task e.who n) ≡ false → pending (e ∷ K) n s ≡ pending K n s
unfolding pending
pending-left e K n s h d = rw (h, d)

pending-sent : (e : Event) (K : List Event) (n : Name) (s : ℕ) (b : Bool) → sends_signal K e.what n s ≡ (b && true) → (delivers e.what s && is_task e.who n) ≡ false → pending (e ∷ K) n s ≡ (if b then true else pending K n s)
unfolding pending
pending-sent e K n s b h d = rw (h, d) (pick b (pending K n s))
  where
    pick : (b p : Bool) → ((b && true) || p) ≡ (if b then true else p)
    pick true p = refl
    pick false p = refl

pending-delivered : (e : Event) (K : List Event) (n : Name) (s : ℕ) (b : Bool) → sends_signal K e.what n s ≡ false → delivers e.what s ≡ b → is_task e.who n ≡ true → pending (e ∷ K) n s ≡ (if b then false else pending K n s)
unfolding pending
pending-delivered e K n s b h d w = rw (h, d, w) (pick b (pending K n s))
  where
    pick : (b p : Bool) → (not (b && true) && p) ≡ (if b then false else p)
    pick true p = refl
    pick false p = refl

pub pending-same : (K L : List Event) (n m : Name) → ((s : ℕ) → pending K n s ≡ pending L m s) → pending_of K n ≡ pending_of L m
pending-same K L n m h = rw (h sigkill, h sigusr1, h sigusr2, h sigterm)

pub dispositions-same : (K L : List Event) (n m : Name) → ((s : ℕ) → disposition K n s ≡ disposition L m s) → dispositions_of K n ≡ dispositions_of L m
dispositions-same K L n m h = rw (h sigkill, h sigusr1, h sigusr2, h sigterm)

module _ (S : Script) (K : List Event) (Y : IsSound K) (r : Row) (i : IsRow S K r.name r) (m : is_made K r.name ≡ true) (a : Actor) where
  -- a signal is sent
  pending-signal : (p sig : ℕ) (u : Unit {0}) → (if holds p r then with_signal r.pending sig true else r.pending) ≡ pending_of (ev a (Signal p sig (Ok u)) ∷ K) r.name
  pending-signal p sig u = go (holds p r) (holder-named S K Y r i m p)
    where
      e : Event
      e = ev a (Signal p sig (Ok u))

      go : (b : Bool) → is_named K (holder K p) r.name ≡ b → (if b then with_signal r.pending sig true else r.pending) ≡ pending_of (e ∷ K) r.name
      go true h =
          let set = λ (s : ℕ). pending-sent e K r.name s (sig == s) (ap (λ b. (sig == s) && b) h) refl in
          ap (λ x. with_signal x sig true) i.pending_is ∙ rw (set sigkill, set sigusr1, set sigusr2, set sigterm)
      go false h = i.pending_is ∙ sym (pending-same (e ∷ K) K r.name r.name (λ s. pending-left e K r.name s (ap (λ b. (sig == s) && b) h ∙ never (sig == s)) refl))

  -- another's step
  pub pending-other : (w : What) → is_task a r.name ≡ false → sent w r ≡ pending_of (ev a w ∷ K) r.name
  pending-other (Signal p sig (Ok u)) h = pending-signal p sig u
  pending-other (Deliver sig effect) h = i.pending_is ∙ sym (pending-same (ev a (Deliver sig effect) ∷ K) K r.name r.name (λ s. pending-left (ev a (Deliver sig effect)) K r.name s refl (rw h (never (sig == s)))))
  pending-other w h = i.pending_is ∙ sym (pending-same (ev a w ∷ K) K r.name r.name (λ s. pending-left (ev a w) K r.name s refl refl))

  -- its own
  pub pending-own : (w : What) → is_task a r.name ≡ true → sent w (stepped w r) ≡ pending_of (ev a w ∷ K) r.name
  pending-own (Signal p sig (Ok u)) h = pending-signal p sig u
  pending-own (Deliver sig effect) h =
      let e = ev a (Deliver sig effect) in
      let set = λ (s : ℕ). pending-delivered e K r.name s (sig == s) refl refl h in
      ap (λ x. with_signal x sig false) i.pending_is ∙ rw (set sigkill, set sigusr1, set sigusr2, set sigterm)
  pending-own w h = i.pending_is ∙ sym (pending-same (ev a w ∷ K) K r.name r.name (λ s. pending-left (ev a w) K r.name s refl refl))

-- ---- what a task does at each signal

disposition-left : (e : Event) (K : List Event) (n : Name) (s : ℕ) → (if is_task e.who n then handles e.what s else None) ≡ None → name_eq (child_of e.what) n ≡ false → disposition (e ∷ K) n s ≡ disposition K n s
unfolding disposition
disposition-left e K n s h c = rw (h, c)

disposition-set : (e : Event) (K : List Event) (n : Name) (sig s : ℕ) (m : Disposition) → is_task e.who n ≡ true → handles e.what s ≡ (if sig == s then Some m else None) → name_eq (child_of e.what) n ≡ false
    → disposition (e ∷ K) n s ≡ (if sig == s then m else disposition K n s)
unfolding disposition
disposition-set e K n sig s m h w c = rw (h, w, c) (pick (sig == s) m (disposition K n s))
  where
    pick : (b : Bool) (m d : Disposition) → disposition_or (if b then Some m else None) d ≡ (if b then m else d)
    pick true m d = refl
    pick false m d = refl

none-both : (b : Bool) → ◌≡◌ {A = Option Disposition} (if b then None else None) None
none-both true = refl
none-both false = refl

pub modes-other : (K : List Event) (a : Actor) (w : What) (n : Name) → is_task a n ≡ false → name_eq (child_of w) n ≡ false → dispositions_of K n ≡ dispositions_of (ev a w ∷ K) n
modes-other K a w n h c = sym (dispositions-same (ev a w ∷ K) K n n (λ s. disposition-left (ev a w) K n s (rw h) c))

pub modes-own : (K : List Event) (a : Actor) (w : What) (n : Name) → is_task a n ≡ true → name_eq (child_of w) n ≡ false → modes_after w (dispositions_of K n) ≡ dispositions_of (ev a w ∷ K) n
modes-own K a (Handler sig m) n h c =
    let set = λ (s : ℕ). disposition-set (ev a (Handler sig m)) K n sig s m h refl c in
    rw (set sigkill, set sigusr1, set sigusr2, set sigterm)
modes-own K a w n h c = sym (dispositions-same (ev a w ∷ K) K n n (λ s. disposition-left (ev a w) K n s (none-both (is_task a n)) c))
