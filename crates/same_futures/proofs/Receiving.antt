-- A notification that is received is of the newest call of its task, and that call is the only one with its id.
-- By the ids, which differ: the call that its task entered last, and the newest one with this id, have that id too.
use Rattle.std.proofs.Common.{◌≡◌, inl, inr, ℕ, Bool, true, false, ◌&&◌, ◌==◌, List, [], ◌∷◌, length, Option, Some, None, refl, sym, ap, ◌∙◌}
use Rattle.std.specs.Prelude.{if◌then◌else◌, option_map, Result, Ok}
use Rattle.std.proofs.lemmas.Bool.{both_ways, eq-eqb, eqb-true}
use Rattle.sys_abi.specs.declared.wire.Notif.{Notif}
use Rattle.hist_model.specs.Calls.{caller, count, id, is_call, listed, id_in, notifies_in, notify_id}
use Rattle.hist_model.specs.Deeds.{Deed}
use Rattle.hist_model.specs.Kinds.{enters, notifies}
use Rattle.hist_model.specs.Legal.{system_of}
use Rattle.hist_model.specs.Look.{Name, event_at, is_task}
use Rattle.hist_model.specs.Memory.{last_call}
use Rattle.hist_model.specs.ReportAudit.{call_with_id, is_notified}
use Rattle.hist_model.specs.ReportCalls.{newest_call}
use Rattle.hist_model.specs.Steps.{deed_step, install_at, notif, oldest_unfetched, recv_answer, request_listed, request_of, take_step}
use Rattle.hist_model.specs.declared.event.Actor.TheVariants.{Task, Worker}
use Rattle.hist_model.specs.declared.event.Entered.TheVariants.{Notify}
use Rattle.hist_model.specs.declared.event.Event.{Event}
use Rattle.hist_model.specs.declared.event.What.{What}
use Rattle.hist_model.specs.declared.event.What.TheVariants.{Enter, Recv, Skip}
use Rattle.hist_model.specs.declared.script.Script.{Script}
use Rattle.hist_model.proofs.Look.{event_at-below, event_at-here, event_at-older}
use Rattle.history_frames.proofs.Listed.{listed-is_call}
use Rattle.listener.specs.Sound.{IdsDiffer}
use Rattle.listener.specs.State as call_state
use Rattle.listener.proofs.Sounds.{ids-differ}
use Rattle.tasks.specs.State.{State}
use Rattle.audit_log.proofs.Newest.{newest_below, newest_passes}
use Rattle.audit_log.proofs.ReceivedCalls.{at_place, newest_named}
use Rattle.same_futures.specs.States.{HasStates}
use Rattle.same_futures.specs.Turns.{IsTurn}
use Rattle.same_futures.proofs.LineSteps.{Receives}
use Rattle.same_futures.proofs.Workers.{unfetched-listed, waits-there}

-- ---- By its id

notified-facts : (a : What) (y : ℕ) → is_notified a y ≡ true → (notifies a ≡ true) × (notify_id a ≡ y)
notified-facts (Enter nr args (Notify x)) y h = (refl, eqb-true x y h)
notified-facts _ y h = cc

notifies-own : (a : What) → notifies a ≡ true → is_notified a (notify_id a) ≡ true
notifies-own (Enter nr args (Notify x)) h = eq-eqb x x refl
notifies-own _ h = cc

-- where an event with the id is among them, one is found
found-named : (y : ℕ) (K : List Event) (c : ℕ) (f : Event) → event_at K c ≡ Some f → is_notified f.what y ≡ true → call_with_id y K ≡ None → ⊥
unfolding event_at call_with_id
found-named y [] c f e h q = cc
found-named y (g ∷ K) c f e h q = by (is_notified g.what y) refl q (c == length K) e (found-named y K c f)
  where
    by : (b : Bool) → is_notified g.what y ≡ b → (if b then Some (length K) else call_with_id y K) ≡ None → (t : Bool) → (if t then Some g else event_at K c) ≡ Some f
        → (event_at K c ≡ Some f → is_notified f.what y ≡ true → call_with_id y K ≡ None → ⊥) → ⊥
    by true n r t e rest = cc
    by false n r true e rest = let z : g ≡ f = cc in both_ways (is_notified f.what y) (ap (λ (x : Event). is_notified x.what y) (sym z) ∙ n) h
    by false n r false e rest = rest e h r

module _ (K : List Event) (differ : IdsDiffer K) (x : ℕ) (on : is_call K x ≡ true) where
  call-event : (f : Event) × (event_at K x ≡ Some f) × (notifies f.what ≡ true) × (notify_id f.what ≡ id K x)
  call-event = by (event_at K x) refl on
    where
      by : (o : Option Event) → event_at K x ≡ o → notifies_in o ≡ true → (f : Event) × (event_at K x ≡ Some f) × (notifies f.what ≡ true) × (notify_id f.what ≡ id K x)
      by (Some f) q h = (f, q, h, sym (ap id_in q))
      by None q h = cc

  pub named-alone : call_with_id (id K x) K ≡ Some x
  named-alone = by (call_with_id (id K x) K) refl
    where
      by : (o : Option ℕ) → call_with_id (id K x) K ≡ o → call_with_id (id K x) K ≡ Some x
      by None q =
          let f = call-event in
          absurd (found-named (id K x) K x f.0 f.1 (ap (is_notified f.0.what) (sym f.3) ∙ notifies-own f.0.what f.2) q)
      by (Some d) q =
          let (l, f, M, p, n, v) = at_place K d (newest_below (λ e. is_notified e.what (id K x)) (call_with_id (id K x)) (newest_named (id K x)) d K q) in
          let passes = newest_passes (λ e. is_notified e.what (id K x)) (call_with_id (id K x)) (newest_named (id K x)) l M f (ap (call_with_id (id K x)) (sym p) ∙ q ∙ ap Some (sym n)) in
          let t = notified-facts f.what (id K x) passes in
          let there : is_call K d ≡ true = ap notifies_in v ∙ t.0 in
          let same : id K d ≡ id K x = ap id_in v ∙ t.1 in
          q ∙ ap Some (differ d x there on same)

-- ---- By its task

no-newest : (n : Name) (K : List Event) → newest_call n K ≡ None → last_call K n ≡ Skip
unfolding newest_call last_call
no-newest n [] q = refl
no-newest n (e ∷ K) q = by (is_task e.who n && enters e.what) q (no-newest n K)
  where
    by : (b : Bool) → (if b then Some (length K) else newest_call n K) ≡ None → (newest_call n K ≡ None → last_call K n ≡ Skip) → (if b then e.what else last_call K n) ≡ Skip
    by true q rest = cc
    by false q rest = rest q

newest-there : (n : Name) (K : List Event) (d : ℕ) → newest_call n K ≡ Some d → (f : Event) × (event_at K d ≡ Some f) × (f.what ≡ last_call K n)
unfolding newest_call last_call
newest-there n [] d q = cc
newest-there n (e ∷ K) d q = by (is_task e.who n && enters e.what) q (newest-there n K d)
  where
    by : (b : Bool) → (if b then Some (length K) else newest_call n K) ≡ Some d → (newest_call n K ≡ Some d → (f : Event) × (event_at K d ≡ Some f) × (f.what ≡ last_call K n))
        → (f : Event) × (event_at (e ∷ K) d ≡ Some f) × (f.what ≡ (if b then e.what else last_call K n))
    by true q rest = let z : length K ≡ d = cc in (e, ap (event_at (e ∷ K)) (sym z) ∙ event_at-here e K, refl)
    by false q rest = let r = rest q in (r.0, event_at-older e K d (event_at-below K d r.0 r.1) ∙ r.1, r.2)

-- what a worker receives is the oldest call that wasn't fetched
module _ (S : Script) (K : List Event) (m : Notif) where
  of-oldest : (o : Option ℕ) → Recv (Ok m) ≡ Recv (recv_answer K o) → (x : ℕ) × (o ≡ Some x) × (m ≡ notif K x)
  of-oldest (Some x) q = let z : m ≡ notif K x = cc in (x, refl, z)
  of-oldest None q = cc

  not-taken : (i : Option (Result ℕ ℕ)) (on : Bool) → Recv (Ok m) ≡ take_step i on → (x : ℕ) × (oldest_unfetched K ≡ Some x) × (m ≡ notif K x)
  not-taken (Some a) on q = cc
  not-taken None true q = cc
  not-taken None false q = cc

  there-is : (b : Bool) → Recv (Ok m) ≡ (if b then Skip else Recv (recv_answer K (oldest_unfetched K))) → (x : ℕ) × (oldest_unfetched K ≡ Some x) × (m ≡ notif K x)
  there-is true q = cc
  there-is false q = of-oldest (oldest_unfetched K) q

  by-deed : (w : ℕ) (d : Deed) → Recv (Ok m) ≡ deed_step (system_of S) K w d → (x : ℕ) × (oldest_unfetched K ≡ Some x) × (m ≡ notif K x)
  by-deed w Deed.Recv q = there-is (count K == 0) q
  by-deed w Deed.AddfdTake q = not-taken (install_at K (request_of K w)) (request_listed K (request_of K w)) q
  by-deed w (Deed.OpenMem p) q = cc
  by-deed w (Deed.OpenBase p d) q = cc
  by-deed w (Deed.Check x) q = cc
  by-deed w (Deed.Read a n) q = cc
  by-deed w (Deed.Act r cap) q = cc
  by-deed w (Deed.Plant a b cap) q = cc
  by-deed w (Deed.AddfdPut a) q = cc
  by-deed w (Deed.Send x back) q = cc
  by-deed w Deed.LetGo q = cc

-- a step of a worker is what the kernel answers to one
abbrev pub IsAnswer : Script → List Event → Event → Type 0
IsAnswer S K e = (w : ℕ) → e.who ≡ Worker w → (v : ℕ) × (d : Deed) × (e.what ≡ deed_step (system_of S) K v d)

pub answer-turn : (S : Script) (K : List Event) (e : Event) → IsTurn S K e → IsAnswer S K e
answer-turn S K e t = λ w p. elim t.turn [
  | inl task ↦ let z : Task task.name ≡ Worker w = sym task.who ∙ p in absurd (cc z)
  | inr worker ↦ (worker.worker, worker.deed, worker.step)
]

-- whose call is received next, if one is
abbrev pub next_of : List Event → Option Name
next_of K = option_map (caller K) (oldest_unfetched K)

module _ (S : Script) (K : List Event) (ts : State) (cs : call_state.State) (h : HasStates S K ts cs) where
  newest-listed : (x : ℕ) → listed K x ≡ true → newest_call (caller K x) K ≡ Some x
  newest-listed x l = by (newest_call (caller K x) K) refl
    where
      on : is_call K x ≡ true
      on = listed-is_call K x l

      differ : IdsDiffer K
      differ = ids-differ S.firstid K h.calls_sound

      by : (o : Option ℕ) → newest_call (caller K x) K ≡ o → newest_call (caller K x) K ≡ Some x
      by None q =
          let e = h.tasks_sound.entries (caller K x) x (waits-there S K ts cs h x l) in
          let z : notifies e.0.what ≡ true = ap notifies_in (sym e.1) ∙ on in
          let s : e.0.what ≡ Skip = e.2 ∙ no-newest (caller K x) K q in
          absurd (both_ways (notifies e.0.what) (ap notifies s) z)
      by (Some d) q =
          let e = h.tasks_sound.entries (caller K x) x (waits-there S K ts cs h x l) in
          let f = newest-there (caller K x) K d q in
          let same : f.0.what ≡ e.0.what = f.2 ∙ sym e.2 in
          let there : is_call K d ≡ true = ap notifies_in f.1 ∙ (ap notifies same ∙ (ap notifies_in (sym e.1) ∙ on)) in
          let one : id K d ≡ id K x = ap id_in f.1 ∙ (ap notify_id same ∙ ap id_in (sym e.1)) in
          q ∙ ap Some (differ d x there on one)

  -- of what the kernel answers to a worker
  pub receives : (e : Event) → IsAnswer S K e → Receives K e.who e.what (next_of K)
  receives e t = record {
    call_is = λ w m p q.
        let d = t w p in
        let o = by-deed S K m d.0 d.1 (sym q ∙ d.2) in
        let l = unfetched-listed S K ts cs h o.0 o.1 in
        let i : m.id ≡ id K o.0 = ap (λ (x : Notif). x.id) o.2 in
        (o.0, ap (option_map (caller K)) o.1, ap (λ (y : ℕ). call_with_id y K) i ∙ named-alone K (ids-differ S.firstid K h.calls_sound) o.0 (listed-is_call K o.0 l), newest-listed o.0 l);
  }
