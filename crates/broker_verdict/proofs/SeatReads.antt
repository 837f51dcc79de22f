-- What is kept of a seat's reads is so: each was made for the call in hand, and what it is worth.
-- By induction on the history.
use Rattle.std.proofs.Common.{ap, arith, Bool, false, inl, inr, length, List, [], ◌∷◌, map, None, Option, refl, Some, subst, sym, true, ℕ, ◌+◌, ◌-◌, ◌<◌, ◌&&◌, ◌∙◌, ◌≡◌, ◌≤◌, ◌⊎◌}
use Rattle.std.proofs.lemmas.Bool.{and_parts, cases_Bool, eq-eqb, eqb-true, ltb-false}
use Rattle.std.specs.Prelude.{Err, nat_le, nat_lt, Ok, Result, slice_get, ◌==◌, if◌then◌else◌}
use Rattle.history_frames.proofs.Listed.{id-older, is_call-below, place-is}
use Rattle.hist_model.proofs.Look.{event_at-below, event_at-here, event_at-older}
use Rattle.hist_model.specs.Calls.{caller, id, listed}
use Rattle.hist_model.specs.Look.{before, ev, event_at, is_place, is_worker}
use Rattle.hist_model.specs.Memory.{group_named}
use Rattle.hist_model.specs.Steps.{call_after, mem, session_call}
use Rattle.hist_model.specs.declared.event.Actor.{Actor}
use Rattle.hist_model.specs.declared.event.Actor.TheVariants.{Listener, Start, Task, Worker}
use Rattle.hist_model.specs.declared.event.Event.{Event}
use Rattle.hist_model.specs.declared.event.What.{What}
use Rattle.hist_model.specs.declared.event.What.TheVariants.{Check, LetGo, Read, Recv}
use Rattle.mediation.proofs.KernelCalls.{before-newest, before-older}
use Rattle.broker_verdict.proofs.Own.{hand_call}
use Rattle.broker_verdict.specs.SeatCopies.{byte_or_end, gives_byte, gives_bytes, gives_text, gives_texts, is_byte, Seen, told, Unmapped, Unread, worth_least}
use Rattle.broker_verdict.specs.Seats.{confirmed, Foreign, Fresh, is_own_id, rank, reads, reads_after, SeatRead, Stale, Valid, validated, with_read, Worth, worth_now}
use Rattle.broker_verdict.specs.Sentences.{AreBytesRead, AreTextsRead, IsByteRead, IsTextRead}
use Rattle.hist_model.specs.Copies.{further}
use Rattle.hist_model.specs.declared.copy.Part.{Part}
use Rattle.hist_model.specs.declared.copy.Part.TheVariants.{Text, Value}
use Rattle.sys_abi.specs.Errnos.{efault}
use Rattle.std.proofs.Common.{◌++◌}

-- a check of the call's id was good behind a place
pub record IsCheckedBehind (K : List Event) (w c place : ℕ) : Type 0 where
  pub checked : ℕ
  pub later : place < checked
  pub good_check : event_at K checked ≡ Some (ev (Worker w) (Check (id K c) (Ok tt)))

-- the read was made of the caller's memory while the call was listed
record IsOfCaller (H : List Event) (w c : ℕ) : Type 0 where
  pub group : ℕ
  pub of_memory : mem H w ≡ Some group
  pub of_caller : group_named H (caller H c) ≡ Some group
  pub was_listed : listed H c ≡ true

-- the seat made this read for the call that it has in hand, and what it is worth is so
record IsKeptRead (K : List Event) (w : ℕ) (r : SeatRead) : Type 0 where
  pub place : ℕ
  pub below : place < length K
  pub reading : event_at K place ≡ Some (ev (Worker w) (Read r.addr r.len r.answer))
  pub in_hand : session_call (before K place) w ≡ session_call K w
  pub fresh : (r.worth ≡ Fresh) ⊎ (r.worth ≡ Valid) → (c : ℕ) → session_call K w ≡ Some c → IsOfCaller (before K place) w c
  pub valid : r.worth ≡ Valid → (c : ℕ) → session_call K w ≡ Some c → IsCheckedBehind K w c place

AreKept : List Event → ℕ → List SeatRead → Type 0
AreKept K w [] = Unit {0}
AreKept K w (r ∷ more) = IsKeptRead K w r × AreKept K w more

-- ---- one event more

pub checked-older : (e : Event) (K : List Event) (w c place : ℕ) → session_call K w ≡ Some c → IsCheckedBehind K w c place → IsCheckedBehind (e ∷ K) w c place
checked-older e K w c place h b =
    let l = event_at-below K b.checked _ b.good_check in
    let i = id-older e K c (is_call-below K c (hand_call K w c h)) in
    record { checked = b.checked; later = b.later; good_check = rw (event_at-older e K b.checked l, i) b.good_check }

read-older : (e : Event) (K : List Event) (w : ℕ) (r : SeatRead) → session_call (e ∷ K) w ≡ session_call K w → IsKeptRead K w r → IsKeptRead (e ∷ K) w r
read-older e K w r same k =
    let b : before (e ∷ K) k.place ≡ before K k.place = before-older e K k.place (omega (arith, k.below)) in
    record {
      place = k.place;
      below = omega (arith, k.below);
      reading = event_at-older e K k.place k.below ∙ k.reading;
      in_hand = rw (b, same) k.in_hand;
      fresh = λ f c h. rw b (k.fresh f c (sym same ∙ h));
      valid = λ v c h. checked-older e K w c k.place (sym same ∙ h) (k.valid v c (sym same ∙ h));
    }

older : (e : Event) (K : List Event) (w : ℕ) (all : List SeatRead) → session_call (e ∷ K) w ≡ session_call K w → AreKept K w all → AreKept (e ∷ K) w all
unfolding AreKept
older e K w [] same k = tt
older e K w (r ∷ more) same k = (read-older e K w r same k.0, older e K w more same k.1)

pub confirmed-fresh : (v : Worth) → (validated v ≡ Fresh) ⊎ (validated v ≡ Valid) → (v ≡ Fresh) ⊎ (v ≡ Valid)
confirmed-fresh Foreign f = elim f [ inl q ↦ cc | inr q ↦ cc ]
confirmed-fresh Stale f = elim f [ inl q ↦ cc | inr q ↦ cc ]
confirmed-fresh Fresh f = inl refl
confirmed-fresh Valid f = inr refl

-- a good check of the call's own id
confirmed-read : (K : List Event) (w x : ℕ) (r : SeatRead) → is_own_id K w x ≡ true → session_call (ev (Worker w) (Check x (Ok tt)) ∷ K) w ≡ session_call K w
    → IsKeptRead K w r → IsKeptRead (ev (Worker w) (Check x (Ok tt)) ∷ K) w (confirmed r)
confirmed-read K w x r own same k =
    let e : Event = ev (Worker w) (Check x (Ok tt)) in
    let b : before (e ∷ K) k.place ≡ before K k.place = before-older e K k.place (omega (arith, k.below)) in
    record {
      place = k.place;
      below = omega (arith, k.below);
      reading = event_at-older e K k.place k.below ∙ k.reading;
      in_hand = rw (b, same) k.in_hand;
      fresh = λ f c h. rw b (k.fresh (confirmed-fresh r.worth f) c (sym same ∙ h));
      valid = λ v c h.
          let g : session_call K w ≡ Some c = sym same ∙ h in
          let i : id K c ≡ x = eqb-true (id K c) x (rw g at own) in
          record { checked = length K; later = k.below; good_check = rw (id-older e K c (is_call-below K c (hand_call K w c g)), i) (event_at-here e K) };
    }

confirmed-all : (K : List Event) (w x : ℕ) (all : List SeatRead) → is_own_id K w x ≡ true → session_call (ev (Worker w) (Check x (Ok tt)) ∷ K) w ≡ session_call K w
    → AreKept K w all → AreKept (ev (Worker w) (Check x (Ok tt)) ∷ K) w (map (λ r. confirmed r) all)
unfolding AreKept
confirmed-all K w x [] own same k = tt
confirmed-all K w x (r ∷ more) own same k = (confirmed-read K w x r own same k.0, confirmed-all K w x more own same k.1)

pub fresh-parts : (p l : Bool) → ((if p then (if l then Fresh else Stale) else Foreign) ≡ Fresh) ⊎ ((if p then (if l then Fresh else Stale) else Foreign) ≡ Valid)
    → (p ≡ true) × (l ≡ true)
fresh-parts true true f = (refl, refl)
fresh-parts true false f = elim f [ inl q ↦ cc | inr q ↦ cc ]
fresh-parts false l f = elim f [ inl q ↦ cc | inr q ↦ cc ]

new-fresh : (K : List Event) (w c g : ℕ) → mem K w ≡ Some g → (worth_now K (Some c) g ≡ Fresh) ⊎ (worth_now K (Some c) g ≡ Valid) → IsOfCaller K w c
new-fresh K w c g m f =
    let q = fresh-parts (is_place (group_named K (caller K c)) g) (listed K c) f in
    record { group = g; of_memory = m; of_caller = place-is (group_named K (caller K c)) g q.0; was_listed = q.1 }

pub not-valid : (p l : Bool) → (if p then (if l then Fresh else Stale) else Foreign) ≡ Valid → ⊥
not-valid true true f = cc
not-valid true false f = cc
not-valid false l f = cc

never-valid : (K : List Event) (o : Option ℕ) (g : ℕ) → worth_now K o g ≡ Valid → ⊥
never-valid K None g v = cc
never-valid K (Some c) g v = not-valid (is_place (group_named K (caller K c)) g) (listed K c) v

-- the read itself
new-read : (K : List Event) (w addr len : ℕ) (answer : Result (List ℕ) ℕ) (g : ℕ) → mem K w ≡ Some g → session_call (ev (Worker w) (Read addr len answer) ∷ K) w ≡ session_call K w
    → IsKeptRead (ev (Worker w) (Read addr len answer) ∷ K) w (record { addr = addr; len = len; answer = answer; worth = worth_now K (session_call K w) g })
new-read K w addr len answer g m same =
    let e : Event = ev (Worker w) (Read addr len answer) in
    let b : before (e ∷ K) (length K) ≡ K = before-newest e K in
    record {
      place = length K;
      below = omega arith;
      reading = event_at-here e K;
      in_hand = rw (b, same) refl;
      fresh = λ f c h. let q : session_call K w ≡ Some c = sym same ∙ h in rw b (new-fresh K w c g m (rw q at f));
      valid = λ v c h. absurd (never-valid K (session_call K w) g v);
    }

-- the seat's step
pub same-hand : (K : List Event) (w : ℕ) (what : What) → call_after K what (session_call K w) ≡ session_call K w → session_call (ev (Worker w) what ∷ K) w ≡ session_call K w
unfolding session_call
same-hand K w what h = rw (eq-eqb w w refl) h

after-read : (K : List Event) (w addr len : ℕ) (answer : Result (List ℕ) ℕ) (m : Option ℕ) (all : List SeatRead) → mem K w ≡ m → AreKept K w all
    → AreKept (ev (Worker w) (Read addr len answer) ∷ K) w (with_read K w addr len answer m all)
unfolding AreKept
after-read K w addr len answer None all m k = older (ev (Worker w) (Read addr len answer)) K w all (same-hand K w (Read addr len answer) refl) k
after-read K w addr len answer (Some g) all m k = (
  new-read K w addr len answer g m (same-hand K w (Read addr len answer) refl),
  older (ev (Worker w) (Read addr len answer)) K w all (same-hand K w (Read addr len answer) refl) k,
)

after-check : (K : List Event) (w x : ℕ) (own : Bool) (all : List SeatRead) → is_own_id K w x ≡ own → AreKept K w all
    → AreKept (ev (Worker w) (Check x (Ok tt)) ∷ K) w (if own then map (λ r. confirmed r) all else all)
after-check K w x true all h k = confirmed-all K w x all h (same-hand K w (Check x (Ok tt)) refl) k
after-check K w x false all h k = older (ev (Worker w) (Check x (Ok tt))) K w all (same-hand K w (Check x (Ok tt)) refl) k

after-step : (K : List Event) (w : ℕ) (what : What) (all : List SeatRead) → AreKept K w all → AreKept (ev (Worker w) what ∷ K) w (reads_after K w what all)
unfolding AreKept
after-step K w (Recv (Ok n)) all k = tt
after-step K w LetGo all k = tt
after-step K w (Check x (Ok u)) all k = after-check K w x (is_own_id K w x) all refl k
after-step K w (Read addr len answer) all k = after-read K w addr len answer (mem K w) all refl k
after-step K w what all k = older (ev (Worker w) what) K w all (same-hand K w what refl) k

pub worker-is : (a : Actor) (w : ℕ) → is_worker a w ≡ true → a ≡ Worker w
worker-is Start w h = cc
worker-is (Task n) w h = cc
worker-is (Worker v) w h = ap (λ (m : ℕ). Worker m) (eqb-true v w h)
worker-is Listener w h = cc

pub other-hand : (e : Event) (K : List Event) (w : ℕ) → is_worker e.who w ≡ false → session_call (e ∷ K) w ≡ session_call K w
unfolding session_call
other-hand e K w h = rw h refl

are-kept : (K : List Event) (w : ℕ) → AreKept K w (reads K w)
unfolding AreKept reads
are-kept [] w = tt
are-kept (e ∷ K) w = elim (cases_Bool (is_worker e.who w)) [
  | inr f ↦ rw f (older e K w (reads K w) (other-hand e K w f) (are-kept K w))
  | inl t ↦
      let q : ev (Worker w) e.what ≡ e = ap (λ (a : Actor). ev a e.what) (sym (worker-is e.who w t)) in
      rw t (subst (λ (f : Event). AreKept (f ∷ K) w (reads_after K w e.what (reads K w))) q (after-step K w e.what (reads K w) (are-kept K w)))
]

-- ---- the bytes that reads give

-- a read gives a byte at an address
record IsTold (addr : ℕ) (answer : Result (List ℕ) ℕ) (x b : ℕ) : Type 0 where
  pub bytes : List ℕ
  pub offset : ℕ
  pub answered : answer ≡ Ok bytes
  pub there : x ≡ addr + offset
  pub byte : slice_get bytes offset ≡ Some b

told-some : (o : Option ℕ) (ends : Bool) (b : ℕ) → is_byte (byte_or_end o ends) b ≡ true → o ≡ Some b
told-some (Some a) ends b h = ap (λ (n : ℕ). Some n) (eqb-true a b h)
told-some None true b h = cc
told-some None false b h = cc

told-unless : (early : Bool) (s : Seen) (b : ℕ) → is_byte (if early then Unread else s) b ≡ true → (early ≡ false) × (is_byte s b ≡ true)
told-unless true s b h = cc
told-unless false s b h = (refl, h)

never-told : (gone : Bool) (b : ℕ) → is_byte (if gone then Unmapped else Unread) b ≡ true → ⊥
never-told true b h = cc
never-told false b h = cc

told-byte : (addr len : ℕ) (answer : Result (List ℕ) ℕ) (x b : ℕ) → is_byte (told addr len answer x) b ≡ true → IsTold addr answer x b
told-byte addr len (Ok bytes) x b h =
    let q = told-unless (nat_lt x addr) (byte_or_end (slice_get bytes (x - addr)) (nat_lt (length bytes) len && (x == addr + length bytes))) b h in
    let l : addr ≤ x = ltb-false x addr q.0 in
    record { bytes = bytes; offset = x - addr; answered = refl; there = omega arith; byte = told-some (slice_get bytes (x - addr)) _ b q.1 }
told-byte addr len (Err e) x b h = absurd (never-told ((e == efault) && (x == addr)) b h)

valid-or : (v : Worth) → (v ≡ Valid) ⊎ (nat_le 4 (rank v) ≡ false)
valid-or Foreign = inr refl
valid-or Stale = inr refl
valid-or Fresh = inr refl
valid-or Valid = inl refl

either-true : (p q : Bool) → (if p then true else q) ≡ true → (p ≡ true) ⊎ (q ≡ true)
either-true true q h = inl refl
either-true false q h = inr h

read-byte : (K : List Event) (w c x b : ℕ) (r : SeatRead) → session_call K w ≡ Some c → IsKeptRead K w r → r.worth ≡ Valid → is_byte (told r.addr r.len r.answer x) b ≡ true
    → IsByteRead K w c x b
read-byte K w c x b r h k v t =
    let y = told-byte r.addr r.len r.answer x b t in
    let f = k.fresh (inr v) c h in
    let g = k.valid v c h in
    record {
      place = k.place;
      group = f.group;
      addr = r.addr;
      len = r.len;
      bytes = y.bytes;
      offset = y.offset;
      checked = g.checked;
      reading = rw y.answered at k.reading;
      in_hand = k.in_hand ∙ h;
      of_memory = f.of_memory;
      of_caller = f.of_caller;
      was_listed = f.was_listed;
      there = y.there;
      byte = y.byte;
      later = g.later;
      good_check = g.good_check;
    }

byte-read : (K : List Event) (w c x b : ℕ) (all : List SeatRead) → session_call K w ≡ Some c → AreKept K w all → gives_byte (worth_least Valid all) x b ≡ true → IsByteRead K w c x b
unfolding AreKept
byte-read K w c x b [] h k g = cc
byte-read K w c x b (r ∷ more) h k g = elim (valid-or r.worth) [
  | inr n ↦ byte-read K w c x b more h k.1 (rw n at g)
  | inl v ↦ elim (either-true (is_byte (told r.addr r.len r.answer x) b) (gives_byte (worth_least Valid more) x b) (rw v at g)) [
    | inl t ↦ read-byte K w c x b r h k.0 v t
    | inr t ↦ byte-read K w c x b more h k.1 t
  ]
]

bytes-read : (K : List Event) (w c x : ℕ) (bytes : List ℕ) → session_call K w ≡ Some c → gives_bytes (worth_least Valid (reads K w)) x bytes ≡ true → AreBytesRead K w c x bytes
bytes-read K w c x [] h g = tt
bytes-read K w c x (b ∷ more) h g =
    let q = and_parts (gives_byte (worth_least Valid (reads K w)) x b) (gives_bytes (worth_least Valid (reads K w)) (further x 1) more) g in
    (byte-read K w c x b (reads K w) h (are-kept K w) q.0, bytes-read K w c (further x 1) more h q.1)

text-read : (K : List Event) (w c : ℕ) (part : Part) (text : List ℕ) → session_call K w ≡ Some c → gives_text (worth_least Valid (reads K w)) part text ≡ true → IsTextRead K w c part text
text-read K w c (Text addr limit fault) text h g = bytes-read K w c addr (text ++ 0 ∷ []) h g
text-read K w c (Value addr size) text h g = bytes-read K w c addr text h g

pub texts_read : (K : List Event) (w c : ℕ) (parts : List Part) (texts : List (List ℕ)) → session_call K w ≡ Some c → gives_texts (worth_least Valid (reads K w)) parts texts ≡ true
    → AreTextsRead K w c parts texts
texts_read K w c [] [] h g = tt
texts_read K w c [] (text ∷ texts) h g = cc
texts_read K w c (part ∷ parts) [] h g = cc
texts_read K w c (part ∷ parts) (text ∷ texts) h g =
    let q = and_parts (gives_text (worth_least Valid (reads K w)) part text) (gives_texts (worth_least Valid (reads K w)) parts texts) g in
    (text-read K w c part text h q.0, texts_read K w c parts texts h q.1)
