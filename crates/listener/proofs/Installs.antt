-- For which call a request was put, and what its installation answered, after an event.
-- By induction on the events: an event puts a request, installs one, or leaves the queue as it is.
use Rattle.std.proofs.Common.{◌≡◌, inl, inr, ℕ, ◌<◌, ◌≤◌, true, false, ◌&&◌, List, [], ◌∷◌, ◌++◌, length, Option, Some, None, refl, sym, ◌∙◌, arith}
use Rattle.std.proofs.lemmas.Bool.{cases_Bool, cases_order, eq-eqb}
use Rattle.hist_model.specs.Look.{event_at, is_worker}
use Rattle.hist_model.specs.Kinds.{is_install}
use Rattle.hist_model.specs.Calls.{listed, id, is_call, queue, puts_to, installs_for, rest_of}
use Rattle.hist_model.specs.Steps.{request_of, request_after, call_at, asked_call, install_of, installs_request, installed, is_first}
use Rattle.hist_model.specs.Files.{asked_in, asked_by}
use Rattle.hist_model.specs.declared.event.Event.{Event}
use Rattle.hist_model.specs.declared.event.What.{What}
use Rattle.hist_model.specs.declared.event.What.TheVariants.{AddfdPut}
use Rattle.hist_model.proofs.Look.{event_at-here, event_at-older}
use Rattle.history_frames.proofs.Listed.{listed-below, is_call-below, listed-is_call, named-listed}
use Rattle.history_frames.proofs.Queued.{request-same, request-more, call-older, call-above, call-here}
use Rattle.listener.proofs.Queues.{queue-same, queue-put, queue-rest}

-- a step that puts and takes nothing leaves each worker's request
pub request-left : (e : Event) (K : List Event) (w : ℕ) → ((r : Option ℕ) → request_after (length K) e.what r ≡ r) → request_of (e ∷ K) w ≡ request_of K w
request-left e K w h = elim (cases_Bool (is_worker e.who w)) [ inl q ↦ request-more e K w q ∙ h (request_of K w) | inr q ↦ request-same e K w q ]

pub put-call : (K : List Event) (w : What) (c : ℕ) → puts_to K w c ≡ true → asked_call K w ≡ Some c
put-call K w c h = grind arith

asked-listed : (K : List Event) (w : What) (c : ℕ) → asked_call K w ≡ Some c → (listed K c ≡ true) × (id K c ≡ (asked_by w).id)
asked-listed K (AddfdPut a answer) c h = named-listed K a.id c h
asked-listed K w c h = cc

-- it is a call, and has the id that the request names
pub call-id : (K : List Event) (r c : ℕ) → call_at K r ≡ Some c → (is_call K c ≡ true) × (id K c ≡ (asked_in (event_at K r)).id)
call-id [] r c h = unfold call_at in cc
call-id (e ∷ K) r c h = elim (cases_order r (length K)) [
  | inl q ↦
      let h' : call_at (e ∷ K) (length K) ≡ Some c = rw q at h in
      let a = asked-listed K e.what c (sym (call-here e K) ∙ h') in
      let l = listed-below K c a.0 in
      (rw (event_at-older e K c l) (listed-is_call K c a.0), rw (event_at-older e K c l, q, event_at-here e K) a.1)
  | inr (inl l) ↦
      let a = call-id K r c (sym (call-older e K r l) ∙ h) in
      let m = is_call-below K c a.0 in
      (rw (event_at-older e K c m) a.0, rw (event_at-older e K c m, event_at-older e K r l) a.1)
  | inr (inr l) ↦ let n = call-above (e ∷ K) r (omega arith) in absurd (cc (n, h))
]

-- ---- the requests that wait for a call

-- each of these was put for the call
abbrev ArePutFor : List Event → ℕ → List ℕ → Type 0
ArePutFor K c [] = Unit {0}
ArePutFor K c (r ∷ rs) = (r < length K) × (call_at K r ≡ Some c) × ArePutFor K c rs

put-later : (e : Event) (K : List Event) (c : ℕ) (rs : List ℕ) → ArePutFor K c rs → ArePutFor (e ∷ K) c rs
put-later e K c [] h = tt
put-later e K c (r ∷ rs) h = let l : r < length K = h.0 in (omega arith, call-older e K r l ∙ h.1, put-later e K c rs h.2)

put-push : (K : List Event) (c r : ℕ) (rs : List ℕ) → ArePutFor K c rs → r < length K → call_at K r ≡ Some c → ArePutFor K c (rs ++ r ∷ [])
put-push K c r [] h l q = (l, q, tt)
put-push K c r (x ∷ rs) h l q = (h.0, h.1, put-push K c r rs h.2 l q)

put-rest : (K : List Event) (c : ℕ) (rs : List ℕ) → ArePutFor K c rs → ArePutFor K c (rest_of rs)
put-rest K c [] h = tt
put-rest K c (r ∷ rs) h = h.2

queue-for : (K : List Event) (c : ℕ) → ArePutFor K c (queue K c)
queue-for [] c = unfold queue in tt
queue-for (e ∷ K) c =
    let m = put-later e K c (queue K c) (queue-for K c) in
    elim (cases_Bool (puts_to K e.what c)) [
      | inl p ↦ rw (queue-put e K c p) (put-push (e ∷ K) c (length K) (queue K c) m (omega arith) (call-here e K ∙ put-call K e.what c p))
      | inr p ↦ elim (cases_Bool (installs_for K e c)) [
        | inl q ↦ rw (queue-rest e K c p q) (put-rest (e ∷ K) c (queue K c) m)
        | inr q ↦ rw (queue-same e K c p q) m
      ]
    ]

pub first-for : (K : List Event) (c r : ℕ) (rs : List ℕ) → queue K c ≡ r ∷ rs → (r < length K) × (call_at K r ≡ Some c)
first-for K c r rs h = let z = rw h at (queue-for K c) in (z.0, z.1)

-- ---- what the installation of a request answered

pub install-here : (e : Event) (K : List Event) (c r : ℕ) (rs : List ℕ) → call_at K r ≡ Some c → installs_for K e c ≡ true → queue K c ≡ r ∷ rs → install_of (e ∷ K) r ≡ installed e.what
unfolding install_of
install-here e K c r rs a n q = rw (a, n, q, eq-eqb r r refl)

pub install-same : (e : Event) (K : List Event) (c r : ℕ) → call_at K r ≡ Some c → (installs_for K e c && is_first (queue K c) r) ≡ false → install_of (e ∷ K) r ≡ install_of K r
unfolding install_of
install-same e K c r a n = rw (a, n)

-- only an installation gives an answer
pub install-left : (e : Event) (K : List Event) (r : ℕ) → is_install e.what ≡ false → install_of (e ∷ K) r ≡ install_of K r
unfolding install_of
install-left e K r h = rw (none (call_at K r))
  where
    none : (o : Option ℕ) → installs_request K e o r ≡ false
    none None = refl
    none (Some c) = rw h

install-above : (K : List Event) (r : ℕ) → length K ≤ r → install_of K r ≡ None
unfolding install_of
install-above [] r h = refl
install-above (e ∷ K) r h = rw (call-above K r (omega arith)) (install-above K r (omega arith))

-- a request that is put now has none yet
pub install-new : (e : Event) (K : List Event) → install_of (e ∷ K) (length K) ≡ None
unfolding install_of
install-new e K = rw (call-above K (length K) (omega arith)) (install-above K (length K) (omega arith))
