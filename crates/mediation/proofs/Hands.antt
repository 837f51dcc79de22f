-- A worker's open session and the call that it has in hand.
-- By induction on a legal history: a receive takes a call in hand, a let-go drops it, and each other step keeps it.
use Rattle.mediation.proofs.Common.{[], Act, Actor, AddfdPut, AddfdTake, and_from, and_parts, any_of, ap, arith, base, base_after, Bool, call_after, caller, cases_Bool, Check, ended, eq-eqb, ev}
use Rattle.mediation.proofs.Common.{Event, event_at, event_at-older, false, fetched, fetched_by, id, if◌then◌else◌, inl, inr, is_call, is_letgo, is_made, is_worker, IsLegal, length, List, listed}
use Rattle.mediation.proofs.Common.{mem, mem_after, named, None, not, not-true, Notif, notif, notif_of, Ok, oldest-found, oldest_unfetched, OpenBase, OpenMem, Option, or_left, or_right}
use Rattle.mediation.proofs.Common.{pid_at, pid_of, pid_or, Plant, Read, Recv, refl, Rules, Send, session, session_call, skips, Some, starts, sym, System, task_place, true, What, ℕ, ◌&&◌}
use Rattle.mediation.proofs.Common.{◌<◌, ◌==◌, ◌^◌, ◌∙◌, ◌∷◌, ◌≡◌, ◌⊎◌}
use Rattle.history_frames.proofs.Groups.{place-kept}
use Rattle.history_frames.proofs.Listed.{listed-below, is_call-below, listed-is_call, named-listed}
use Rattle.mediation.proofs.Rows.{AtWork, WorkerRow, Row, row-of, by-few-steps}
use Rattle.mediation.proofs.Tasks.{calls_are_last, place-is, made-place, makes-pid}
use Rattle.mediation.proofs.Calls.{call_ids, fetching, named-fetched}

-- ---- a worker's open session, and its call

-- the row of a worker's step
pub worker-row : (S : System) (R : Rules) (K : List Event) (a : Actor) (what : What) (w : ℕ) → Row S R K a what → is_worker a w ≡ true → WorkerRow S R K w what
worker-row S R K a what w r h = grind arith

-- a step of another, or a skip, changes nothing of a worker's session
pub still : (e : Event) (K : List Event) (w : ℕ) → (is_worker e.who w && not (skips e.what)) ≡ false
    → (session (e ∷ K) w ≡ session K w) × (session_call (e ∷ K) w ≡ session_call K w) × (mem (e ∷ K) w ≡ mem K w) × (base (e ∷ K) w ≡ base K w)
unfolding session session_call mem base
still e K w h = grind arith

-- what a step of its own does
pub moved : (e : Event) (K : List Event) (w : ℕ) → is_worker e.who w ≡ true
    → (session_call (e ∷ K) w ≡ call_after K e.what (session_call K w)) × (mem (e ∷ K) w ≡ mem_after K e.what (mem K w)) × (base (e ∷ K) w ≡ base_after K e.what (base K w))
unfolding session_call mem base
moved e K w h = (rw h, rw h, rw h)

pub session-begins : (e : Event) (K : List Event) (w : ℕ) → is_worker e.who w ≡ true → starts e.what ≡ true → session (e ∷ K) w ≡ e.what ∷ []
unfolding session
session-begins e K w h s = grind arith

pub session-grows : (e : Event) (K : List Event) (w : ℕ) (n : Notif) → is_worker e.who w ≡ true → skips e.what ≡ false → starts e.what ≡ false
    → notif_of (session K w) ≡ Some n → session (e ∷ K) w ≡ e.what ∷ session K w
unfolding session
session-grows e K w n h k s q = grind arith

-- the worker has this call in hand
pub record InSession (K : List Event) (w c : ℕ) : Type 0 where
  pub n : Notif
  pub t : ℕ
  pub call : is_call K c ≡ true
  pub got : fetched K c ≡ true
  pub notif_is : notif_of (session K w) ≡ Some n
  pub no_letgo : any_of is_letgo (session K w) ≡ false
  pub whole_is : n ≡ notif K c
  pub id_is : n.id ≡ id K c
  pub task_is : task_place K (caller K c) ≡ Some t
  pub pid_is : pid_of K t ≡ Some n.pid

-- the worker has no call in hand
pub record Idle (K : List Event) (w : ℕ) : Type 0 where
  pub none : (notif_of (session K w) ≡ None) ⊎ (any_of is_letgo (session K w) ≡ true)
  pub mem_none : mem K w ≡ None
  pub base_none : base K w ≡ None

abbrev pub Hand : List Event → ℕ → Option ℕ → Type 0
Hand K w (Some c) = InSession K w c
Hand K w None = Idle K w

-- a step that a session takes after its receive
abbrev pub works : What → Bool
works (OpenMem p a) = true
works (OpenBase p d a) = true
works (Check x a) = true
works (Read x l a) = true
works (Act q cap a) = true
works (Plant x b cap a) = true
works (AddfdPut q a) = true
works (AddfdTake a) = true
works (Send x b a) = true
works _ = false

pub at-work : (S : System) (R : Rules) (K : List Event) (w : ℕ) (what : What) → WorkerRow S R K w what → works what ≡ true → (n : Notif) × AtWork (session K w) n
at-work S R K w what r h = grind arith

-- it keeps the call in hand
pub record Kept (K : List Event) (what : What) : Type 0 where
  pub call : (c : Option ℕ) → call_after K what c ≡ c
  pub no_start : starts what ≡ false
  pub no_skip : skips what ≡ false
  pub no_letgo : is_letgo what ≡ false
  pub no_notif : fetched_by what ≡ None

pub works-keep : (K : List Event) (what : What) → works what ≡ true → Kept K what
works-keep K what h = grind arith

-- what stays of a call in hand while its session's steps stay
in-session-kept : (e : Event) (K : List Event) (w c : ℕ) (i : InSession K w c) → notif_of (session (e ∷ K) w) ≡ Some i.n → any_of is_letgo (session (e ∷ K) w) ≡ false → InSession (e ∷ K) w c
in-session-kept e K w c i h g =
    let l = is_call-below K c i.call in
    let u : i.t < length K = (place-is K (caller K c) i.t i.task_is).2 in
    let q = place-kept e K (caller K c) i.t i.task_is in
    record {
      n = i.n;
      t = i.t;
      call = rw event_at-older i.call;
      got = unfold fetched in or_right _ (fetched K c) i.got;
      notif_is = h;
      no_letgo = g;
      whole_is = rw (event_at-older e K c l, q, event_at-older e K i.t u) (rw i.task_is at i.whole_is);
      id_is = rw event_at-older i.id_is;
      task_is = rw event_at-older q;
      pid_is = rw event_at-older i.pid_is;
    }

-- a worker with a call in hand fetches nothing
pub no-fetch : (K : List Event) (w c : ℕ) → InSession K w c → (notif_of (session K w) ≡ None) ⊎ (any_of is_letgo (session K w) ≡ true) → ⊥
no-fetch K w c i h = grind arith

pub idle-of : (K : List Event) (w : ℕ) (o : Option ℕ) → Hand K w o → (notif_of (session K w) ≡ None) ⊎ (any_of is_letgo (session K w) ≡ true) → Idle K w
idle-of K w (Some c) i h = absurd (no-fetch K w c i h)
idle-of K w None i h = i

-- a worker with a session at work has a call in hand
pub in-hand : (K : List Event) (w : ℕ) (o : Option ℕ) (n : Notif) → AtWork (session K w) n → Hand K w o → (c : ℕ) × (o ≡ Some c) × (i : InSession K w c) × (i.n ≡ n)
in-hand K w (Some c) n work i = (c, refl, i, cc (i.notif_is, work.notif_is))
in-hand K w None n work i = grind arith

module _ (S : System) (R : Rules) (K : List Event) (a : Actor) (w : ℕ) (legal : IsLegal S R K) (room : length K < 2 ^ 64) (is_mine : is_worker a w ≡ true) where
  hand-works : (what : What) → WorkerRow S R K w what → works what ≡ true → Hand K w (session_call K w) → Hand (ev a what ∷ K) w (session_call (ev a what ∷ K) w)
  hand-works what r h i =
      let g = at-work S R K w what r h in
      let j = in-hand K w (session_call K w) g.0 g.1 i in
      let k = works-keep K what h in
      let s : session (ev a what ∷ K) w ≡ what ∷ session K w = session-grows (ev a what) K w g.0 is_mine k.no_skip k.no_start g.1.notif_is in
      rw ((moved (ev a what) K w is_mine).0, k.call (session_call K w), j.1) (in-session-kept (ev a what) K w j.0 j.2 (rw (s, k.no_notif) j.2.notif_is) (rw (s, k.no_letgo) j.2.no_letgo))

  hand-fetches : (n : Notif) → WorkerRow S R K w (Recv (Ok n)) → Hand (ev a (Recv (Ok n)) ∷ K) w (session_call (ev a (Recv (Ok n)) ∷ K) w)
  unfolding fetched
  hand-fetches n r =
      let e = ev a (Recv (Ok n)) in
      let f = fetching K n (oldest_unfetched K) refl r.1.1 in
      let d = f.0 in
      let l = (calls_are_last S R K legal d f.2).0 in
      let m = made-place K (caller K d) (and_parts (is_made K (caller K d)) (not (ended K (caller K d))) l).0 in
      let q = place-is K (caller K d) m.0 m.1 in
      let u : m.0 < length K = q.2 in
      let v : d < length K = listed-below K d f.2 in
      let p = place-kept e K (caller K d) m.0 m.1 in
      let x : n.id ≡ id K d = ap (λ (x : Notif). x.id) f.1 in
      let pid : n.pid ≡ pid_or (pid_of K m.0) = ap (λ (x : Notif). x.pid) f.1 ∙ ap (pid_at K) m.1 in
      let s : session (e ∷ K) w ≡ Recv (Ok n) ∷ [] = session-begins e K w is_mine refl in
      rw ((moved e K w is_mine).0, named-fetched S R K n legal room r.1.1, f.4) (record {
        n = n;
        t = m.0;
        call = rw event_at-older (listed-is_call K d f.2);
        got = or_left _ (fetched K d) (and_from (n.id == id K d) (listed K d) (eq-eqb n.id (id K d) x) f.2);
        notif_is = rw s;
        no_letgo = rw s;
        whole_is = rw (event_at-older e K d v, p, event_at-older e K m.0 u) (rw m.1 at f.1);
        id_is = rw event_at-older x;
        task_is = rw event_at-older p;
        pid_is = rw event_at-older (makes-pid (event_at K m.0) q.0 ∙ ap Some (sym pid));
      })

  -- it lets go, or finds nothing to fetch
  hand-idles : (what : What) (o : Option ℕ) → WorkerRow S R K w what → works what ≡ false → starts what ≡ false → skips what ≡ false → session_call K w ≡ o → Hand K w o
      → Hand (ev a what ∷ K) w (session_call (ev a what ∷ K) w)
  unfolding session session_call mem base
  hand-idles what o r h s k q i = grind (arith, no-fetch)

  hand-step : (what : What) → WorkerRow S R K w what → skips what ≡ false → Hand K w (session_call K w) → Hand (ev a what ∷ K) w (session_call (ev a what ∷ K) w)
  hand-step (Recv (Ok n)) r h i = hand-fetches n r
  hand-step what r h i = elim (cases_Bool (works what)) [ inl k ↦ hand-works what r k i | inr k ↦ hand-idles what (session_call K w) r k (grind arith) h refl i ]

-- another's step, or a skip
hand-stays : (e : Event) (K : List Event) (w : ℕ) (o : Option ℕ) → (is_worker e.who w && not (skips e.what)) ≡ false → Hand K w o → Hand (e ∷ K) w o
hand-stays e K w (Some c) h i = let s = (still e K w h).0 in in-session-kept e K w c i (rw s i.notif_is) (rw s i.no_letgo)
hand-stays e K w None h i = grind (arith, still e K w h)

-- what each worker has in hand
pub hand : (S : System) (R : Rules) (K : List Event) → IsLegal S R K → length K < 2 ^ 64 → (w : ℕ) → Hand K w (session_call K w)
hand S R = by-few-steps S R (λ K. (w : ℕ) → Hand K w (session_call K w)) (λ w. unfold session_call session mem base in record { none = inl refl; mem_none = refl; base_none = refl }) (λ K e legal room r ih w.
    elim (cases_Bool (is_worker e.who w && not (skips e.what))) [
      | inl q ↦ let p = and_parts (is_worker e.who w) (not (skips e.what)) q in hand-step S R K e.who w legal room p.0 e.what (worker-row S R K e.who e.what w r p.0) (not-true (skips e.what) p.1) (ih w)
      | inr q ↦ rw ((still e K w q).1) (hand-stays e K w (session_call K w) q (ih w))
    ])

-- ---- what holds of a call in a worker's hand, by induction on the steps since it was fetched

-- the call in hand
pub in-hand-of : (S : System) (R : Rules) (K : List Event) (w c : ℕ) → IsLegal S R K → length K < 2 ^ 64 → session_call K w ≡ Some c → InSession K w c
in-hand-of S R K w c legal room h = rw h at (hand S R K legal room w)

-- a fact of calls in hand is there after the worker's receive
abbrev pub FetchKept : System → Rules → (List Event → ℕ → ℕ → Type 0) → Type 0
FetchKept S R P = (K : List Event) (a : Actor) (w c : ℕ) (n : Notif) → IsLegal S R (ev a (Recv (Ok n)) ∷ K) → length (ev a (Recv (Ok n)) ∷ K) < 2 ^ 64 → is_worker a w ≡ true
    → WorkerRow S R K w (Recv (Ok n)) → oldest_unfetched K ≡ Some c → Idle K w → session (ev a (Recv (Ok n)) ∷ K) w ≡ Recv (Ok n) ∷ [] → P (ev a (Recv (Ok n)) ∷ K) w c

-- a step of the session keeps it
abbrev pub WorkKept : System → Rules → (List Event → ℕ → ℕ → Type 0) → Type 0
WorkKept S R P = (K : List Event) (a : Actor) (w c : ℕ) (what : What) → IsLegal S R (ev a what ∷ K) → length (ev a what ∷ K) < 2 ^ 64 → is_worker a w ≡ true
    → WorkerRow S R K w what → works what ≡ true → (i : InSession K w c) → session_call K w ≡ Some c → session (ev a what ∷ K) w ≡ what ∷ session K w → P K w c → P (ev a what ∷ K) w c

-- a step of another, or a skip, keeps it
abbrev pub StillKept : System → Rules → (List Event → ℕ → ℕ → Type 0) → Type 0
StillKept S R P = (K : List Event) (e : Event) (w c : ℕ) → IsLegal S R (e ∷ K) → length (e ∷ K) < 2 ^ 64 → (is_worker e.who w && not (skips e.what)) ≡ false
    → (i : InSession K w c) → session_call K w ≡ Some c → session (e ∷ K) w ≡ session K w → P K w c → P (e ∷ K) w c

module _ (S : System) (R : Rules) (P : List Event → ℕ → ℕ → Type 0) (fetch : FetchKept S R P) (work : WorkKept S R P) (rest : StillKept S R P) where
  session-step : (K : List Event) (a : Actor) (what : What) (w c : ℕ) → IsLegal S R (ev a what ∷ K) → length (ev a what ∷ K) < 2 ^ 64 → is_worker a w ≡ true → skips what ≡ false → WorkerRow S R K w what
      → (session_call K w ≡ Some c → P K w c) → session_call (ev a what ∷ K) w ≡ Some c → P (ev a what ∷ K) w c
  session-step K a (Recv (Ok n)) w c legal room q z row ih h =
      let e = ev a (Recv (Ok n)) in
      let o = named-fetched S R K n legal.1 (omega arith) row.1.1 in
      fetch K a w c n legal room q row (sym o ∙ (sym (moved e K w q).0 ∙ h)) (idle-of K w (session_call K w) (hand S R K legal.1 (omega arith) w) row.0) (session-begins e K w q refl)
  session-step K a what w c legal room q z row ih h = elim (cases_Bool (works what)) [
    | inl k ↦
        let t = works-keep K what k in
        let s : session_call K w ≡ Some c = sym (t.call (session_call K w)) ∙ (sym (moved (ev a what) K w q).0 ∙ h) in
        let j = in-hand-of S R K w c legal.1 (omega arith) s in
        work K a w c what legal room q row k j s (session-grows (ev a what) K w j.n q z t.no_start j.notif_is) (ih s)
    | inr k ↦ let i = in-hand-of S R K w c legal.1 (omega arith) in grind (arith, no-fetch, moved)
  ]

  pub by-session : (K : List Event) → IsLegal S R K → length K < 2 ^ 64 → (w c : ℕ) → session_call K w ≡ Some c → P K w c
  by-session [] legal room = λ w c h. absurd (unfold session_call in cc h)
  by-session (e ∷ K) legal room = λ w c h.
      let ih = by-session K legal.1 (omega arith) w c in
      elim (cases_Bool (is_worker e.who w && not (skips e.what))) [
        | inl q ↦
            let p = and_parts (is_worker e.who w) (not (skips e.what)) q in
            let row = worker-row S R K e.who e.what w (row-of S R K e legal.0) p.0 in
            session-step K e.who e.what w c legal room p.0 (not-true (skips e.what) p.1) row ih h
        | inr q ↦ let t = still e K w q in let s = sym t.1 ∙ h in rest K e w c legal room q (in-hand-of S R K w c legal.1 (omega arith) s) s t.0 (ih s)
      ]

-- ---- what a session names is its own call, or nothing once the call has left the list

named-some : (K : List Event) (c x : ℕ) → listed K c ≡ true → id K c ≡ x → (d : ℕ) × (named K x ≡ Some d)
unfolding named
named-some K c x l q = oldest-found (λ d. listed K d && (id K d == x)) (length K) c (listed-below K c l) (and_from (listed K c) (id K c == x) l (eq-eqb (id K c) x q))

pub named-own : (S : System) (R : Rules) (K : List Event) (w c : ℕ) → IsLegal S R K → length K < 2 ^ 64 → (i : InSession K w c) → named K i.n.id ≡ (if listed K c then Some c else None)
named-own S R K w c legal room i = go (named K i.n.id) refl
  where
    go : (o : Option ℕ) → named K i.n.id ≡ o → named K i.n.id ≡ (if listed K c then Some c else None)
    go None q = let f = named-some K c i.n.id in let d = i.id_is in elim (cases_Bool (listed K c)) [ inl l ↦ absurd (cc ((f l (sym d)).1, q)) | inr l ↦ rw l q ]
    go (Some d) q =
        let s = named-listed K i.n.id d q in
        let m : d ≡ c = call_ids S R K legal room d c (listed-is_call K d s.0) i.call (s.1 ∙ i.id_is) in
        rw (rw m at s.0) (q ∙ ap Some m)
