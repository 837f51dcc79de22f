-- What a session has opened is its call's task's.
-- By induction on the steps since the call was fetched, and since a listed call's task lives and waits in it.
use Rattle.mediation.proofs.Common.{Actor, after_native, ◌==◌, alive, and_parts, any_of, ap, arith, base, base_after, base_answer, base_of, BaseIs, before, Bool, caller, cases_Bool, Check, checks, eq-eqb}
use Rattle.mediation.proofs.Common.{Err, opens_base, or_parts, ev, Event, event_at, event_at-below, event_at-here, event_at-older, false, files, Files, gives_up, group, HasMemory, holder, inl, InOrder, inr, is_good_check}
use Rattle.mediation.proofs.Common.{is_opening, is_worker, IsLegal, length, LetGo, List, listed, mem, mem_after, NativeStep, None, Notif, notif_of, Ok, OpenBase, opened, opens, Option}
use Rattle.mediation.proofs.Common.{place_or, Recv, refl, Result, Rules, Script, session, session_call, Some, sym, System, system_of, task_place, true, waiting, What, Worker, ℕ, ℤ, ◌&&◌, ◌<◌, ◌^◌}
use Rattle.mediation.proofs.Common.{◌∙◌, ◌∷◌, ◌≡◌, ◌⊎◌}
use Rattle.history_frames.proofs.Groups.{group-kept, place-kept}
use Rattle.history_frames.proofs.Listed.{is_call-below}
use Rattle.history_frames.proofs.Queued.{worker-is}
use Rattle.mediation.proofs.Rows.{AtWork, WorkerRow, Row, by-few-steps}
use Rattle.mediation.proofs.Tasks.{listed-was, calls_are_last, place-is, living-holder}
use Rattle.mediation.proofs.Calls.{before-older, before-newest}
use Rattle.mediation.proofs.Hands.{worker-row, still, moved, session-grows, InSession, Hand, works, idle-of, hand, in-hand-of, FetchKept, WorkKept, StillKept, by-session, named-own}
use Rattle.mediation.proofs.Order.{goods, any-number, in_order}
use Rattle.sys_abi.specs.Errnos.{esrch, ebadf}

-- ---- what a session has opened is its call's task's

-- a good check finds the session's call waiting
pub check-listed : (S : System) (R : Rules) (K : List Event) (w c x : ℕ) (u : Unit {0}) → IsLegal S R K → length K < 2 ^ 64 → InSession K w c → WorkerRow S R K w (Check x (Ok u)) → waiting K c ≡ true
check-listed S R K w c x u legal room i r =
    let m : x ≡ i.n.id = grind arith in
    let y = rw (m, named-own S R K w c legal room i) at r.1 in
    grind arith

-- a check that did not end the session was good
pub good-check : (own : List What) → any_of checks own ≡ true → any_of gives_up own ≡ false → any_of is_good_check own ≡ true
good-check own h g = grind (arith, goods, any-number)

pub record Steady (K : List Event) (w c : ℕ) : Type 0 where
  -- while the call is listed, and after a good check, what the session opened is its call's task's
  pub handles : (t g : ℕ) → task_place K (caller K c) ≡ Some t → (listed K c ≡ true) ⊎ (any_of is_good_check (session K w) ≡ true) → (mem K w ≡ Some g → g ≡ group K t) × (base K w ≡ Some g → g ≡ group K t)
  -- a session that has opened, and has not given up, has a memory
  pub opened : any_of opens (session K w) ≡ true → any_of gives_up (session K w) ≡ false → (g : ℕ) × (mem K w ≡ Some g)

-- the same task and group, one event later
later : (e : Event) (K : List Event) (w c t : ℕ) (i : InSession K w c) → task_place (e ∷ K) (caller (e ∷ K) c) ≡ Some t → (t ≡ i.t) × (group (e ∷ K) t ≡ group K i.t)
later e K w c t i p =
    let l = is_call-below K c i.call in
    let q : task_place (e ∷ K) (caller K c) ≡ Some t = rw event_at-older at p in
    let m : t ≡ i.t = cc (place-kept e K (caller K c) i.t i.task_is, q) in
    (m, rw m (group-kept e K i.t (place-is K (caller K c) i.t i.task_is).2))

-- while the call is listed, its number leads to its task
pub opens-own : (S : System) (R : Rules) (K : List Event) (w c : ℕ) → IsLegal S R K → (i : InSession K w c) → listed K c ≡ true → (holder K i.n.pid ≡ Some i.t) × (alive K (caller K c) ≡ true)
opens-own S R K w c legal i l = let x = (calls_are_last S R K legal c l).0 in (living-holder S R K (caller K c) i.t i.n.pid legal x i.task_is i.pid_is, x)

module _ (S : System) (R : Rules) where
  -- an opening stands before the first good check
  early : (K : List Event) (a : Actor) (w : ℕ) (what : What) → IsLegal S R (ev a what ∷ K) → session (ev a what ∷ K) w ≡ what ∷ session K w
      → is_opening what ≡ true → any_of is_good_check (session K w) ≡ false
  early K a w what legal own h =
      let o : InOrder (what ∷ session K w) = rw own at (in_order S R (ev a what ∷ K) legal w) in
      let z = o.0 h in
      grind (arith, any-number)

  -- at a step its call was listed, or had a good check
  was-own : (K : List Event) (w c : ℕ) (what : What) → IsLegal S R K → length K < 2 ^ 64 → InSession K w c → WorkerRow S R K w what
      → (listed K c ≡ true) ⊎ (any_of is_good_check (what ∷ session K w) ≡ true) → (listed K c ≡ true) ⊎ (any_of is_good_check (session K w) ≡ true)
  was-own K w c (Check x (Ok u)) legal room i row l = let v = check-listed S R K w c x u legal room i row in inl (and_parts (listed K c) _ v).0
  was-own K w c what legal room i row l = l

  own-more : (K : List Event) (w c g : ℕ) (what : What) → IsLegal S R K → (i : InSession K w c) → WorkerRow S R K w what → works what ≡ true
      → (is_opening what ≡ true → any_of is_good_check (session K w) ≡ false) → (listed K c ≡ true) ⊎ (any_of is_good_check (session K w) ≡ true)
      → (mem K w ≡ Some g → g ≡ group K i.t) × (base K w ≡ Some g → g ≡ group K i.t) → (mem_after K what (mem K w) ≡ Some g → g ≡ group K i.t) × (base_after K what (base K w) ≡ Some g → g ≡ group K i.t)
  own-more K w c g what legal i row v y l x = let o = opens-own S R K w c legal i in grind arith

  steady-fetch : FetchKept S R Steady
  steady-fetch K a w c n legal room q row o idle own = let m = moved (ev a (Recv (Ok n))) K w q in record { handles = λ t g p l. grind arith; opened = rw own (λ h. cc) }

  steady-work : WorkKept S R Steady
  steady-work K a w c what legal room q row v i s own ih =
      let e = ev a what in
      let m = moved e K w q in
      record {
        handles = λ t g p l.
            let z = later e K w c t i p in
            let k = was-own K w c what legal.1 (omega arith) i row (elim l [ inl x ↦ inl (listed-was e K c (is_call-below K c i.call) x) | inr x ↦ inr (rw own at x) ]) in
            rw (m.1, m.2, z.1) (own-more K w c g what legal.1 i row v (early K a w what legal own) k (ih.handles i.t g i.task_is k));
        opened = rw own (λ o g. let x = ih.opened in grind arith);
      }

  steady-still : StillKept S R Steady
  steady-still K e w c legal room q i s own ih =
      let m = still e K w q in
      record {
        handles = λ t g p l.
            let z = later e K w c t i p in
            rw (m.2, m.3, z.1) (ih.handles i.t g i.task_is (elim l [ inl x ↦ inl (listed-was e K c (is_call-below K c i.call) x) | inr x ↦ inr (rw own at x) ]));
        opened = rw (own, m.2) ih.opened;
      }

  pub steady : (K : List Event) → IsLegal S R K → length K < 2 ^ 64 → (w c : ℕ) → session_call K w ≡ Some c → Steady K w c
  steady = by-session S R Steady steady-fetch steady-work steady-still

  -- after a good check the memory is the call's task's
  pub own-memory : (K : List Event) (w c : ℕ) → IsLegal S R K → length K < 2 ^ 64 → session_call K w ≡ Some c → any_of opens (session K w) ≡ true → any_of checks (session K w) ≡ true
      → any_of gives_up (session K w) ≡ false → HasMemory K w c
  own-memory K w c legal room s o k g =
      let i = in-hand-of S R K w c legal room s in
      let t = steady K legal room w c s in
      let m = t.opened o g in
      let v = (t.handles i.t m.0 i.task_is (inr (good-check (session K w) k g))).0 m.1 in
      record { group = group K i.t; opened_is = m.1 ∙ ap Some v; of_caller = ap (opened K) i.task_is }

-- ---- the base from which a session's effect goes is one that the session opened, in a slot of its call's task's group

-- the base that the files have for a worker
files_base : Script → List Event → ℕ → Option ℕ
files_base S K w = (files S K).base w

native-base : (F : Files) (g : ℕ) (s : NativeStep) (w : ℕ) → (after_native F g s).base w ≡ F.base w
native-base F g s w = grind arith

-- the step opens or drops a base
abbrev moves : What → Bool
moves (OpenBase p d (Ok u)) = true
moves LetGo = true
moves _ = false

files-same : (S : Script) (e : Event) (K : List Event) (w : ℕ) → (is_worker e.who w && moves e.what) ≡ false → files_base S (e ∷ K) w ≡ files_base S K w
unfolding files_base files
files-same S e K w h = grind (arith, native-base)

files-opens : (S : Script) (K : List Event) (a : Actor) (w p : ℕ) (d : ℤ) (u : Unit {0}) → is_worker a w ≡ true
    → files_base S (ev a (OpenBase p d (Ok u)) ∷ K) w ≡ base_of S (files S K) (place_or (opened K (holder K p))) d
unfolding files_base files
files-opens S K a w p d u h = grind arith

files-drops : (S : Script) (K : List Event) (a : Actor) (w : ℕ) → is_worker a w ≡ true → files_base S (ev a LetGo ∷ K) w ≡ None
unfolding files_base files
files-drops S K a w h = grind arith

-- an opening that was answered ok found a living task
opening-found : (S : System) (K : List Event) (o : Option ℕ) (d : ℤ) (u : Unit {0}) → ◌≡◌ {A = Result (Unit {0}) ℕ} (Ok u) (base_answer S K o d) → (t : ℕ) × (o ≡ Some t)
opening-found S K o d u h = grind arith

-- where a session was answered that the base of its call isn't open
record Refused (R : Rules) (K : List Event) (w c : ℕ) : Type 0 where
  pub place : ℕ
  pub pid : ℕ
  pub dirfd : ℤ
  pub opening : event_at K place ≡ Some (ev (Worker w) (OpenBase pid dirfd (Err ebadf)))
  pub in_session : session_call (before K place) w ≡ Some c
  pub named : (n : Notif) → notif_of (session K w) ≡ Some n → (pid ≡ n.pid) × (R.dirfd n ≡ Some dirfd)

-- a session that opened its base, and goes on without one, was answered so
abbrev WasRefused : Rules → List Event → ℕ → ℕ → Type 0
WasRefused R K w c = any_of opens_base (session K w) ≡ true → any_of gives_up (session K w) ≡ false → base K w ≡ None → Refused R K w c

refused-later : (R : Rules) (e : Event) (K : List Event) (w c : ℕ) → notif_of (session (e ∷ K) w) ≡ notif_of (session K w) → Refused R K w c → Refused R (e ∷ K) w c
refused-later R e K w c n r =
    let l = event_at-below K r.place _ r.opening in
    let q = before-older e K r.place (omega arith) in
    record { place = r.place; pid = r.pid; dirfd = r.dirfd; opening = rw event_at-older r.opening; in_session = rw q r.in_session; named = rw n r.named }

-- an opening of a base that doesn't end the session was answered that it isn't open
only-closed : (S : System) (K : List Event) (o : Option ℕ) (d : ℤ) (x : ℕ) → ◌≡◌ {A = Result (Unit {0}) ℕ} (Err x) (base_answer S K o d) → (x == esrch) ≡ false → x ≡ ebadf
only-closed S K o d x h g = grind arith

module _ (S : System) (R : Rules) where
  refused-fetch : FetchKept S R (WasRefused R)
  refused-fetch K a w c n legal room q row o idle own h g b = absurd (cc (rw own at h))

  refused-work : WorkKept S R (WasRefused R)
  refused-work K a w c (OpenBase p d (Ok u)) legal room q row v i s own ih h g b =
      let f = opening-found S K (holder K p) d u row.1 in
      absurd (cc ((moved (ev a (OpenBase p d (Ok u))) K w q).2, ap (opened K) f.1, b))
  refused-work K a w c (OpenBase p d (Err x)) legal room q row v i s own ih h g b =
      let e = ev a (OpenBase p d (Err x)) in
      let z = only-closed S K (holder K p) d x row.1 (or_parts (x == esrch) (any_of gives_up (session K w)) (rw own at g)).0 in
      record {
        place = length K;
        pid = p;
        dirfd = d;
        opening = event_at-here e K ∙ rw (worker-is a w q, z) refl;
        in_session = rw (before-newest e K) s;
        named = rw own (λ n m. grind arith);
      }
  refused-work K a w c what legal room q row v i s own ih h g b =
      let m = (moved (ev a what) K w q).2 in
      refused-later R (ev a what) K w c (rw own (grind arith)) (ih (grind arith) (grind arith) (grind arith))

  refused-still : StillKept S R (WasRefused R)
  refused-still K e w c legal room q i s own ih h g b =
      refused-later R e K w c (ap notif_of own) (ih (rw own at h) (rw own at g) (sym (still e K w q).3 ∙ b))

  was-refused : (K : List Event) → IsLegal S R K → length K < 2 ^ 64 → (w c : ℕ) → session_call K w ≡ Some c → WasRefused R K w c
  was-refused = by-session S R (WasRefused R) refused-fetch refused-work refused-still

-- what a worker's base is, and where it was opened
record Based (S : Script) (R : Rules) (K : List Event) (w g : ℕ) : Type 0 where
  pub place : ℕ
  pub pid : ℕ
  pub dirfd : ℤ
  pub opening : event_at K place ≡ Some (ev (Worker w) (OpenBase pid dirfd (Ok tt)))
  pub in_session : session_call (before K place) w ≡ session_call K w
  pub is_base : files_base S K w ≡ base_of S (files S (before K place)) g dirfd
  pub named : (n : Notif) → notif_of (session K w) ≡ Some n → (pid ≡ n.pid) × (R.dirfd n ≡ Some dirfd)

abbrev BaseOf : Script → Rules → List Event → ℕ → Option ℕ → Type 0
BaseOf S R K w None = files_base S K w ≡ None
BaseOf S R K w (Some g) = Based S R K w g

module _ (S : Script) (R : Rules) where
  based-later : (e : Event) (K : List Event) (w : ℕ) (o : Option ℕ) → files_base S (e ∷ K) w ≡ files_base S K w → session_call (e ∷ K) w ≡ session_call K w
      → notif_of (session (e ∷ K) w) ≡ notif_of (session K w) → BaseOf S R K w o → BaseOf S R (e ∷ K) w o
  based-later e K w None f c n b = f ∙ b
  based-later e K w (Some g) f c n b =
      let l = event_at-below K b.place _ b.opening in
      let q = before-older e K b.place (omega arith) in
      record { place = b.place; pid = b.pid; dirfd = b.dirfd; opening = rw event_at-older b.opening; in_session = rw (q, c) b.in_session; is_base = rw q (f ∙ b.is_base); named = rw n b.named }

  based-opens : (K : List Event) (w p : ℕ) (d : ℤ) (u : Unit {0}) → WorkerRow (system_of S) R K w (OpenBase p d (Ok u)) → BaseOf S R (ev (Worker w) (OpenBase p d (Ok u)) ∷ K) w (opened K (holder K p))
  based-opens K w p d u r =
      let e = ev (Worker w) (OpenBase p d (Ok u)) in
      let m : is_worker (Worker w) w ≡ true = eq-eqb w w refl in
      let f = opening-found (system_of S) K (holder K p) d u r.1 in
      rw f.1 (record {
        place = length K;
        pid = p;
        dirfd = d;
        opening = event_at-here e K;
        in_session = rw (before-newest e K, (moved e K w m).0);
        is_base = rw (before-newest e K) (files-opens S K (Worker w) w p d u m ∙ ap (λ (x : Option ℕ). base_of S (files S K) (place_or (opened K x)) d) f.1);
        named = rw (session-grows e K w r.0.0 m refl refl r.0.1.notif_is) (λ n q. grind arith);
      })

  -- a step that moves no base leaves the session, where there is a base
  session-stays : (K : List Event) (a : Actor) (what : What) (w : ℕ) → Hand K w (session_call K w) → Row (system_of S) R K a what → (is_worker a w && moves what) ≡ false
      → (base K w ≡ None) ⊎ ((session_call (ev a what ∷ K) w ≡ session_call K w) × (notif_of (session (ev a what ∷ K) w) ≡ notif_of (session K w)))
  unfolding session session_call
  session-stays K a what w i r m = let o = idle-of K w (session_call K w) i in grind arith

  based : (K : List Event) → IsLegal (system_of S) R K → length K < 2 ^ 64 → (w : ℕ) → BaseOf S R K w (base K w)
  based = by-few-steps (system_of S) R (λ K. (w : ℕ) → BaseOf S R K w (base K w)) (λ w. unfold files_base files base in refl) (λ K e legal room r ih w. based-more K e.who e.what w legal room r (ih w))
    where
      moved-base : (K : List Event) (w : ℕ) (what : What) → WorkerRow (system_of S) R K w what → moves what ≡ true → BaseOf S R (ev (Worker w) what ∷ K) w (base_after K what (base K w))
      moved-base K w (OpenBase p d (Ok u)) r m = based-opens K w p d u r
      moved-base K w LetGo r m = files-drops S K (Worker w) w (eq-eqb w w refl)
      moved-base K w what r m = cc

      based-more : (K : List Event) (a : Actor) (what : What) (w : ℕ) → IsLegal (system_of S) R K → length K < 2 ^ 64 → Row (system_of S) R K a what → BaseOf S R K w (base K w) → BaseOf S R (ev a what ∷ K) w (base (ev a what ∷ K) w)
      based-more K a what w legal room r b = elim (cases_Bool (is_worker a w && moves what)) [
        | inl q ↦
            let p = and_parts (is_worker a w) (moves what) q in
            rw (worker-is a w p.0, (moved (ev (Worker w) what) K w (eq-eqb w w refl)).2) (moved-base K w what (worker-row (system_of S) R K a what w r p.0) p.1)
        | inr q ↦
            let e = ev a what in
            let f = files-same S e K w q in
            let z : base (e ∷ K) w ≡ base K w = unfold base in grind arith in
            rw z (elim (session-stays K a what w (hand (system_of S) R K legal room w) r q) [ inl n ↦ rw n (f ∙ (rw n at b)) | inr t ↦ based-later e K w (base K w) f t.0 t.1 b ])
      ]

  -- after a good check, the base is the one that the call names, where it was opened
  pub base-is : (K : List Event) (w c : ℕ) (n : Notif) → IsLegal (system_of S) R K → length K < 2 ^ 64 → session_call K w ≡ Some c → AtWork (session K w) n
      → (R.dirfd n ≡ None) ⊎ (any_of opens_base (session K w) ≡ true) → any_of checks (session K w) ≡ true → BaseIs S K w c n (R.dirfd n)
  unfolding files_base
  base-is K w c n legal room s work o k = go (base K w) refl (based K legal room w)
    where
      refused : (d : Option ℤ) → R.dirfd n ≡ d → base K w ≡ None → files_base S K w ≡ None → BaseIs S K w c n d
      refused None q none b = b
      refused (Some d) q none b =
          let was : any_of opens_base (session K w) ≡ true = elim o [ inl z ↦ absurd (cc (z, q)) | inr z ↦ z ] in
          let r = was-refused (system_of S) R K legal room w c s was work.no_end none in
          let f = r.named n work.notif_is in
          let same : r.dirfd ≡ d = cc (f.1, q) in
          inl (record { place = r.place; opening = rw (f.0, same) at r.opening; in_session = r.in_session; no_base = b })

      go : (o : Option ℕ) → base K w ≡ o → BaseOf S R K w o → BaseIs S K w c n (R.dirfd n)
      go None q b = refused (R.dirfd n) refl q b
      go (Some x) q b =
          let i = in-hand-of (system_of S) R K w c legal room s in
          let y = ((steady (system_of S) R K legal room w c s).handles i.t x i.task_is (inr (good-check (session K w) k work.no_end))).1 q in
          let f = b.named n work.notif_is in
          rw f.1 (inr (record {
            place = b.place;
            group = x;
            opening = rw f.0 at b.opening;
            in_session = b.in_session ∙ s;
            of_caller = ap (opened K) i.task_is ∙ ap Some (sym y);
            is_base = b.is_base;
          }))
