-- Each effect is what the policy grants on the one copy of its session, whose call waited up to the second good check.
-- By induction on the steps since the call was fetched, with the order of the session and the row of each step.
use Rattle.mediation.proofs.Common.{[], Act, ActIsGranted, Actor, Acts, AddfdPut, and_parts, any_of, ap, arith, before, below_or_last, both_ways}
use Rattle.mediation.proofs.Common.{cases_Bool, Check, checks, copied, Decision, Each, ends_with_check}
use Rattle.mediation.proofs.Common.{eqb-true, Err, ev, Event, false, fetched, Figures, first_some, gives_up, if◌then◌else◌}
use Rattle.mediation.proofs.Common.{inl, inr, is_good_check, is_spent, is_until_checked, is_worker, IsLegal, IsMediated, judged, leb-true, length, List}
use Rattle.mediation.proofs.Common.{listed, nat_le, None, Notif, number_of, Ok, oldest_unfetched, Option, or_parts}
use Rattle.mediation.proofs.Common.{Plant, PlantIsGranted, Plants, Policy, Progress, put_in, PutIsInjected, Read, reads_of, ReadsOwn, Recv, refl, Result, Rules, rules_of, Script}
use Rattle.mediation.proofs.Common.{session, session_call, Some, spends, suc, sym, System, system_of, times_spent, TimesKept, true, WaitedUntilChecked, waiting, What, Worker}
use Rattle.mediation.proofs.Common.{ℕ, ◌<◌, ◌==◌, ◌^◌, ◌∙◌, ◌∷◌, ◌≡◌, ◌≤◌, ◌⊎◌}
use Rattle.history_frames.proofs.Listed.{listed-older, is_call-below}
use Rattle.hist_model.specs.Decisions.{cap_of}
use Rattle.hist_model.specs.declared.policy.Cap.{Cap}
use Rattle.mediation.proofs.Rows.{AtWork, HasOpened, HasCopied, WorkerRow, Row, row-of, by-steps, each}
use Rattle.mediation.proofs.Tasks.{listed-was}
use Rattle.mediation.proofs.Calls.{fetching, before-all, before-older, length-before, legal_before, fetched-before}
use Rattle.mediation.proofs.Hands.{worker-row, moved, session-grows, InSession, works, at-work, works-keep, in-hand, hand, in-hand-of, FetchKept, WorkKept, StillKept, by-session}
use Rattle.mediation.proofs.Order.{is-own, put-fixed, goods, used-two, ordered}
use Rattle.mediation.proofs.Handles.{check-listed, own-memory, base-is}
use Rattle.mediation.proofs.Phases.{fetcher-fetched, hand-fetcher, waits-now}
use Rattle.sys_abi.specs.Errnos.{edquot}

-- ---- a session's call waits up to the second good check

module _ (S : System) (R : Rules) where
  -- before the second good check nothing is asked for
  put-late : (K : List Event) (w : ℕ) (n : Notif) → IsLegal S R K → AtWork (session K w) n → number_of is_good_check (session K w) ≤ 1 → first_some put_in (session K w) ≡ None
  put-late K w n legal work few =
      let u = put-fixed R (session K w) (is-own S R K legal w) n in
      let two = used-two R (session K w) n work in
      let o = ordered R (session K w) (is-own S R K legal w) in
      grind arith

  -- at a good check the call was listed, and waits
  check-waits : (K : List Event) (a : Actor) (w c : ℕ) (what : What) → IsLegal S R (ev a what ∷ K) → length (ev a what ∷ K) < 2 ^ 64 → WorkerRow S R K w what
      → InSession K w c → session_call (ev a what ∷ K) w ≡ Some c
      → session (ev a what ∷ K) w ≡ what ∷ session K w → any_of gives_up (session (ev a what ∷ K) w) ≡ false → checks what ≡ true → waiting (ev a what ∷ K) c ≡ true
  check-waits K a w c (Check x (Err e)) legal room row i s own g z = absurd (cc (own, g))
  check-waits K a w c (Check x (Ok u)) legal room row i s own g z =
      let e = ev a (Check x (Ok u)) in
      let v = (and_parts (listed K c) _ (check-listed S R K w c x u legal.1 (omega arith) i row)).0 in
      let l : listed (e ∷ K) c ≡ true = listed-older e K c (is_call-below K c i.call) ∙ rw v in
      let m = (ordered R (session (e ∷ K) w) (is-own S R (e ∷ K) legal w)).most in
      let d = goods (session (e ∷ K) w) g in
      let two : number_of is_good_check (session (e ∷ K) w) ≤ 2 = omega arith in
      let few : suc (number_of is_good_check (session K w)) ≤ 2 = rw own at two in
      waits-now S R (e ∷ K) w c legal room s l g (rw own (put-late K w row.0.0 legal.1 row.0.1 (omega arith)))
  check-waits K a w c what legal room row i s own g z = cc

  -- a prefix that ends no later than with that check
  until-waits : (K : List Event) (w c : ℕ) → IsLegal S R K → length K < 2 ^ 64 → session_call K w ≡ Some c → any_of gives_up (session K w) ≡ false
      → (listed K c ≡ true) ⊎ (number_of is_good_check (session K w) ≡ 2) → is_until_checked K w ≡ true → waiting K c ≡ true
  until-waits K w c legal room s g either u = elim (cases_Bool (nat_le (number_of is_good_check (session K w)) 1)) [
    | inl n ↦
        let few = leb-true (number_of is_good_check (session K w)) 1 n in
        let i = in-hand-of S R K w c legal room s in
        elim either [ inl l ↦ waits-now S R K w c legal room s l g (put-late K w i.n legal (record { notif_is = i.notif_is; no_letgo = i.no_letgo; no_end = g }) few) | inr t ↦ absurd (omega arith) ]
    | inr n ↦ at-check K legal room s g (rw n at u)
  ]
    where
      at-check : (K : List Event) → IsLegal S R K → length K < 2 ^ 64 → session_call K w ≡ Some c → any_of gives_up (session K w) ≡ false → ends_with_check K w ≡ true → waiting K c ≡ true
      at-check [] legal room s g u = cc
      at-check (e ∷ K) legal room s g u =
          let p = and_parts (checks e.what) (is_worker e.who w) u in
          let r = worker-row S R K e.who e.what w (row-of S R K e legal.0) p.1 in
          let v : works e.what ≡ true = grind arith in
          let k = works-keep K e.what v in
          let t = at-work S R K w e.what r v in
          let own = session-grows e K w t.0 p.1 k.no_skip k.no_start t.1.notif_is in
          let h : session_call K w ≡ Some c = sym (k.call (session_call K w)) ∙ (sym (moved e K w p.1).0 ∙ s) in
          check-waits K e.who w c e.what legal room r (in-hand-of S R K w c legal.1 (omega arith) h) s own g p.0

  -- what is asked of a session
  abbrev Held : List Event → ℕ → ℕ → Type 0
  Held K w c = any_of gives_up (session K w) ≡ false → (listed K c ≡ true) ⊎ (number_of is_good_check (session K w) ≡ 2) → WaitedUntilChecked K w c

  -- an earlier prefix, or the whole
  prefixes : (e : Event) (K : List Event) (w c : ℕ) → WaitedUntilChecked K w c
      → (session_call (e ∷ K) w ≡ Some c → is_until_checked (e ∷ K) w ≡ true → waiting (e ∷ K) c ≡ true) → WaitedUntilChecked (e ∷ K) w c
  prefixes e K w c old new p l s u =
      elim (below_or_last p (length (e ∷ K)) (omega arith)) [
        | inl q ↦ grind (arith, before-older)
        | inr q ↦ let all : before (e ∷ K) p ≡ e ∷ K = before-all (e ∷ K) p (omega arith) in rw all (new (rw all at s) (rw all at u))
      ]

  held-fetch : FetchKept S R Held
  held-fetch K a w c n legal room q row o idle own g either =
      let f = fetching K n (oldest_unfetched K) refl row.1.1 in
      let m : f.0 ≡ c = cc (f.4, o) in
      prefixes (ev a (Recv (Ok n))) K w c (λ p l s u. absurd (unfetched (rw m at f.3) p s)) (λ s. until-waits (ev a (Recv (Ok n)) ∷ K) w c legal room s g either)
    where
      unfetched : fetched K c ≡ false → (p : ℕ) → session_call (before K p) w ≡ Some c → ⊥
      unfetched f p s =
          let m = (length-before K p).0 in
          let h = hand-fetcher S R (before K p) (legal_before S R K p legal.1) (omega arith) w c s in
          both_ways (fetched K c) f (fetched-before K p c (fetcher-fetched (before K p) c w h))

  held-work : WorkKept S R Held
  held-work K a w c what legal room q row v i s own ih g either =
      let e = ev a what in
      let p = or_parts (gives_up what) (any_of gives_up (session K w)) (rw own at g) in
      prefixes e K w c (ih p.1 (was what row (elim either [ inl l ↦ inl (listed-was e K c (is_call-below K c i.call) l) | inr t ↦ inr (rw own at t) ]))) (λ s'. until-waits (e ∷ K) w c legal room s' g either)
    where
      -- its call was listed before, or has had both checks
      was : (what : What) → WorkerRow S R K w what → (listed K c ≡ true) ⊎ (number_of is_good_check (what ∷ session K w) ≡ 2) → (listed K c ≡ true) ⊎ (number_of is_good_check (session K w) ≡ 2)
      was (Check x (Ok u)) row t = inl (and_parts (listed K c) _ (check-listed S R K w c x u legal.1 (omega arith) i row)).0
      was what row t = t

  held-still : StillKept S R Held
  held-still K e w c legal room q i s own ih g either =
      prefixes e K w c (ih (rw own at g) (elim either [ inl l ↦ inl (listed-was e K c (is_call-below K c i.call) l) | inr t ↦ inr (rw own at t) ])) (λ s'. until-waits (e ∷ K) w c legal room s' g either)

  waited : (K : List Event) → IsLegal S R K → length K < 2 ^ 64 → (w c : ℕ) → session_call K w ≡ Some c → Held K w c
  waited = by-session S R Held held-fetch held-work held-still

-- ---- a rule's effects are done no more often than its times allow

abbrev decided-cap : Decision → Option Cap
decided-cap (Acts q cap) = cap
decided-cap (Plants a b cap) = cap
decided-cap _ = None

-- the cap of a decision is its rule's
judged-cap : (P : Policy) (F : Figures) (n : Notif) (p : Progress) (k : Cap) → decided-cap (judged P F n p) ≡ Some k → cap_of P.rules k.rule ≡ Some k
judged-cap P F n p k h = grind arith

-- an effect that was done had times left
cap-left : (P : Policy) (K : List Event) (k cap : Cap) (i : ℕ) (u : Unit {0}) (other : Result (Unit {0}) ℕ) → (k.rule == i) ≡ true → cap_of P.rules k.rule ≡ Some k → cap_of P.rules i ≡ Some cap
    → ◌≡◌ {A = Result (Unit {0}) ℕ} (Ok u) (if is_spent K (Some k) then Err edquot else other) → times_spent K i < cap.times
cap-left P K k cap i u other h z c r = let m = eqb-true k.rule i h in let q : k ≡ cap = cc (rw m at z, c) in let y : times_spent K k.rule < k.times = grind arith in rw (← m, ← q) y

spends-left : (P : Policy) (S : Script) (K : List Event) (a : Actor) (what : What) (i : ℕ) (cap : Cap) → Row (system_of S) (rules_of P S.figures) K a what → spends what i ≡ true
    → cap_of P.rules i ≡ Some cap → times_spent K i < cap.times
spends-left P S K (Worker w) (Act q (Some k) (Ok u)) i cap r h c = cap-left P K k cap i u _ h (judged-cap P S.figures r.0.0 (copied r.0.0 (reads_of (session K w))) k (ap decided-cap r.0.4)) c r.1
spends-left P S K (Worker w) (Plant x b (Some k) (Ok u)) i cap r h c = cap-left P K k cap i u _ h (judged-cap P S.figures r.0.0 (copied r.0.0 (reads_of (session K w))) k (ap decided-cap r.0.4)) c r.1
spends-left P S K a what i cap r h c = grind arith

pub times-kept : (P : Policy) (S : Script) (K : List Event) → IsLegal (system_of S) (rules_of P S.figures) K → TimesKept P K
unfolding times_spent
times-kept P S = by-steps (system_of S) (rules_of P S.figures) (TimesKept P) (λ i cap h. omega arith) (λ K e legal row ih i cap h.
    let y = ih i cap h in elim (cases_Bool (spends e.what i)) [ inl q ↦ rw q (omega (arith, spends-left P S K e.who e.what i cap row q h)) | inr q ↦ rw q (omega arith) ])

-- ---- each effect is what the policy grants on the one copy of its session, and each request for a descriptor what it injects

-- at a use of a copy
uses-copy : (S : System) (R : Rules) (K : List Event) (w : ℕ) (n : Notif) → IsLegal S R K → length K < 2 ^ 64 → AtWork (session K w) n → HasOpened R (session K w) n
    → HasCopied R (session K w) n → R.fault n (reads_of (session K w)) ≡ None
    → (c : ℕ) × IsMediated R K w c n
uses-copy S R K w n legal room work ready copy sound =
    let j = in-hand K w (session_call K w) n work (hand S R K legal room w) in
    let two = used-two R (session K w) n work copy (ordered R (session K w) (is-own S R K legal w)) in (
      j.0,
      record {
        of_call = j.1;
        fetched_by = hand-fetcher S R K legal room w j.0 j.1;
        notif_is = work.notif_is;
        of_notif = sym j.3 ∙ j.2.whole_is;
        whole = copy.copied;
        no_fault = sound;
        checked = two;
        waited = waited S R K legal room w j.0 j.1 work.no_end (inr two);
        memory = own-memory S R K w j.0 legal room j.1 ready.mem copy.checked work.no_end;
      },
    )

pub acts-are-granted : (P : Policy) (S : Script) (K : List Event) → IsLegal (system_of S) (rules_of P S.figures) K → length K < 2 ^ 64 → Each (ActIsGranted P S) K
acts-are-granted P S = each (system_of S) (rules_of P S.figures) (ActIsGranted P S) (λ K e legal room row w q cap a who what.
    let R = rules_of P S.figures in
    let r : WorkerRow (system_of S) R K w (Act q cap a) = rw (who, what) at row in
    let t = r.0 in
    let m = uses-copy (system_of S) R K w t.0 legal room t.1 t.2 t.3 t.6 in
    record {
      call = m.0;
      received = t.0;
      mediated = m.1;
      granted = t.4;
      is_first = t.5;
      from_base = base-is S R K w m.0 t.0 legal room m.1.of_call t.1 t.2.base t.3.checked;
    })

pub plants-are-granted : (P : Policy) (S : Script) (K : List Event) → IsLegal (system_of S) (rules_of P S.figures) K → length K < 2 ^ 64 → Each (PlantIsGranted P S) K
plants-are-granted P S = each (system_of S) (rules_of P S.figures) (PlantIsGranted P S) (λ K e legal room row w x b cap a who what.
    let R = rules_of P S.figures in
    let r : WorkerRow (system_of S) R K w (Plant x b cap a) = rw (who, what) at row in
    let t = r.0 in
    let m = uses-copy (system_of S) R K w t.0 legal room t.1 t.2 t.3 t.6 in
    record { call = m.0; received = t.0; mediated = m.1; granted = t.4; is_first = t.5 })

pub puts-are-injected : (P : Policy) (S : Script) (K : List Event) → IsLegal (system_of S) (rules_of P S.figures) K → length K < 2 ^ 64 → Each (PutIsInjected P S) K
puts-are-injected P S = each (system_of S) (rules_of P S.figures) (PutIsInjected P S) (λ K e legal room row w q a who what.
    let R = rules_of P S.figures in
    let r : WorkerRow (system_of S) R K w (AddfdPut q a) = rw (who, what) at row in
    let t = r.0 in
    let m = uses-copy (system_of S) R K w t.0 legal room t.1 t.2 t.3 t.4.sound in
    record { call = m.0; received = t.0; src = t.4.src; number = t.4.place; flags = t.4.flags; mediated = m.1; injected = t.4.decided; asked = t.4.is; is_first = t.5 })

pub reads-are-own : (S : System) (R : Rules) (K : List Event) → IsLegal S R K → length K < 2 ^ 64 → Each (ReadsOwn R) K
reads-are-own S R = each S R (ReadsOwn R) (λ K e legal room row w x l a who what.
    let r : WorkerRow S R K w (Read x l a) = rw (who, what) at row in
    let t = r.0 in
    let j = in-hand K w (session_call K w) t.0 t.1 (hand S R K legal room w) in
    record {
      call = j.0;
      received = t.0;
      of_call = j.1;
      notif_is = t.1.notif_is;
      of_notif = sym j.3 ∙ j.2.whole_is;
      memory = own-memory S R K w j.0 legal room j.1 t.2.mem t.3 t.1.no_end;
      piece = t.4;
    })
