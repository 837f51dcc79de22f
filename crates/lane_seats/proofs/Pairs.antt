-- A legal history without a skip is laned turn by turn exactly where it is laned by pairs of sessions and by receives.
-- By induction on its events: who sits where before an event, and which steps stand before it, tell the same.
use Rattle.std.proofs.Common.{◌≡◌, ℕ, ◌<◌, ◌≤◌, ◌⊎◌, inl, inr, ◌↔◌, not, Bool, true, false, List, [], ◌∷◌, length, Some, Ok, Result, refl, sym, ap, ◌∙◌, subst, arith, eqb-true, eq-eqb}
use Rattle.std.proofs.lemmas.Bool.{both_ways, cases_Bool, cases_lt, cases_order}
use Rattle.hist_model.proofs.Look.{event_at-below, event_at-here, event_at-older}
use Rattle.hist_model.specs.Kinds.{is_letgo, receives}
use Rattle.hist_model.specs.Legal.{Legal, NoSkip, is_open_session, rules_of, system_of}
use Rattle.hist_model.specs.Look.{ev, event_at, is_worker}
use Rattle.hist_model.specs.Sessions.{notif_of, session}
use Rattle.hist_model.specs.declared.event.Actor.{Actor}
use Rattle.hist_model.specs.declared.event.Actor.TheVariants.{Worker}
use Rattle.hist_model.specs.declared.event.Event.{Event}
use Rattle.hist_model.specs.declared.event.What.{What}
use Rattle.hist_model.specs.declared.event.What.TheVariants.{LetGo, Recv}
use Rattle.hist_model.specs.declared.policy.Policy.{Policy}
use Rattle.hist_model.specs.declared.script.Script.{Script}
use Rattle.lane_seats.proofs.Sittings.{leaves, leaves_for, same_session, same_start, sits_still, stays, stays_for, stays_open, stays_since, takes, takes_for}
use Rattle.lane_seats.proofs.Turns.{AllFit, Fits, all_fit}
use Rattle.lane_seats.specs.Lanes.{IsLowestFree, IsNext, KeepsLanes, Laned, MayTurn, is_taken, lane, lane_of_call, lane_of_notif, taken_at}
use Rattle.lane_seats.specs.Pairs.{FollowEachOther, HasLetGo, LanedByPairs, LetsGoBetween, ReceiveLowest, Steps}
use Rattle.lane_seats.specs.Sittings.{Sits, change_of}
use Rattle.lane_seats.specs.declared.seats.Change.{Change}
use Rattle.lane_seats.specs.declared.seats.Change.TheVariants.{Leaves, Stays, Takes}
use Rattle.lane_seats.specs.declared.seats.Sitting.{Sitting}
use Rattle.sys_abi.specs.declared.wire.Notif.{Notif}

-- ---- One more event

worker_is : (a : Actor) (seat : ℕ) → is_worker a seat ≡ true → a ≡ Worker seat
worker_is (Worker v) seat h = ap Worker (eqb-true v seat h)
worker_is _ seat h = cc

is_mine : (a : Actor) (seat : ℕ) → a ≡ Worker seat → is_worker a seat ≡ true
is_mine a seat h = rw h (eq-eqb seat seat refl)

no_step : (place seat : ℕ) (what : What) → Steps [] place seat what → ⊥
unfolding event_at
no_step place seat what s = cc

module _ (e : Event) (K : List Event) where
  -- the steps before it stay
  older : (place seat : ℕ) (what : What) → Steps K place seat what → Steps (e ∷ K) place seat what
  older place seat what s = event_at-older e K place (event_at-below K place (ev (Worker seat) what) s) ∙ s

  younger : (place seat : ℕ) (what : What) → place < length K → Steps (e ∷ K) place seat what → Steps K place seat what
  younger place seat what lt s = sym (event_at-older e K place lt) ∙ s

  longer : (seat from until : ℕ) → LetsGoBetween K seat from until → LetsGoBetween (e ∷ K) seat from until
  longer seat from until b = (b.0, b.1, b.2, older b.0 seat LetGo b.3)

  shorter : (seat from until : ℕ) → until ≤ length K → LetsGoBetween (e ∷ K) seat from until → LetsGoBetween K seat from until
  shorter seat from until h b = let before : b.0 < length K = let lt = b.2 in omega arith in (b.0, b.1, b.2, younger b.0 seat LetGo before b.3)

  let_go_longer : (seat place : ℕ) → place ≤ length K → HasLetGo K seat place → HasLetGo (e ∷ K) seat place
  let_go_longer seat place h has began n s lt = longer seat began place (has began n (younger began seat (Recv (Ok n)) (omega arith) s) lt)

  let_go_shorter : (seat place : ℕ) → place ≤ length K → HasLetGo (e ∷ K) seat place → HasLetGo K seat place
  let_go_shorter seat place h has began n s lt = shorter seat began place h (has began n (older began seat (Recv (Ok n)) s) lt)

  -- a step in the longer history is an older one, or the newest
  newest_or_older : (place seat : ℕ) (what : What) → Steps (e ∷ K) place seat what → (Steps K place seat what × (place < length K)) ⊎ ((place ≡ length K) × (e ≡ ev (Worker seat) what))
  newest_or_older place seat what s = elim (cases_order place (length K)) [
    | inl at ↦ let here : Some e ≡ Some (ev (Worker seat) what) = sym (event_at-here e K) ∙ ap (event_at (e ∷ K)) (sym at) ∙ s in inr (at, cc)
    | inr apart ↦ elim apart [
      | inl lt ↦ inl (younger place seat what lt s, lt)
      | inr gt ↦ let below : place < length (e ∷ K) = event_at-below (e ∷ K) place (ev (Worker seat) what) s in absurd (omega arith)
    ]
  ]

  stands_here : (seat : ℕ) → e.who ≡ Worker seat → Steps (e ∷ K) (length K) seat e.what
  stands_here seat is = event_at-here e K ∙ ap (λ a. Some (ev a e.what)) is

-- a step that receives is a receive
receive_is : (what : What) → receives what ≡ true → (answer : Result Notif ℕ) × (what ≡ Recv answer)
receive_is (Recv answer) h = (answer, refl)
receive_is _ h = absurd cc

-- ---- Who sits where

abbrev sitting : ℕ → Notif → Sitting
sitting began n = record { lane = lane_of_call n.call.nr; since = began; id = n.id }

-- a session that was begun goes on, or was let go
module _ (e : Event) (K : List Event) (seat began : ℕ) (n : Notif) where
  module _ (before : began < length K) (goes_on : Sits K seat (Some (sitting began n))) where
    after_own : (what : What) (c : Change) → change_of what 0 ≡ c → receives what ≡ false → LetsGoBetween (ev (Worker seat) what ∷ K) seat began (length (e ∷ K)) ⊎ Sits (ev (Worker seat) what ∷ K) seat (Some (sitting began n))
    after_own what (Takes s) q r = let told = takes_for what 0 s q in absurd (both_ways (receives what) r (ap receives told.1))
    after_own what Leaves q r = inl (length K, before, omega arith, event_at-here (ev (Worker seat) what) K ∙ ap (λ w. Some (ev (Worker seat) w)) (leaves_for what 0 q))
    after_own what Stays q r = inr (stays what K seat (stays_for what 0 q) (Some (sitting began n)) goes_on)

  goes_or_let_go : ((v : ℕ) → e.who ≡ Worker v → Fits (is_taken K v) e.what) → began < length K → LetsGoBetween K seat began (length K) ⊎ Sits K seat (Some (sitting began n))
      → LetsGoBetween (e ∷ K) seat began (length (e ∷ K)) ⊎ Sits (e ∷ K) seat (Some (sitting began n))
  goes_or_let_go fits before (inl b) = let c = longer e K seat began (length K) b in let lt = c.2 in inl (c.0, c.1, omega arith, c.3)
  goes_or_let_go fits before (inr sits) = elim (cases_Bool (is_worker e.who seat)) [
    | inl mine ↦
        let is = worker_is e.who seat mine in
        let no_receive : receives e.what ≡ false = fits seat is ∙ ap not sits.0 in
        subst (λ (a : Actor). LetsGoBetween (ev a e.what ∷ K) seat began (length (e ∷ K)) ⊎ Sits (ev a e.what ∷ K) seat (Some (sitting began n))) (sym is) (after_own before sits e.what (change_of e.what 0) refl no_receive)
    | inr other ↦ inr (sits_still K (e ∷ K) seat (Some (sitting began n)) (same_session e K seat other) (same_start e K seat other) sits)
  ]

begun : (K : List Event) → AllFit K → (seat began : ℕ) (n : Notif) → Steps K began seat (Recv (Ok n)) → LetsGoBetween K seat began (length K) ⊎ Sits K seat (Some (sitting began n))
begun [] fits seat began n s = absurd (no_step began seat (Recv (Ok n)) s)
begun (e ∷ K) fits seat began n s = elim (newest_or_older e K began seat (Recv (Ok n)) s) [
  | inl old ↦ goes_or_let_go e K seat began n fits.0 old.1 (begun K fits.1 seat began n old.0)
  | inr new ↦ inr (subst (λ (x : Event × ℕ). Sits (x.0 ∷ K) seat (Some (sitting x.1 n))) (λ i. (sym new.1 i, sym new.0 i)) (takes n K seat))
]

-- the worker received a notification of this lane there, and hasn't let go since
record Goes (K : List Event) (seat began kind : ℕ) : Type 0 where
  n : Notif
  receive : Steps K began seat (Recv (Ok n))
  lane_is : lane_of_call n.call.nr ≡ kind
  no_letgo : LetsGoBetween K seat began (length K) → ⊥

module _ (e : Event) (K : List Event) (seat : ℕ) where
  -- it goes on after each event but its let-go
  goes_further : (began kind : ℕ) → Goes K seat began kind → (e ≡ ev (Worker seat) LetGo → ⊥) → Goes (e ∷ K) seat began kind
  goes_further began kind g none = record {
    n = g.n;
    receive = older e K began seat (Recv (Ok g.n)) g.receive;
    lane_is = g.lane_is;
    no_letgo = λ b. elim (newest_or_older e K b.0 seat LetGo b.3) [
      | inl old ↦ g.no_letgo (b.0, b.1, old.1, old.0)
      | inr new ↦ none new.1
    ];
  }

  begins : (n : Notif) → e ≡ ev (Worker seat) (Recv (Ok n)) → Goes (e ∷ K) seat (length K) (lane_of_call n.call.nr)
  begins n is = record {
    n = n;
    receive = event_at-here e K ∙ ap (λ f. Some f) is;
    lane_is = refl;
    no_letgo = λ b. let from = b.1 in let until = b.2 in omega arith;
  }

abbrev GoesOn : List Event → ℕ → Type 0
GoesOn K seat = Goes K seat (taken_at K seat) (lane K seat)

module _ (e : Event) (K : List Event) (seat : ℕ) (more : is_taken K seat ≡ true → GoesOn K seat) (taken : is_taken (e ∷ K) seat ≡ true) where
  goes_on_elsewhere : is_worker e.who seat ≡ false → GoesOn (e ∷ K) seat
  goes_on_elsewhere other =
      let same = same_session e K seat other in
      let goes = goes_further e K seat (taken_at K seat) (lane K seat) (more (ap is_open_session (sym same) ∙ taken)) (λ is. both_ways (is_worker e.who seat) other (is_mine e.who seat (ap (λ (f : Event). f.who) is))) in
      subst (λ (x : ℕ × ℕ). Goes (e ∷ K) seat x.0 x.1) (λ i. (sym (same_start e K seat other) i, lane_of_notif (notif_of (sym same i)))) goes

goes_on_own : (K : List Event) (seat : ℕ) (what : What) (c : Change) → change_of what 0 ≡ c → (is_taken K seat ≡ true → GoesOn K seat) → is_taken (ev (Worker seat) what ∷ K) seat ≡ true → GoesOn (ev (Worker seat) what ∷ K) seat
goes_on_own K seat what (Takes s) q more taken =
    let told = takes_for what 0 s q in
    let goes = begins (ev (Worker seat) what) K seat told.0 (ap (λ w. ev (Worker seat) w) told.1) in
    let sits = subst (λ w. Sits (ev (Worker seat) w ∷ K) seat (Some (sitting (length K) told.0))) (sym told.1) (takes told.0 K seat) in
    subst (λ (x : ℕ × ℕ). Goes (ev (Worker seat) what ∷ K) seat x.0 x.1) (λ i. (sym sits.2 i, sym sits.1 i)) goes
goes_on_own K seat what Leaves q more taken = absurd (both_ways _ (subst (λ w. is_taken (ev (Worker seat) w ∷ K) seat ≡ false) (sym (leaves_for what 0 q)) (leaves K seat)) taken)
goes_on_own K seat what Stays q more taken =
    let kind = stays_for what 0 q in
    let opened = stays_open what K seat kind in
    let goes = goes_further (ev (Worker seat) what) K seat (taken_at K seat) (lane K seat) (more (sym opened.0 ∙ taken)) (λ is. both_ways (is_letgo what) kind.1 (ap (λ (f : Event). is_letgo f.what) is)) in
    subst (λ (x : ℕ × ℕ). Goes (ev (Worker seat) what ∷ K) seat x.0 x.1) (λ i. (sym (stays_since what K seat kind) i, lane_of_notif (sym opened.1 i))) goes

-- so does the session of a seat that is taken
goes : (K : List Event) (seat : ℕ) → is_taken K seat ≡ true → GoesOn K seat
unfolding session
goes [] seat taken = cc
goes (e ∷ K) seat taken = elim (cases_Bool (is_worker e.who seat)) [
  | inl mine ↦
      let is = worker_is e.who seat mine in
      subst (λ (a : Actor). GoesOn (ev a e.what ∷ K) seat) (sym is)
      (goes_on_own K seat e.what (change_of e.what 0) refl (goes K seat) (subst (λ (a : Actor). is_taken (ev a e.what ∷ K) seat ≡ true) is taken))
  | inr other ↦ goes_on_elsewhere e K seat (goes K seat) taken other
]

-- a free seat has let go, and one that has is free
free_has : (K : List Event) → AllFit K → (seat : ℕ) → is_taken K seat ≡ false → HasLetGo K seat (length K)
free_has K fits seat free began n s lt = elim (begun K fits seat began n s) [ inl b ↦ b | inr sits ↦ absurd (both_ways (is_taken K seat) free sits.0) ]

taken_has_not : (K : List Event) (seat : ℕ) → is_taken K seat ≡ true → HasLetGo K seat (length K) → ⊥
taken_has_not K seat taken has = let g = goes K seat taken in g.no_letgo (has (taken_at K seat) g.n g.receive (event_at-below K (taken_at K seat) _ g.receive))

-- ---- From turns to pairs

module _ (e : Event) (K : List Event) (fits : AllFit K) (ih : LanedByPairs K) (keeps : KeepsLanes K e.who) where
  may : (seat : ℕ) → e.who ≡ Worker seat → MayTurn K seat (is_taken K seat)
  may seat is = subst (λ (a : Actor). KeepsLanes K a) is keeps

  -- where the later session's step is the newest, the earlier one has let go, since it isn't before its lane's next
  follow_here : (first second seat other : ℕ) (n m : Notif) → Steps K first seat (Recv (Ok n)) → Steps K second other (Recv (Ok m)) → lane_of_call n.call.nr ≡ lane_of_call m.call.nr → first < second
      → e.who ≡ Worker other → (LetsGoBetween K other second (length K) → ⊥) → LetsGoBetween K seat first (length K)
  follow_here first second seat other n m s1 s2 same lt is goes_on = elim (begun K fits seat first n s1) [
    | inl b ↦ b
    | inr mine ↦ elim (begun K fits other second m s2) [
      | inl b ↦ absurd (goes_on b)
      | inr theirs ↦
          let next : IsNext K other = subst (MayTurn K other) theirs.0 (may other is) in
          let late : taken_at K other ≤ taken_at K seat = next seat mine.0 (mine.1 ∙ same ∙ sym theirs.1) in
          let places : (taken_at K other ≡ second) × (taken_at K seat ≡ first) = (theirs.2, mine.2) in
          absurd (omega arith)
    ]
  ]

  follow_on : FollowEachOther (e ∷ K)
  follow_on first second place seat other n m what s1 s2 same lt s3 of =
      let bound : place < length (e ∷ K) = event_at-below (e ∷ K) place (ev (Worker other) what) s3 in
      let above : second < place = of.0 in
      let r1 = younger e K first seat (Recv (Ok n)) (omega arith) s1 in
      let r2 = younger e K second other (Recv (Ok m)) (omega arith) s2 in
      elim (newest_or_older e K place other what s3) [
        | inl old ↦ longer e K seat first place (ih.follow first second place seat other n m what r1 r2 same lt old.0 (of.0, λ b. of.1 (longer e K other second place b)))
        | inr new ↦
            let here = follow_here first second seat other n m r1 r2 same lt (ap (λ (f : Event). f.who) new.1) (λ b. of.1 (longer e K other second place (subst (LetsGoBetween K other second) (sym new.0) b))) in
            longer e K seat first place (subst (LetsGoBetween K seat first) (sym new.0) here)
      ]

  lowest_here : ((v : ℕ) → e.who ≡ Worker v → Fits (is_taken K v) e.what) → (seat : ℕ) (answer : Result Notif ℕ) → e ≡ ev (Worker seat) (Recv answer) → IsLowestFree K seat
  lowest_here fit seat answer is =
      let who : e.who ≡ Worker seat = ap (λ (f : Event). f.who) is in
      let receives_now : receives e.what ≡ true = ap (λ (f : Event). receives f.what) is in
      elim (cases_Bool (is_taken K seat)) [
        | inl taken ↦ absurd (both_ways (receives e.what) (fit seat who ∙ ap not taken) receives_now)
        | inr free ↦ subst (MayTurn K seat) free (may seat who)
      ]

  lowest_on : ((v : ℕ) → e.who ≡ Worker v → Fits (is_taken K v) e.what) → ReceiveLowest (e ∷ K)
  lowest_on fit place seat answer s = elim (newest_or_older e K place seat (Recv answer) s) [
    | inl old ↦
        let told = ih.lowest place seat answer old.0 in
        let within : place ≤ length K = let lt = old.1 in omega arith in
        (told.0, let_go_longer e K seat place within told.1, λ lower lt has. told.2 lower lt (let_go_shorter e K lower place within has))
    | inr new ↦
        let lowest = lowest_here fit seat answer new.1 in
        let within : place ≤ length K = let at = new.0 in omega arith in
        let at = sym new.0 in (
          lowest.0,
          let_go_longer e K seat place within (subst (HasLetGo K seat) at (free_has K fits seat lowest.1)),
          λ lower lt has. taken_has_not K lower (lowest.2 lower lt) (subst (HasLetGo K lower) new.0 (let_go_shorter e K lower place within has)),
        )
  ]

by_pairs : (K : List Event) → AllFit K → Laned K → LanedByPairs K
by_pairs [] fits laned = record {
  follow = λ first second place seat other n m what s1. absurd (no_step first seat (Recv (Ok n)) s1);
  lowest = λ place seat answer s. absurd (no_step place seat (Recv answer) s);
}
by_pairs (e ∷ K) fits laned =
    let ih = by_pairs K fits.1 laned.1 in
    record { follow = follow_on e K fits.1 ih laned.0; lowest = lowest_on e K fits.1 ih laned.0 fits.0 }

-- ---- From pairs to turns

module _ (e : Event) (K : List Event) (pairs : LanedByPairs (e ∷ K)) where
  fewer : LanedByPairs K
  fewer = record {
    follow = λ first second place seat other n m what s1 s2 same lt s3 of.
        let below : place < length K = event_at-below K place (ev (Worker other) what) s3 in
        let within : place ≤ length K = omega arith in
        shorter e K seat first place within
        (pairs.follow first second place seat other n m what (older e K first seat (Recv (Ok n)) s1) (older e K second other (Recv (Ok m)) s2) same lt (older e K place other what s3)
        (of.0, λ b. of.1 (shorter e K other second place within b)));
    lowest = λ place seat answer s.
        let below : place < length K = event_at-below K place (ev (Worker seat) (Recv answer)) s in
        let within : place ≤ length K = omega arith in
        let told = pairs.lowest place seat answer (older e K place seat (Recv answer) s) in
        (told.0, let_go_shorter e K seat place within told.1, λ lower lt has. told.2 lower lt (let_go_longer e K lower place within has));
  }

  module _ (fits : AllFit K) (fit : (v : ℕ) → e.who ≡ Worker v → Fits (is_taken K v) e.what) (seat : ℕ) (is : e.who ≡ Worker seat) where
    next_here : is_taken K seat ≡ true → IsNext K seat
    next_here taken other theirs same = elim (cases_lt (taken_at K other) (taken_at K seat)) [
      | inr late ↦ late
      | inl early ↦
          let mine = goes K seat taken in
          let before = goes K other theirs in
          let lanes : lane_of_call before.n.call.nr ≡ lane_of_call mine.n.call.nr = before.lane_is ∙ same ∙ sym mine.lane_is in
          let below = event_at-below K (taken_at K seat) _ mine.receive in
          let let_go = pairs.follow (taken_at K other) (taken_at K seat) (length K) other seat before.n mine.n e.what (older e K _ other _ before.receive) (older e K _ seat _ mine.receive) lanes early
          (stands_here e K seat is) (below, λ b. mine.no_letgo (shorter e K seat (taken_at K seat) (length K) (omega arith) b)) in
          absurd (before.no_letgo (shorter e K other (taken_at K other) (length K) (omega arith) let_go))
    ]

    lowest_free_here : is_taken K seat ≡ false → IsLowestFree K seat
    lowest_free_here free =
        let received = receive_is e.what (fit seat is ∙ ap not free) in
        let told = pairs.lowest (length K) seat received.0 (stands_here e K seat is ∙ ap (λ w. Some (ev (Worker seat) w)) received.1) in (
          told.0,
          free,
          λ lower lt. elim (cases_Bool (is_taken K lower)) [
            | inl taken ↦ taken
            | inr other ↦ absurd (told.2 lower lt (let_go_longer e K lower (length K) (omega arith) (free_has K fits lower other)))
          ],
        )

    turn : (taken : Bool) → is_taken K seat ≡ taken → MayTurn K seat taken
    turn true t = next_here t
    turn false t = lowest_free_here t

  keeps : AllFit K → ((v : ℕ) → e.who ≡ Worker v → Fits (is_taken K v) e.what) → (a : Actor) → e.who ≡ a → KeepsLanes K a
  keeps fits fit (Worker seat) is = turn fits fit seat is (is_taken K seat) refl
  keeps fits fit _ is = tt

by_turns : (K : List Event) → AllFit K → LanedByPairs K → Laned K
by_turns [] fits pairs = tt
by_turns (e ∷ K) fits pairs = (keeps e K pairs fits.1 fits.0 e.who refl, by_turns K fits.1 (fewer e K pairs))

pub laned_by_pairs : (P : Policy) (S : Script) (K : List Event) → Legal P S K → NoSkip K → Laned K ↔ LanedByPairs K
laned_by_pairs P S K legal none = let fits = all_fit (system_of S) (rules_of P S.figures) K legal.0 none in (by_pairs K fits, by_turns K fits)
