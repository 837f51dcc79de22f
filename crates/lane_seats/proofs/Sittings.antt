-- What a table of seats finds in each history that it stands for, and what one more event changes of it.
-- By cases on a seat's entry, and on what the event makes of its worker's seat: no other seat changes.
use Rattle.std.proofs.Common.{◌≡◌, ◌≢◌, ℕ, ◌<◌, ◌≤◌, ◌==◌, ◌⊎◌, inl, inr, nat_lt, Bool, true, false, List, [], ◌∷◌, length, set, get_or, get_or-set_other, get_or-set_same, Option, Some, None, Ok, refl, sym, ap, ◌∙◌, subst, arith, eq-eqb, eqb}
use Rattle.std.proofs.lemmas.Bool.{and_parts, cases_lt, eqb-true, ltb-false, ltb-true, ne_eqb}
use Rattle.std.proofs.lemmas.Bool.Decides.{eqb_tells}
use Rattle.std.proofs.lemmas.List.{get_or_past, length-set}
use Rattle.std.specs.Option.{option_map}
use Rattle.hist_model.specs.Kinds.{is_letgo, starts}
use Rattle.hist_model.specs.Legal.{is_open_session}
use Rattle.hist_model.specs.Look.{ev, is_worker}
use Rattle.hist_model.specs.Sessions.{fetched_by, joined, notif_of, session}
use Rattle.hist_model.specs.declared.event.Actor.TheVariants.{Worker}
use Rattle.hist_model.specs.declared.event.Event.{Event}
use Rattle.hist_model.specs.declared.event.What.{What}
use Rattle.hist_model.specs.declared.event.What.TheVariants.{LetGo, Recv}
use Rattle.lane_seats.specs.Lanes.{IsNext, is_taken, lane, lane_of_call, lane_of_notif, taken_at}
use Rattle.lane_seats.specs.Sittings.{FindsFree, FindsHeld, FindsNext, Sits, StandsFor, change_of, comes_before}
use Rattle.lane_seats.specs.declared.seats.Change.TheVariants.{Leaves, Stays, Takes}
use Rattle.lane_seats.specs.declared.seats.Sitting.{Sitting}
use Rattle.sys_abi.specs.declared.wire.Notif.{Notif}

-- ---- What a table finds

module _ (K : List Event) (seat : ℕ) where
  -- a seat with no entry is free, and one with an entry is taken
  free_seat : (o : Option Sitting) → o ≡ None → Sits K seat o → is_taken K seat ≡ false
  free_seat None e s = s
  free_seat (Some x) e s = absurd cc

  taken_seat : (o : Option Sitting) → (o ≡ None → ⊥) → Sits K seat o → is_taken K seat ≡ true
  taken_seat None n s = absurd (n refl)
  taken_seat (Some x) n s = s.0

pub finds_free : (seats : List (Option Sitting)) (seat : ℕ) → seat ≤ 15 → get_or seats seat None ≡ None → ((k : ℕ) → k < seat → get_or seats k None ≡ None → ⊥) → FindsFree seats (Some seat)
finds_free seats seat few none others K st = (few, free_seat K seat (get_or seats seat None) none (st.each seat), λ k h. taken_seat K k (get_or seats k None) (others k h) (st.each k))

pub finds_none : (seats : List (Option Sitting)) → ((k : ℕ) → k < 16 → get_or seats k None ≡ None → ⊥) → FindsFree seats None
finds_none seats others K st k h = taken_seat K k (get_or seats k None) (others k (omega arith)) (st.each k)

module _ (K : List Event) (seat other : ℕ) (own : Sitting) (mine : Sits K seat (Some own)) where
  -- an entry that doesn't come before the own session is of another lane, or began no earlier
  not_before : (o : Option Sitting) → Sits K other o → comes_before o own ≡ false → is_taken K other ≡ true → lane K other ≡ lane K seat → taken_at K seat ≤ taken_at K other
  not_before None s b taken same = absurd cc
  not_before (Some x) s b taken same =
      let lanes : x.lane ≡ own.lane = cc (s.1, same, mine.1) in
      let places : (taken_at K other ≡ x.since) × (taken_at K seat ≡ own.since) = (s.2, mine.2) in
      let later : nat_lt x.since own.since ≡ false = rw (eq-eqb x.lane own.lane lanes) at b in
      let late : own.since ≤ x.since = ltb-false x.since own.since later in
      omega arith

  -- and one that does is of the same lane, and began earlier
  is_before : (o : Option Sitting) → Sits K other o → comes_before o own ≡ true → IsNext K seat → ⊥
  is_before None s b next = absurd cc
  is_before (Some x) s b next =
      let parts = and_parts (x.lane == own.lane) (nat_lt x.since own.since) b in
      let lanes : lane K other ≡ lane K seat = let same = eqb-true x.lane own.lane parts.0 in cc (s.1, mine.1) in
      let earlier : x.since < own.since = ltb-true x.since own.since parts.1 in
      let later = next other s.0 lanes in
      let places : (taken_at K other ≡ x.since) × (taken_at K seat ≡ own.since) = (s.2, mine.2) in
      omega arith

pub finds_next : (seats : List (Option Sitting)) (seat : ℕ) (own : Sitting) → get_or seats seat None ≡ Some own → ((k : ℕ) → k < 16 → comes_before (get_or seats k None) own ≡ false) → FindsNext seats seat true
finds_next seats seat own is others K st =
    let mine : Sits K seat (Some own) = subst (Sits K seat) is (st.each seat) in
    (mine.0, λ other taken same. not_before K seat other own mine (get_or seats other None) (st.each other) (everywhere other (cases_lt other 16)) taken same)
  where
    everywhere : (k : ℕ) → (k < 16) ⊎ (16 ≤ k) → comes_before (get_or seats k None) own ≡ false
    everywhere k (inl h) = others k h
    everywhere k (inr h) = let number = st.number in let past : get_or seats k None ≡ None = get_or_past seats k None (omega arith) in ap (λ o. comes_before o own) past

pub finds_earlier : (seats : List (Option Sitting)) (seat k : ℕ) (own : Sitting) → get_or seats seat None ≡ Some own → comes_before (get_or seats k None) own ≡ true → FindsNext seats seat false
finds_earlier seats seat k own is before K st taken next = is_before K seat k own (subst (Sits K seat) is (st.each seat)) (get_or seats k None) (st.each k) before next

pub finds_held : (seats : List (Option Sitting)) (seat : ℕ) (own : Sitting) (id : ℕ) (same : Bool) → get_or seats seat None ≡ Some own → same ≡ (own.id == id) → FindsHeld seats seat id same
finds_held seats seat own id true is e = λ K st.
    let mine : Sits K seat (Some own) = subst (Sits K seat) is (st.each seat) in
    (mine.0, mine.3 ∙ ap Some (eqb-true own.id id (sym e)))
finds_held seats seat own id false is e = λ K st taken held.
    let mine : Sits K seat (Some own) = subst (Sits K seat) is (st.each seat) in
    let ids : own.id ≡ id = cc (mine.3, held) in
    absurd (cc (e, eq-eqb own.id id ids))

pub finds_nobody : (seats : List (Option Sitting)) (seat id : ℕ) → get_or seats seat None ≡ None → FindsHeld seats seat id false
finds_nobody seats seat id none K st taken held = absurd (cc (free_seat K seat (get_or seats seat None) none (st.each seat), taken))

-- ---- What one more event changes

-- seats are as they were where no worker there took a step
module _ (e : Event) (K : List Event) (seat : ℕ) (other : is_worker e.who seat ≡ false) where
  pub same_session : session (e ∷ K) seat ≡ session K seat
  unfolding session
  same_session = grind arith

  pub same_start : taken_at (e ∷ K) seat ≡ taken_at K seat
  unfolding taken_at
  same_start = grind arith

-- an entry says as much of two histories in which the seat's session is the same
pub sits_still : (K H : List Event) (seat : ℕ) (o : Option Sitting) → session H seat ≡ session K seat → taken_at H seat ≡ taken_at K seat → Sits K seat o → Sits H seat o
sits_still K H seat None s t sits = ap is_open_session s ∙ sits
sits_still K H seat (Some x) s t sits = (ap is_open_session s ∙ sits.0, ap (λ own. lane_of_notif (notif_of own)) s ∙ sits.1, t ∙ sits.2, ap (λ own. option_map (λ (n : Notif). n.id) (notif_of own)) s ∙ sits.3)

-- a step of a task, or of the listener, changes no seat
pub stands_still : (e : Event) (K : List Event) (seats : List (Option Sitting)) → ((seat : ℕ) → is_worker e.who seat ≡ false) → StandsFor K seats → StandsFor (e ∷ K) seats
stands_still e K seats none st = record {
  number = st.number;
  each = λ seat. sits_still K (e ∷ K) seat (get_or seats seat None) (same_session e K seat (none seat)) (same_start e K seat (none seat)) (st.each seat);
}

module _ (what : What) (K : List Event) (seat : ℕ) where
  mine : is_worker (Worker seat) seat ≡ true
  mine = eq-eqb seat seat refl

began : (n : Notif) (K : List Event) (seat : ℕ) → session (ev (Worker seat) (Recv (Ok n)) ∷ K) seat ≡ Recv (Ok n) ∷ []
unfolding session
began n K seat = let own = mine (Recv (Ok n)) K seat in grind arith

pub begun_at : (n : Notif) (K : List Event) (seat : ℕ) → taken_at (ev (Worker seat) (Recv (Ok n)) ∷ K) seat ≡ length K
unfolding taken_at
begun_at n K seat = let own = mine (Recv (Ok n)) K seat in rw own refl

-- a receive of a notification takes the seat
pub takes : (n : Notif) (K : List Event) (seat : ℕ) → Sits (ev (Worker seat) (Recv (Ok n)) ∷ K) seat (Some (record { lane = lane_of_call n.call.nr; since = length K; id = n.id }))
takes n K seat = let own = began n K seat in (ap is_open_session own, ap (λ s. lane_of_notif (notif_of s)) own, begun_at n K seat, ap (λ s. option_map (λ (m : Notif). m.id) (notif_of s)) own)

joined_to : (K : List Event) (seat : ℕ) → session (ev (Worker seat) LetGo ∷ K) seat ≡ joined LetGo (session K seat)
unfolding session
joined_to K seat = let own = mine LetGo K seat in rw own refl

left : (own : List What) → is_open_session (joined LetGo own) ≡ false
left [] = refl
left (a ∷ own) = refl

-- a let-go frees it
pub leaves : (K : List Event) (seat : ℕ) → is_taken (ev (Worker seat) LetGo ∷ K) seat ≡ false
leaves K seat = ap is_open_session (joined_to K seat) ∙ left (session K seat)

-- any other step leaves it as it is
module _ (what : What) (K : List Event) (seat : ℕ) (kind : (starts what ≡ false) × (is_letgo what ≡ false) × (fetched_by what ≡ None)) where
  stayed : (own : List What) → (is_open_session (joined what own) ≡ is_open_session own) × (notif_of (joined what own) ≡ notif_of own)
  stayed [] = (rw kind.0 refl, rw kind.0 refl)
  stayed (a ∷ own) = (rw (kind.0, kind.1) refl, rw (kind.0, kind.2) refl)

  pub stays_open : (is_taken (ev (Worker seat) what ∷ K) seat ≡ is_taken K seat) × (notif_of (session (ev (Worker seat) what ∷ K) seat) ≡ notif_of (session K seat))
  unfolding session
  stays_open = let s = stayed (session K seat) in let own = mine what K seat in grind arith

  pub stays_since : taken_at (ev (Worker seat) what ∷ K) seat ≡ taken_at K seat
  unfolding taken_at
  stays_since = let k = kind.0 in grind arith

  pub stays : (o : Option Sitting) → Sits K seat o → Sits (ev (Worker seat) what ∷ K) seat o
  stays None s = stays_open.0 ∙ s
  stays (Some x) s = (stays_open.0 ∙ s.0, ap lane_of_notif stays_open.1 ∙ s.1, stays_since ∙ s.2, ap (option_map (λ (n : Notif). n.id)) stays_open.1 ∙ s.3)

-- what each change tells of its step
pub stays_for : (what : What) (place : ℕ) → change_of what place ≡ Stays → (starts what ≡ false) × (is_letgo what ≡ false) × (fetched_by what ≡ None)
stays_for (Recv (Ok n)) place e = absurd cc
stays_for LetGo place e = absurd cc
stays_for _ place e = (refl, refl, refl)

pub leaves_for : (what : What) (place : ℕ) → change_of what place ≡ Leaves → what ≡ LetGo
leaves_for (Recv (Ok n)) place e = absurd cc
leaves_for LetGo place e = refl
leaves_for _ place e = absurd cc

pub takes_for : (what : What) (place : ℕ) (s : Sitting) → change_of what place ≡ Takes s → (n : Notif) × (what ≡ Recv (Ok n)) × (s ≡ record { lane = lane_of_call n.call.nr; since = place; id = n.id })
takes_for (Recv (Ok n)) place s e = (n, refl, cc)
takes_for LetGo place s e = absurd cc
takes_for _ place s e = absurd cc

-- with another entry for the one seat that changed
module _ (what : What) (K : List Event) (seats : List (Option Sitting)) (seat : ℕ) (few : seat ≤ 15) (st : StandsFor K seats) where
  elsewhere : (other : ℕ) → other ≢ seat → (o : Option Sitting) → Sits K other o → Sits (ev (Worker seat) what ∷ K) other o
  elsewhere other apart o s =
      let theirs : is_worker (Worker seat) other ≡ false = ne_eqb seat other (λ e. apart (sym e)) in
      sits_still K (ev (Worker seat) what ∷ K) other o (same_session (ev (Worker seat) what) K other theirs) (same_start (ev (Worker seat) what) K other theirs) s

  stands_with : (o : Option Sitting) → Sits (ev (Worker seat) what ∷ K) seat o → StandsFor (ev (Worker seat) what ∷ K) (set seats seat o)
  stands_with o here = record { number = length-set seats seat o ∙ st.number; each = λ other. at other (eqb_tells other seat) }
    where
      at : (other : ℕ) → ((eqb other seat ≡ true) × (other ≡ seat)) ⊎ ((eqb other seat ≡ false) × (other ≢ seat)) → Sits (ev (Worker seat) what ∷ K) other (get_or (set seats seat o) other None)
      at other (inl same) =
          let number = st.number in
          let is : get_or (set seats seat o) seat None ≡ o = get_or-set_same seats seat o None (omega arith) in
          rw same.1 (rw is here)
      at other (inr apart) = rw (get_or-set_other seats seat other o None apart.1) (elsewhere other apart.1 (get_or seats other None) (st.each other))

  pub noted_takes : (place : ℕ) (s : Sitting) → length K ≡ place → change_of what place ≡ Takes s → StandsFor (ev (Worker seat) what ∷ K) (set seats seat (Some s))
  noted_takes place s at e =
      let told = takes_for what place s e in
      let is : s ≡ record { lane = lane_of_call told.0.call.nr; since = length K; id = told.0.id } = told.2 ∙ ap (λ p. record { lane = lane_of_call told.0.call.nr; since = p; id = told.0.id }) (sym at) in
      stands_with (Some s) (subst (λ (y : What × Sitting). Sits (ev (Worker seat) y.0 ∷ K) seat (Some y.1)) (λ i. (sym told.1 i, sym is i)) (takes told.0 K seat))

  pub noted_leaves : (place : ℕ) → change_of what place ≡ Leaves → StandsFor (ev (Worker seat) what ∷ K) (set seats seat None)
  noted_leaves place e = stands_with None (subst (λ w. is_taken (ev (Worker seat) w ∷ K) seat ≡ false) (sym (leaves_for what place e)) (leaves K seat))

  pub noted_stays : (place : ℕ) → change_of what place ≡ Stays → StandsFor (ev (Worker seat) what ∷ K) seats
  noted_stays place e = record { number = st.number; each = λ other. at other (eqb_tells other seat) }
    where
      at : (other : ℕ) → ((eqb other seat ≡ true) × (other ≡ seat)) ⊎ ((eqb other seat ≡ false) × (other ≢ seat)) → Sits (ev (Worker seat) what ∷ K) other (get_or seats other None)
      at other (inl same) = rw same.1 (stays what K seat (stays_for what place e) (get_or seats seat None) (st.each seat))
      at other (inr apart) = elsewhere other apart.1 (get_or seats other None) (st.each other)

-- an entry that is none of a session is none
pub no_entry : (o : Option Sitting) → ((s : Sitting) → o ≡ Some s → ⊥) → o ≡ None
no_entry None n = refl
no_entry (Some s) n = absurd (n s refl)
