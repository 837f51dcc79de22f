-- Where nobody is able to step, the history is finished.
-- By who would be able otherwise: a worker that has a notification in hand, the first worker, the task of a listed call, and a task outside of calls; of these one that waits for a child has one that hasn't ended.
use Rattle.std.proofs.Common.{◌≡◌, ◌⊎◌, inl, inr, ℕ, zero, suc, ◌+◌, ◌-◌, ◌<◌, ◌≤◌, ◌^◌, ◌==◌, Bool, true, false, ◌&&◌, ◌||◌, not, if◌then◌else◌, nat_le, nat_lt, List, [], ◌∷◌, length, Option, Some, None, Result, Ok, refl, ap, subst, arith, lt-ltb}
use Rattle.std.proofs.lemmas.Bool.{and_parts, eqb-false, eqb-true, leb-false, leb-true, ne_eqb, or_left, or_right}
use Rattle.std.proofs.lemmas.List.{length-take}
use Rattle.hist_model.proofs.Look.{name_eq-true, oldest-none, oldest-some}
use Rattle.hist_model.specs.Calls.{caller, count, fetched, fetches, id, listed, queue, settled}
use Rattle.hist_model.specs.Deeds.{Deed}
use Rattle.hist_model.specs.Kinds.{gives_up, is_letgo, makes, skips}
use Rattle.hist_model.specs.Laws.{count_below, empty_recvs, fetcher, worker_of}
use Rattle.hist_model.specs.Legal.{Finished, IsWithin, NoWorkerAbove, is_open_session, rules_of, system_of}
use Rattle.hist_model.specs.Look.{Name, event_at, is_worker, name_eq, oldest}
use Rattle.hist_model.specs.Mediated.{Each, ReceivesFor, left_unfetched}
use Rattle.hist_model.specs.Names.{is_task_name}
use Rattle.hist_model.specs.Sessions.{Rules, any_of, deed, first_some, notif_of, put_in, session, take_in}
use Rattle.hist_model.specs.Signals.{call_of, effect_in_call, effect_outside, next_signal}
use Rattle.hist_model.specs.Steps.{IsLegal, deed_step, deliver_or, install_at, install_of, install_step, instr_step, is_child, is_ended_child, living_step, makes_in, next_instr, oldest_unfetched, owes_native, recv_answer, request_listed, request_of, session_call, step, take_step, task_step, wait_step, worker_step}
use Rattle.hist_model.specs.Systems.{System}
use Rattle.hist_model.specs.Tasks.{alive, disposition, ended, has_parent, is_made, name_of, parent}
use Rattle.hist_model.specs.declared.event.Actor.{Actor}
use Rattle.hist_model.specs.declared.event.Actor.TheVariants.{Listener, Start, Task, Worker}
use Rattle.hist_model.specs.declared.event.Delivered.{Delivered}
use Rattle.hist_model.specs.declared.event.Event.{Event}
use Rattle.hist_model.specs.declared.event.What.{What}
use Rattle.hist_model.specs.declared.event.What.TheVariants.{Native, Recv, Skip}
use Rattle.hist_model.specs.declared.policy.Policy.{Policy}
use Rattle.hist_model.specs.declared.script.Instr.{Instr}
use Rattle.hist_model.specs.declared.script.Instr.TheVariants.{Poke as IPoke, Fill as IFill, Call as ICall, Spawn as ISpawn, Thread as IThread, Kill as IKill, Handler as IHandler, Wait as IWait, Exit as IExit}
use Rattle.hist_model.specs.declared.script.Script.{Script}
use Rattle.sys_abi.specs.declared.wire.Notif.{Notif}
use Rattle.history_frames.proofs.Held.{made-is}
use Rattle.history_frames.proofs.Listed.{listed-below}
use Rattle.history_frames.specs.Ordinals.{task_name_of, tasks_made}
use Rattle.mediation.proofs.Calls.{count_is, receives-are-for}
use Rattle.mediation.proofs.Hands.{Hand, hand, in-hand-of}
use Rattle.mediation.proofs.Order.{begun}
use Rattle.mediation.proofs.Phases.{Asked, at-call, sessions_settle}
use Rattle.mediation.proofs.Rows.{Row, by-few-steps}
use Rattle.mediation.proofs.Tasks.{calls_are_last, waits-here, waits-in-call}
use Rattle.delay_bounded.specs.Circle.{all_in_hand, at_place, in_hand, is_able}
use Rattle.delay_bounded.specs.Laws.{AreNamed, IsOver}
use Rattle.delay_bounded.proofs.Requests.{put_for}
use Rattle.delay_bounded.proofs.Turns.{has_ordinal, worker_place}

-- ---- Steps that aren't none

stuck : (a b : Bool) → a ≡ true → (a && not b) ≡ false → b ≡ true
stuck true true p q = refl
stuck true false p q = cc
stuck false b p q = cc

delivered_or : (o : Option ℕ) (f : ℕ → Delivered) (x : What) → skips x ≡ false → skips (deliver_or o f x) ≡ false
delivered_or (Some sig) f x e = refl
delivered_or None f x e = e

-- a task that waits in a call goes on where the call is settled, or a request is queued for it
goes_on_settled : (S : System) (K : List Event) (n : Name) (c : ℕ) → settled K c ≡ true → skips (living_step S K n (Some c)) ≡ false
goes_on_settled S K n c e = rw e refl

goes_on_queued : (S : System) (K : List Event) (n : Name) (c r : ℕ) (rs : List ℕ) → queue K c ≡ r ∷ rs → skips (living_step S K n (Some c)) ≡ false
goes_on_queued S K n c r rs e = by (settled K c) refl
  where
    by : (b : Bool) → settled K c ≡ b → skips (living_step S K n (Some c)) ≡ false
    by true s = goes_on_settled S K n c s
    by false s = rw (s, e) (delivered_or (next_signal S.killable K n) (λ sig. effect_in_call sig (disposition K n sig)) (install_step S K c (r ∷ rs)) refl)

-- a task outside of calls goes on but where it waits for a child, and none has ended
waits_for : (K : List Event) (child ended : Option ℕ) → skips (wait_step K child ended) ≡ true → (u : ℕ) × (child ≡ Some u) × (ended ≡ None)
waits_for K None o e = cc
waits_for K (Some u) None e = (u, refl, refl)
waits_for K (Some u) (Some t) e = cc

abbrev WaitsForChild : List Event → Name → Type 0
WaitsForChild K n = (u : ℕ) × (oldest (is_child K n) (length K) ≡ Some u) × (oldest (is_ended_child K n) (length K) ≡ None)

instr_waits : (S : System) (K : List Event) (n : Name) (i : Option Instr) → skips (instr_step S K n i) ≡ true → WaitsForChild K n
instr_waits S K n None e = cc
instr_waits S K n (Some (IPoke a b)) e = cc
instr_waits S K n (Some (IFill a len b)) e = cc
instr_waits S K n (Some (ICall nr args)) e = cc
instr_waits S K n (Some (ISpawn p)) e = cc
instr_waits S K n (Some (IThread p)) e = cc
instr_waits S K n (Some (IKill whom s)) e = cc
instr_waits S K n (Some (IHandler s m)) e = cc
instr_waits S K n (Some IWait) e = waits_for K (oldest (is_child K n) (length K)) (oldest (is_ended_child K n) (length K)) e
instr_waits S K n (Some IExit) e = cc

different : (b : Bool) → b ≡ true → b ≡ false → ⊥
different true e f = cc
different false e f = cc

outside_waits : (S : System) (K : List Event) (n : Name) → skips (living_step S K n None) ≡ true → WaitsForChild K n
outside_waits S K n e = by (owes_native K n) refl e (skips (instr_step S K n (next_instr S K n))) refl
  where
    rest : Bool → What
    rest b = if b then Native (S.native K n) else deliver_or (next_signal S.killable K n) (λ sig. effect_outside sig (disposition K n sig)) (instr_step S K n (next_instr S K n))

    by : (b : Bool) → owes_native K n ≡ b → skips (rest (owes_native K n)) ≡ true → (s : Bool) → skips (instr_step S K n (next_instr S K n)) ≡ s → WaitsForChild K n
    by true o e s i = absurd (different (skips (rest true)) (rw o at e) refl)
    by false o e true i = instr_waits S K n (next_instr S K n) i
    by false o e false i = absurd (different (skips (rest false)) (rw o at e) (delivered_or (next_signal S.killable K n) (λ sig. effect_outside sig (disposition K n sig)) (instr_step S K n (next_instr S K n)) i))

-- a worker's deed takes no step only where it receives, or waits for its request
take_waits : (o : Option (Result ℕ ℕ)) (on : Bool) → skips (take_step o on) ≡ true → (o ≡ None) × (on ≡ true)
take_waits (Some a) on e = cc
take_waits None true e = (refl, refl)
take_waits None false e = cc

abbrev DeedWaits : List Event → ℕ → Deed → Type 0
DeedWaits K w d = (d ≡ Deed.Recv) ⊎ ((d ≡ Deed.AddfdTake) × (install_at K (request_of K w) ≡ None) × (request_listed K (request_of K w) ≡ true))

deed_waits : (S : System) (K : List Event) (w : ℕ) (d : Deed) → skips (deed_step S K w d) ≡ true → DeedWaits K w d
deed_waits S K w Deed.Recv e = inl refl
deed_waits S K w Deed.AddfdTake e = let t = take_waits (install_at K (request_of K w)) (request_listed K (request_of K w)) e in inr (refl, t.0, t.1)
deed_waits S K w (Deed.OpenMem p) e = cc
deed_waits S K w (Deed.OpenBase p d) e = cc
deed_waits S K w (Deed.Check x) e = cc
deed_waits S K w (Deed.Read a n) e = cc
deed_waits S K w (Deed.Act q cap) e = cc
deed_waits S K w (Deed.Plant a b cap) e = cc
deed_waits S K w (Deed.AddfdPut a) e = cc
deed_waits S K w (Deed.Send x back) e = cc
deed_waits S K w Deed.LetGo e = cc

not_recv : (R : Rules) (own : List What) → any_of is_letgo own ≡ false → (notif_of own ≡ None → ⊥) → deed R own ≡ Deed.Recv → ⊥
unfolding deed
not_recv R own l n d = grind arith

takes : (R : Rules) (own : List What) → any_of is_letgo own ≡ false → deed R own ≡ Deed.AddfdTake
    → (any_of gives_up own ≡ false) × (((u : Unit {0}) × (first_some put_in own ≡ Some (Ok u))) × (first_some take_in own ≡ None))
unfolding deed
takes R own l d = grind arith

pub receives : (R : Rules) (own : List What) → (notif_of own ≡ None) ⊎ (any_of is_letgo own ≡ true) → deed R own ≡ Deed.Recv
unfolding deed
receives R own h = grind arith

-- ---- A call that is listed and not fetched is counted

lower : (c n : ℕ) → (c == n) ≡ false → c < suc n → c < n
lower c n s l = omega (arith, eqb-false c n s)

some_by : (test : ℕ → Bool) (n c : ℕ) (b : Bool) → (c == n) ≡ b → test c ≡ true → (c < n → 1 ≤ count_below test n) → c < suc n → 1 ≤ count_below test (suc n)
unfolding count_below
some_by test n c true s e before l = let here : test n ≡ true = subst (λ k. test k ≡ true) (eqb-true c n s) e in rw here (omega arith)
some_by test n c false s e before l = omega (arith, before (lower c n s l))

some_counted : (test : ℕ → Bool) (n c : ℕ) → c < n → test c ≡ true → 1 ≤ count_below test n
some_counted test zero c l e = absurd (omega arith)
some_counted test (suc n) c l e = some_by test n c (c == n) refl e (λ m. some_counted test n c m e) l

few_empty : (K : List Event) → 0 < length K → Each ReceivesFor K → empty_recvs K ≤ left_unfetched K
few_empty [] l h = absurd (omega arith)
few_empty (e ∷ K) l h = h.0

-- ---- The names of tasks

child_longer : (n m : Name) → has_parent m ≡ true → parent m ≡ n → length m ≡ length n + 1
child_longer n m h e = let long : length (parent m) ≡ length n = ap length e in let less : 2 ≤ length m = leb-true 2 (length m) h in omega (arith, long, length-take (length m - 1) m)

few_names : (n : Name) → is_task_name n ≡ true → length n ≤ 65
few_names [] e = omega arith
few_names (k ∷ children) e = let less : length children ≤ 64 = leb-true (length children) 64 (and_parts _ _ (and_parts _ _ e).1).0 in omega arith

-- ---- Sessions

open_shut : (own : List What) → is_open_session own ≡ true → any_of is_letgo own ≡ true → ⊥
open_shut [] o g = cc
open_shut (a ∷ own) o g = let z = rw g at o in cc

pub not_open : (own : List What) → is_open_session own ≡ false → (notif_of own ≡ None) ⊎ (any_of is_letgo own ≡ true)
not_open own h = grind arith

is_open_with : (own : List What) (n : Notif) → notif_of own ≡ Some n → any_of is_letgo own ≡ false → is_open_session own ≡ false → ⊥
is_open_with [] n i l s = cc
is_open_with (a ∷ own) n i l s = let z = rw l at s in cc

other_worker : (W w : ℕ) (a : Actor) → IsWithin W a → W < w → is_worker a w ≡ false
other_worker W w (Worker v) i l = ne_eqb v w (λ e. omega (arith, e))
other_worker W w (Task n) i l = refl
other_worker W w Start i l = refl
other_worker W w Listener i l = refl

none_above : (W : ℕ) (K : List Event) → NoWorkerAbove W K → (w : ℕ) → W < w → session K w ≡ []
unfolding session
none_above W [] n w l = refl
none_above W (e ∷ K) n w l = rw (other_worker W w e.who n.0 l) (none_above W K n.1 w l)

who_fetches : (S : System) (R : Rules) (K : List Event) (a : Actor) (what : What) (x : ℕ) → Row S R K a what → fetches what x ≡ true → (w : ℕ) × (worker_of a ≡ Some w)
who_fetches S R K (Worker w) what x r f = (w, refl)
who_fetches S R K (Task n) what x r f = absurd (grind arith)
who_fetches S R K Start what x r f = absurd (grind arith)
who_fetches S R K Listener what x r f = absurd (grind arith)

has_fetcher : (S : System) (R : Rules) (K : List Event) → IsLegal S R K → length K < 2 ^ 64 → (c : ℕ) → fetched K c ≡ true → (w : ℕ) × (fetcher K c ≡ Some w)
unfolding fetched fetcher
has_fetcher S R = by-few-steps S R (λ K. (c : ℕ) → fetched K c ≡ true → (w : ℕ) × (fetcher K c ≡ Some w)) (λ c f. absurd (cc f)) (λ K e legal room row ih c f. by K e row c (fetches e.what (id K c) && listed K c) refl f (ih c))
  where
    by : (K : List Event) (e : Event) → Row S R K e.who e.what → (c : ℕ) (b : Bool) → (fetches e.what (id K c) && listed K c) ≡ b → ((fetches e.what (id K c) && listed K c) || fetched K c) ≡ true
        → (fetched K c ≡ true → (w : ℕ) × (fetcher K c ≡ Some w)) → (w : ℕ) × ((if fetches e.what (id K c) && listed K c then worker_of e.who else fetcher K c) ≡ Some w)
    by K e row c true q f ih = let (w, is) = who_fetches S R K e.who e.what (id K c) row (and_parts _ _ q).0 in (w, rw q is)
    by K e row c false q f ih = let (w, is) = ih (rw q at f) in (w, rw q is)

-- ---- Nobody is able to step

module _ (P : Policy) (S : Script) (W : ℕ) (K : List Event) (legal : IsLegal (system_of S) (rules_of P S.figures) K) (few : length K < 2 ^ 64) (within : NoWorkerAbove W K) (named : AreNamed K) (over : IsOver P S W K) where
  task_stands : (n : Name) → is_made K n ≡ true → skips (step (system_of S) (rules_of P S.figures) K (Task n)) ≡ true
  task_stands n made =
      let (o, few, is) = has_ordinal K n made in
      let inside : nat_lt o (tasks_made K) ≡ true = lt-ltb o (tasks_made K) few in
      let there : at_place K o ≡ Task n = rw inside (ap Task is) in
      let idle : is_able P S K (Task n) ≡ false = subst (λ a. is_able P S K a ≡ false) there (over o (omega arith)) in
      stuck (is_task_name n) (skips (step (system_of S) (rules_of P S.figures) K (Task n))) (named n made) idle

  worker_stands : (w : ℕ) → w ≤ W → (in_hand K w || all_in_hand K w) ≡ true → skips (step (system_of S) (rules_of P S.figures) K (Worker w)) ≡ true
  worker_stands w l may =
      let there : at_place K (tasks_made K + w) ≡ Worker w = worker_place (tasks_made K) w (task_name_of K (tasks_made K + w)) in
      let idle : is_able P S K (Worker w) ≡ false = subst (λ a. is_able P S K a ≡ false) there (over (tasks_made K + w) (omega arith)) in
      stuck (in_hand K w || all_in_hand K w) (skips (step (system_of S) (rules_of P S.figures) K (Worker w))) may idle

  worker_skips : (w : ℕ) → skips (step (system_of S) (rules_of P S.figures) K (Worker w)) ≡ true → skips (deed_step (system_of S) K w (deed (rules_of P S.figures) (session K w))) ≡ true
  unfolding step worker_step
  worker_skips w e = e

  -- the task of a listed call would go on
  living_stands : (n : Name) → alive K n ≡ true → skips (living_step (system_of S) K n (call_of K n)) ≡ true
  unfolding step task_step
  living_stands n lives = let made = and_parts (is_made K n) (not (ended K n)) lives in let s = task_stands n made.0 in rw lives at s

  none_settled : (c : ℕ) → listed K c ≡ true → settled K c ≡ true → ⊥
  none_settled c l s =
      let stands = living_stands (caller K c) (calls_are_last (system_of S) (rules_of P S.figures) K legal c l).0 in
      let here = rw (waits-here (system_of S) (rules_of P S.figures) K c legal l) at stands in
      let goes = goes_on_settled (system_of S) K (caller K c) c s in
      cc

  none_queued : (c r : ℕ) (rs : List ℕ) → listed K c ≡ true → queue K c ≡ r ∷ rs → ⊥
  none_queued c r rs l q =
      let stands = living_stands (caller K c) (calls_are_last (system_of S) (rules_of P S.figures) K legal c l).0 in
      let here = rw (waits-here (system_of S) (rules_of P S.figures) K c legal l) at stands in
      let goes = goes_on_queued (system_of S) K (caller K c) c r rs q in
      cc

  -- ---- The workers have nothing in hand

  request_stands : (w c : ℕ) → session_call K w ≡ Some c → any_of is_letgo (session K w) ≡ false → deed (rules_of P S.figures) (session K w) ≡ Deed.AddfdTake
      → install_at K (request_of K w) ≡ None → request_listed K (request_of K w) ≡ true → ⊥
  request_stands w c s is_open taking none on =
      let T = system_of S in
      let R = rules_of P S.figures in
      let (lasts, asks) = takes R (session K w) is_open taking in
      let ((u, put), untaken) = asks in
      let (r, mine, for_call) = put_for T R K legal few w c s u put untaken in
      let l : listed K c ≡ true = rw (mine, for_call) at on in
      let asked : Asked T R K c w = rw (put, untaken) at ((at-call T R K legal few w c s l).stage lasts) in
      let same : install_of K asked.r ≡ None = rw asked.mine at none in
      let placed = rw same at asked.placed in
      none_queued c asked.r [] l placed.0

  hand_stands : (w : ℕ) → w ≤ W → in_hand K w ≡ true → (o : Option ℕ) → session_call K w ≡ o → Hand K w o → ⊥
  hand_stands w l is_open None s idle = absurd (shut idle.none)
    where
      shut : (notif_of (session K w) ≡ None) ⊎ (any_of is_letgo (session K w) ≡ true) → ⊥
      shut (inl none) = let empty = begun (system_of S) (rules_of P S.figures) K legal w none in (let z = rw empty at is_open in cc)
      shut (inr gone) = open_shut (session K w) is_open gone
  hand_stands w l is_open (Some c) s i = waits (deed_waits (system_of S) K w (deed (rules_of P S.figures) (session K w)) (worker_skips w (worker_stands w l (or_left (in_hand K w) (all_in_hand K w) is_open))))
    where
      waits : DeedWaits K w (deed (rules_of P S.figures) (session K w)) → ⊥
      waits (inl recv) = not_recv (rules_of P S.figures) (session K w) i.no_letgo (λ n. cc (n, i.notif_is)) recv
      waits (inr (taking, none, on)) = request_stands w c s i.no_letgo taking none on

  none_in_hand : (w : ℕ) → w ≤ W → in_hand K w ≡ false
  none_in_hand w l = by (in_hand K w) refl
    where
      by : (b : Bool) → in_hand K w ≡ b → in_hand K w ≡ false
      by true e = absurd (hand_stands w l e (session_call K w) refl (hand (system_of S) (rules_of P S.figures) K legal few w))
      by false e = e

  all_shut : (w : ℕ) → is_open_session (session K w) ≡ false
  all_shut w = by (nat_le w W) refl
    where
      by : (b : Bool) → nat_le w W ≡ b → is_open_session (session K w) ≡ false
      by true e = none_in_hand w (leb-true w W e)
      by false e = rw (none_above W K within w (leb-false w W e)) refl

  -- ---- No call is listed

  none_unfetched : 0 < length K → (c : ℕ) → listed K c ≡ true → fetched K c ≡ false → ⊥
  none_unfetched some c l f =
      let T = system_of S in
      let R = rules_of P S.figures in
      let due : 1 ≤ count_below (λ c. listed K c && not (fetched K c)) (length K) = some_counted (λ c. listed K c && not (fetched K c)) (length K) c (listed-below K c l) (rw (l, f) refl) in
      let counted : 1 ≤ count K = omega (arith, count_is T R K legal few, few_empty K some (receives-are-for T R K legal few), due) in
      let stands = worker_skips 0 (worker_stands 0 (omega arith) (or_right (in_hand K 0) (all_in_hand K 0) refl)) in
      let recv = receives R (session K 0) (not_open (session K 0) (all_shut 0)) in
      let here = rw recv at stands in
      nothing_to_receive (count K) counted here
    where
      nothing_to_receive : (n : ℕ) → 1 ≤ n → skips (if n == 0 then Skip else Recv (recv_answer K (oldest_unfetched K))) ≡ true → ⊥
      nothing_to_receive zero l e = absurd (omega arith)
      nothing_to_receive (suc n) l e = let some : (suc n == 0) ≡ false = ne_eqb (suc n) 0 (λ none. omega (arith, none)) in (let here = rw some at e in cc)

  not_at_it : (c w : ℕ) → session_call K w ≡ Some c → ⊥
  not_at_it c w s =
      let i = in-hand-of (system_of S) (rules_of P S.figures) K w c legal few s in
      is_open_with (session K w) i.n i.notif_is i.no_letgo (all_shut w)

  none_listed : 0 < length K → (c : ℕ) → listed K c ≡ false
  none_listed some c = by (listed K c) refl (fetched K c) refl
    where
      by : (b : Bool) → listed K c ≡ b → (f : Bool) → fetched K c ≡ f → listed K c ≡ false
      by false l f e = l
      by true l false e = absurd (none_unfetched some c l e)
      by true l true e =
          let (w, by_w) = has_fetcher (system_of S) (rules_of P S.figures) K legal few c e in
          absurd (none_settled c l ((sessions_settle (system_of S) (rules_of P S.figures) K legal few w c l by_w).ended (not_at_it c w)))

  -- ---- Each task has ended

  task_ended : 0 < length K → (k : ℕ) (n : Name) → is_made K n ≡ true → length n + k ≡ 66 → ended K n ≡ true
  task_ended some zero n made e = absurd (omega (arith, few_names n (named n made)))
  task_ended some (suc k) n made e = by (ended K n) refl (task_ended some k)
    where
      waiting : (call_of K n ≡ None) → skips (living_step (system_of S) K n None) ≡ true → ((m : Name) → is_made K m ≡ true → length m + k ≡ 66 → ended K m ≡ true) → ⊥
      waiting q s ih =
          let (u, child, none) = outside_waits (system_of S) K n s in
          let (is, below) = oldest-some (is_child K n) (length K) u child in
          let (makes, names) = and_parts (makes_in (event_at K u)) _ is in
          let (has, rest) = and_parts (has_parent (name_of K u)) _ names in
          let (of_n, left) = and_parts (name_eq (parent (name_of K u)) n) _ rest in
          let longer : length (name_of K u) ≡ length n + 1 = child_longer n (name_of K u) has (name_eq-true (parent (name_of K u)) n of_n) in
          let over : ended K (name_of K u) ≡ true = ih (name_of K u) (made-is K u makes) (omega arith) in
          let not_so = oldest-none (is_ended_child K n) (length K) u none below in
          let so : is_ended_child K n u ≡ true = rw (makes, has, of_n, over, left) refl in
          cc

      standing : (o : Option ℕ) → call_of K n ≡ o → skips (living_step (system_of S) K n o) ≡ true → ((m : Name) → is_made K m ≡ true → length m + k ≡ 66 → ended K m ≡ true) → ⊥
      standing (Some c) q s ih = let (l, at) = waits-in-call K n c q in (let none = none_listed some c in cc)
      standing None q s ih = waiting q s ih

      by : (b : Bool) → ended K n ≡ b → ((m : Name) → is_made K m ≡ true → length m + k ≡ 66 → ended K m ≡ true) → ended K n ≡ true
      by true h ih = h
      by false h ih =
          let lives : alive K n ≡ true = rw (made, h) refl in
          absurd (standing (call_of K n) refl (living_stands n lives) ih)

  pub finished : 0 < length K → Finished K
  finished some = record {
    begun = some;
    tasks = λ n made. task_ended some (66 - length n) n made (omega (arith, few_names n (named n made)));
    calls = none_listed some;
    sessions = all_shut;
  }
