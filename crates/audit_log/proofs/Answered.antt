-- What is kept of the requests of each call tells of them, event by event, and so of which events are answers.
-- By cases on whether the place is one of the events so far, by `newest_own` and by `named_own`: an id's newest call has this id.
use Rattle.std.proofs.Common.{◌≡◌, inl, inr, ℕ, suc, ◌+◌, ◌<◌, ◌≤◌, Bool, true, false, ◌&&◌, ◌||◌, cond, List, [], ◌∷◌, ◌++◌, length, Option, Some, None, refl, sym, ap, ◌∙◌, subst, zero-add, arith}
use Rattle.std.specs.Prelude.{if◌then◌else◌, ◌==◌, Ok, is_some}
use Rattle.std.proofs.lemmas.Bool.{cases_Bool, cases_order, eqb-true, eq-eqb}
use Rattle.std.proofs.lemmas.List.{length-append}
use Rattle.hist_model.specs.Calls.{actor_in, caller, id, id_in, notify_id}
use Rattle.hist_model.specs.Kinds.{enters, gave, is_sent}
use Rattle.hist_model.specs.Look.{Name, event_at, is_task, is_place, task_name}
use Rattle.hist_model.specs.ReportAudit.{call_with_id, is_notified}
use Rattle.hist_model.specs.ReportCalls.{is_inside, is_pending, newest_call, outcome}
use Rattle.hist_model.specs.ReportRequests.{answer_count, first_has_send, installs_for_send, is_answer, requests, requests_step}
use Rattle.hist_model.specs.declared.event.Actor.{Actor}
use Rattle.hist_model.specs.declared.event.Actor.TheVariants.{Start, Task, Worker, Listener}
use Rattle.hist_model.specs.declared.event.Entered.TheVariants.{Notify}
use Rattle.hist_model.specs.declared.event.Event.{Event}
use Rattle.hist_model.specs.declared.event.What.{What}
use Rattle.hist_model.specs.declared.event.What.TheVariants.{AddfdPut, Enter, Install, Send}
use Rattle.hist_model.proofs.Look.{event_at-older, name_eq-refl}
use Rattle.audit_log.specs.Received.{Names, place_in}
use Rattle.audit_log.specs.Records.{Tells}
use Rattle.audit_log.specs.Places.{grown}
use Rattle.audit_log.specs.Requests.{AnswersAre, TellsInstalled, TellsRequests, answered_call, first_at, for_install, installed_for, pending_call, queued}
use Rattle.audit_log.specs.Tasks.{Knows, call_of, facts_in, task_facts}
use Rattle.audit_log.specs.declared.received.Ids.{Ids}
use Rattle.audit_log.specs.declared.records.CallRecord.{CallRecord}
use Rattle.audit_log.specs.declared.tasks.TaskRecords.{TaskRecords}
use Rattle.audit_log.proofs.ByPlace.{by_place_more, none_by_place}
use Rattle.audit_log.proofs.Counted.{count_cons}
use Rattle.audit_log.proofs.Newest.{elsewhere, newest_below, newest_not_past, newest_passes}
use Rattle.audit_log.proofs.ReceivedCalls.{at_place, newest_named}
use Rattle.audit_log.proofs.Recorded.{and_false, in_call, newest_entered, newest_enters, newest_own, not_yet, task_of}

-- ---- Ids

-- a step that is listed with an id has it
notified-id : (a : What) (x : ℕ) → is_notified a x ≡ true → notify_id a ≡ x
notified-id (Enter nr args (Notify y)) x h = eqb-true y x h
notified-id _ x h = cc

-- the newest call with an id has this id
named_own : (x : ℕ) (later K : List Event) (f : Event) → call_with_id x (later ++ f ∷ K) ≡ Some (length K) → notify_id f.what ≡ x
named_own x later K f h = notified-id f.what x (newest_passes (λ e. is_notified e.what x) (call_with_id x) (newest_named x) later K f h)

-- no id names a call at a place past the events
none-named : (x c : ℕ) (K : List Event) → length K ≤ c → is_place (call_with_id x K) c ≡ false
none-named x c K l = newest_not_past (λ e. is_notified e.what x) (call_with_id x) (newest_named x) c K l

-- a test that is joined to true stays as it is
and_true : (b : Bool) → b ≡ (b && true)
and_true true = refl
and_true false = refl

-- an id y names the call at place c where it is the id x of that call, and that names it
named-same : (x y c : ℕ) (K : List Event) → (call_with_id y K ≡ Some c → x ≡ y) → is_place (call_with_id y K) c ≡ (is_place (call_with_id x K) c && (y == x))
named-same x y c K own = elim (cases_Bool (y == x)) [
  | inl h ↦ let q : y ≡ x = eqb-true y x h in rw (h, q) (and_true (is_place (call_with_id x K) c))
  | inr h ↦ rw (h, and_false (is_place (call_with_id x K) c)) (elsewhere (call_with_id y K) c (λ p. other (own p) h))
]
  where
    other : x ≡ y → (y == x) ≡ false → ⊥
    other same h = let t : (y == x) ≡ true = eq-eqb y x (sym same) in cc (h, t)

-- ---- PendingRequests

-- nothing was asked for a call at a place past the events
no-requests : (x : ℕ) (n : Name) (c : ℕ) (K : List Event) → length K ≤ c → requests x n c K ≡ []
unfolding requests
no-requests x n c [] l = refl
no-requests x n c (e ∷ K) l =
    rw (not_yet n c K (omega arith), and_false (is_task e.who n), none-named x c K (omega arith), no-requests x n c K (omega arith)) (idle e.what x)
  where
    idle : (a : What) (x : ℕ) → requests_step false false x a [] ≡ []
    idle (Install answer) x = refl
    idle (AddfdPut asked (Ok u)) x = refl
    idle _ x = refl

-- one more step at place c, which may be in the call, and may ask for it
step_told : (a : What) (x : ℕ) (call : Option ℕ) (named : ℕ → Option ℕ) (c : ℕ) (queue : List Bool) (inside newest : Bool)
    → is_place call c ≡ inside → ((y : ℕ) → is_place (named y) c ≡ (newest && (y == x)))
    → queued a call named c queue ≡ requests_step inside newest x a queue
step_told (Install answer) x call named c queue inside newest i n = rw i refl
step_told (AddfdPut asked (Ok u)) x call named c queue inside newest i n = rw (n asked.id) refl
step_told _ x call named c queue inside newest i n = refl

-- the call at a place, while nothing came of it
pending-is : (o : Option ℕ) (kept : ℕ → CallRecord) (c : ℕ) → is_place (pending_call o kept) c ≡ (is_place o c && is_pending (kept c).outcome)
pending-is None kept c = refl
pending-is (Some k) kept c = elim (cases_Bool (k == c)) [
  | inl h ↦ let q : k ≡ c = eqb-true k c h in rw (h, q) (same (is_pending (kept c).outcome))
  | inr h ↦ rw h (other (is_pending (kept k).outcome) h)
]
  where
    same : (b : Bool) → is_place (if b then Some c else None) c ≡ b
    same true = eq-eqb c c refl
    same false = refl

    other : (b : Bool) → (k == c) ≡ false → is_place (if b then Some k else None) c ≡ false
    other true h = h
    other false h = refl

-- a call is at none of the places past the events
none-of : (who : Actor) (c : ℕ) (K : List Event) → length K ≤ c → is_place (call_of who (task_facts K)) c ≡ false
none-of (Task m) c K l = not_yet m c K l
none-of Start c K l = refl
none-of (Worker w) c K l = refl
none-of Listener c K l = refl

-- the event at the place of an actor's newest call enters it
call_enters : (who : Actor) (later M : List Event) (f : Event) → is_place (call_of who (task_facts (later ++ f ∷ M))) (length M) ≡ true → enters f.what ≡ true
call_enters (Task m) later M f h = newest_enters m later M f (place_is (newest_call m (later ++ f ∷ M)) (length M) h)
  where
    place_is : (o : Option ℕ) (c : ℕ) → is_place o c ≡ true → o ≡ Some c
    place_is None c h = cc
    place_is (Some k) c h = ap Some (eqb-true k c h)
call_enters Start later M f h = cc
call_enters (Worker w) later M f h = cc
call_enters Listener later M f h = cc

-- the requests at place c with one more event, by the call of its actor and the call that each id names
abbrev after : (ℕ → CallRecord) → List Event → Event → ℕ → List Bool → List Bool
after kept K e c queue = queued e.what (pending_call (call_of e.who (task_facts K)) kept) (λ y. call_with_id y K) c queue

-- at a place past the events
later_told : (x : ℕ) (n : Name) (kept : ℕ → CallRecord) (K : List Event) (e : Event) (c : ℕ) → length K ≤ c
    → after kept K e c (requests x n c K) ≡ requests x n c (e ∷ K)
unfolding requests
later_told x n kept K e c l =
    let o = call_of e.who (task_facts K) in
    let inside : is_place (pending_call o kept) c ≡ is_inside n c K e =
    pending-is o kept c
    ∙ ap (λ b. b && is_pending (kept c).outcome) (none-of e.who c K l)
    ∙ sym (ap (λ b. (is_task e.who n && b) && is_pending (outcome n c K)) (not_yet n c K l) ∙ ap (λ b. b && is_pending (outcome n c K)) (and_false (is_task e.who n)))
    in
    let named : (y : ℕ) → is_place (call_with_id y K) c ≡ (is_place (call_with_id x K) c && (y == x)) =
    (λ y. none-named y c K l ∙ sym (ap (λ b. b && (y == x)) (none-named x c K l)))
    in
    step_told e.what x (pending_call o kept) (λ y. call_with_id y K) c (requests x n c K) (is_inside n c K e) (is_place (call_with_id x K) c) inside named

-- at the place of an earlier event, f
earlier_told : (kept : ℕ → CallRecord) (later M : List Event) (f e : Event) → let K = later ++ f ∷ M in
    (enters f.what ≡ true → (kept (length M)).outcome ≡ outcome (task_name f.who) (length M) K)
    → after kept K e (length M) (requests (notify_id f.what) (task_name f.who) (length M) K) ≡ requests (notify_id f.what) (task_name f.who) (length M) (e ∷ K)
unfolding requests
earlier_told kept later M f e r =
    let K = later ++ f ∷ M in
    let c = length M in
    let n = task_name f.who in
    let x = notify_id f.what in
    let o = call_of e.who (task_facts K) in
    let own = in_call e.who n c K (λ q. task_of f.who (task_name e.who) (newest_own (task_name e.who) later M f q)) in
    let inside : is_place (pending_call o kept) c ≡ is_inside n c K e =
    pending-is o kept c
    ∙ came (is_place o c) (λ q. r (call_enters e.who later M f q))
    ∙ ap (λ b. b && is_pending (outcome n c K)) (sym own)
    in
    let named : (y : ℕ) → is_place (call_with_id y K) c ≡ (is_place (call_with_id x K) c && (y == x)) =
    (λ y. named-same x y c K (λ q. named_own y later M f q))
    in
    step_told e.what x (pending_call o kept) (λ y. call_with_id y K) c (requests x n c K) (is_inside n c K e) (is_place (call_with_id x K) c) inside named
  where
    came : (b : Bool) → (b ≡ true → (kept (length M)).outcome ≡ outcome (task_name f.who) (length M) (later ++ f ∷ M))
        → (b && is_pending (kept (length M)).outcome) ≡ (b && is_pending (outcome (task_name f.who) (length M) (later ++ f ∷ M)))
    came true q = ap is_pending (q refl)
    came false q = refl

-- with one more event
pub requests_more : (K : List Event) (e : Event) (kept : ℕ → CallRecord) → Tells K kept
    → (c : ℕ) → after kept K e c (requests (id K c) (caller K c) c K) ≡ requests (id (e ∷ K) c) (caller (e ∷ K) c) c (e ∷ K)
requests_more K e kept t c = elim (cases_order c (length K)) [
  | inl q ↦ past (omega arith)
  | inr o ↦ elim o [
    | inl m ↦ within m
    | inr m ↦ past (omega arith)
  ]
]
  where
    past : length K ≤ c → after kept K e c (requests (id K c) (caller K c) c K) ≡ requests (id (e ∷ K) c) (caller (e ∷ K) c) c (e ∷ K)
    past l =
        ap (after kept K e c) (no-requests (id K c) (caller K c) c K l ∙ sym (no-requests (id (e ∷ K) c) (caller (e ∷ K) c) c K l))
        ∙ later_told (id (e ∷ K) c) (caller (e ∷ K) c) kept K e c l

    within : c < length K → after kept K e c (requests (id K c) (caller K c) c K) ≡ requests (id (e ∷ K) c) (caller (e ∷ K) c) c (e ∷ K)
    within m =
        let (later, f, M, p, n, v) = at_place K c m in
        let old : event_at (e ∷ K) c ≡ Some f = event_at-older e K c m ∙ v in
        let record_is : enters f.what ≡ true → (kept (length M)).outcome ≡ outcome (task_name f.who) (length M) K = (λ enter. ap (λ r. r.outcome) (t later M f p enter)) in
        let told =
        earlier_told kept later M f e (subst (λ H. enters f.what ≡ true → (kept (length M)).outcome ≡ outcome (task_name f.who) (length M) H) p record_is) in
        let whole : after kept K e (length M) (requests (notify_id f.what) (task_name f.who) (length M) K) ≡ requests (notify_id f.what) (task_name f.who) (length M) (e ∷ K) =
        subst (λ H. after kept H e (length M) (requests (notify_id f.what) (task_name f.who) (length M) H) ≡ requests (notify_id f.what) (task_name f.who) (length M) (e ∷ H)) (sym p) told in
        let here : after kept K e c (requests (notify_id f.what) (task_name f.who) c K) ≡ requests (notify_id f.what) (task_name f.who) c (e ∷ K) =
        subst (λ k. after kept K e k (requests (notify_id f.what) (task_name f.who) k K) ≡ requests (notify_id f.what) (task_name f.who) k (e ∷ K)) n whole in
        subst (λ g. after kept K e c (requests (id K c) (caller K c) c K) ≡ requests (id_in g) (actor_in g) c (e ∷ K)) (sym old)
        (subst (λ g. after kept K e c (requests (id_in g) (actor_in g) c K) ≡ requests (notify_id f.what) (task_name f.who) c (e ∷ K)) (sym v) here)

-- ---- Answers

-- what an actor that is no task installs belongs to no request
no_task_installs : (who : Actor) (a : What) (K : List Event) (o : Option ℕ) → is_task who (task_name who) ≡ false → false ≡ installs_for_send K (record { who = who; what = a }) o
no_task_installs who a K None h = refl
no_task_installs who a K (Some c) h = rw h refl

-- an installation is one for a request with SEND
send_told : (who : Actor) (a : What) (K : List Event) (kept : ℕ → CallRecord) (queue : ℕ → List Bool) → Tells K kept → TellsRequests K queue
    → first_at (pending_call (call_of who (task_facts K)) kept) queue ≡ installs_for_send K (record { who = who; what = a }) (newest_call (task_name who) K)
send_told (Task m) a K kept queue t r = by (newest_call m K) refl
  where
    by : (o : Option ℕ) → newest_call m K ≡ o → first_at (pending_call o kept) queue ≡ installs_for_send K (record { who = Task m; what = a }) o
    by None q = refl
    by (Some c) q =
        let (later, f, M, p, n, v) = at_place K c (newest_below (λ e. is_task e.who m && enters e.what) (newest_call m) (newest_entered m) c K q) in
        let newest : newest_call m (later ++ f ∷ M) ≡ Some (length M) = ap (newest_call m) (sym p) ∙ q ∙ ap Some (sym n) in
        let mine : is_task f.who m ≡ true = newest_own m later M f newest in
        let name : task_name f.who ≡ m = task_of f.who m mine in
        let who : caller K c ≡ m = ap actor_in v ∙ name in
        let out : (kept c).outcome ≡ outcome m c K =
        subst (λ k. (kept k).outcome ≡ outcome m k K) n (ap (λ r. r.outcome) (t later M f p (newest_enters m later M f newest)) ∙ ap (λ y. outcome y (length M) K) name) in
        let asked : queue c ≡ requests (id K c) m c K = r c ∙ ap (λ y. requests (id K c) y c K) who in
        rw (q, name_eq-refl m, eq-eqb c c refl, out, ← asked) (chosen (is_pending (outcome m c K)) c)
      where
        chosen : (b : Bool) (c : ℕ) → first_at (if b then Some c else None) queue ≡ (b && first_has_send (queue c))
        chosen true c = refl
        chosen false c = refl
send_told Start a K kept queue t r = no_task_installs Start a K (newest_call [] K) refl
send_told (Worker w) a K kept queue t r = no_task_installs (Worker w) a K (newest_call [] K) refl
send_told Listener a K kept queue t r = no_task_installs Listener a K (newest_call [] K) refl

-- the call that an installation answers is its task's newest one
answered_told : (K : List Event) (e : Event) (kept : ℕ → CallRecord) (queue : ℕ → List Bool) → Tells K kept → TellsRequests K queue
    → answered_call e.what (pending_call (call_of e.who (task_facts K)) kept) queue ≡ installed_for K e
answered_told K e kept queue t r = by (gave e.what) (call_of e.who (task_facts K)) (newest_call (task_name e.who) K) refl (send_told e.who e.what K kept queue t r) (own e.who)
  where
    own : (who : Actor) → first_at (pending_call (call_of who (task_facts K)) kept) queue ≡ true → call_of who (task_facts K) ≡ newest_call (task_name who) K
    own (Task m) h = refl
    own Start h = cc
    own (Worker w) h = cc
    own Listener h = cc

    pending : (o : Option ℕ) → first_at (pending_call o kept) queue ≡ true → pending_call o kept ≡ o
    pending None h = cc
    pending (Some c) h = chosen (is_pending (kept c).outcome) h
      where
        chosen : (b : Bool) → first_at (if b then Some c else None) queue ≡ true → (if b then Some c else None) ≡ Some c
        chosen true h = refl
        chosen false h = cc

    by : (g : Bool) (o n : Option ℕ) → newest_call (task_name e.who) K ≡ n → first_at (pending_call o kept) queue ≡ installs_for_send K e n
        → (first_at (pending_call o kept) queue ≡ true → o ≡ n)
        → (if g && first_at (pending_call o kept) queue then pending_call o kept else None) ≡ (if g && installs_for_send K e n then n else None)
    by false o n q h same = refl
    by true o n q h same = elim (cases_Bool (first_at (pending_call o kept) queue)) [
      | inl y ↦ let s : installs_for_send K e n ≡ true = sym h ∙ y in rw (y, s) (pending o y ∙ same y)
      | inr f ↦ let s : installs_for_send K e n ≡ false = sym h ∙ f in rw (f, s) refl
    ]

-- the call that an installation is for, by what is kept of the tasks
call-is : (K : List Event) (e : Event) (tasks : TaskRecords) (kept : ℕ → CallRecord) → Knows K tasks
    → pending_call (call_of e.who (facts_in tasks)) kept ≡ pending_call (call_of e.who (task_facts K)) kept
call-is K e tasks kept k =
    let f : facts_in tasks ≡ task_facts K = λ i. λ n. k n i in
    ap (λ facts. pending_call (call_of e.who facts) kept) f

-- only an installation asks for it
pub queued_for : (a : What) (o : Option ℕ) (named : ℕ → Option ℕ) (c : ℕ) (queue : List Bool) → queued a (for_install a o) named c queue ≡ queued a o named c queue
queued_for (Install answer) o named c queue = refl
queued_for (AddfdPut asked (Ok u)) o named c queue = refl
queued_for _ o named c queue = refl

pub answered_for : (a : What) (o : Option ℕ) (queue : ℕ → List Bool) → answered_call a (for_install a o) queue ≡ answered_call a o queue
answered_for (Install answer) o queue = refl
answered_for _ o queue = refl

-- ---- The pass

-- before all events nothing was asked
pub none_asked : (c : ℕ) → requests (id [] c) (caller [] c) c [] ≡ []
unfolding requests
none_asked c = refl

-- before all events no answer was given
none-answered : answer_count [] ≡ 0
unfolding answer_count
none-answered = refl

-- the requests with one more event
pub asked_more : (K : List Event) (e : Event) (tasks : TaskRecords) (ids : Ids) (kept : ℕ → CallRecord) (before new : ℕ → List Bool)
    → Tells K kept → Knows K tasks → Names K ids → TellsRequests K before
    → ((c : ℕ) → new c ≡ queued e.what (pending_call (call_of e.who (facts_in tasks)) kept) (place_in ids) c (before c)) → TellsRequests (e ∷ K) new
asked_more K e tasks ids kept before new t k n r h =
    let g : place_in ids ≡ (λ x. call_with_id x K) = λ i. λ x. n x i in
    let p = call-is K e tasks kept k in
    λ c. h c
    ∙ ap (queued e.what (pending_call (call_of e.who (facts_in tasks)) kept) (place_in ids) c) (r c)
    ∙ ap (λ o. queued e.what o (place_in ids) c (requests (id K c) (caller K c) c K)) p
    ∙ ap (λ named. queued e.what (pending_call (call_of e.who (task_facts K)) kept) named c (requests (id K c) (caller K c) c K)) g
    ∙ requests_more K e kept t c

-- the calls that are answered by installations, with one more event
pub installed_more : (K : List Event) (e : Event) (tasks : TaskRecords) (kept : ℕ → CallRecord) (queue : ℕ → List Bool) (before after : ℕ → Option ℕ)
    → TellsInstalled K before → Tells K kept → Knows K tasks → TellsRequests K queue
    → ((p : ℕ) → after p ≡ (if length K == p then answered_call e.what (pending_call (call_of e.who (facts_in tasks)) kept) queue else before p)) → TellsInstalled (e ∷ K) after
installed_more K e tasks kept queue before after i t k r h =
    let o = pending_call (call_of e.who (facts_in tasks)) kept in
    by_place_more installed_for K e (answered_call e.what o queue) before after i (ap (λ c. answered_call e.what c queue) (call-is K e tasks kept k) ∙ answered_told K e kept queue t r) h

-- before all events none is
pub none_installed : (calls : ℕ → Option ℕ) (H : List Event) → H ≡ [] → TellsInstalled H calls
none_installed = none_by_place installed_for

-- ---- How many answers were given

-- with one more step, which may install for a request with SEND
apart : (a : What) (i : Bool) → (if is_sent a || (gave a && i) then 1 else 0) ≡ cond (is_sent a) 1 0 + (if gave a && i then 1 else 0)
apart (Send id back (Ok u)) i = refl
apart a i = sym (zero-add (if gave a && i then 1 else 0))

-- an installation that answers a call is one for a request with SEND
installed-some : (K : List Event) (e : Event) → is_some (installed_for K e) ≡ (gave e.what && installs_for_send K e (newest_call (task_name e.who) K))
installed-some K e = by (gave e.what) (newest_call (task_name e.who) K)
  where
    same : (b : Bool) (c : ℕ) → is_some (if b then Some c else None) ≡ b
    same true c = refl
    same false c = refl

    by : (g : Bool) (n : Option ℕ) → is_some (if g && installs_for_send K e n then n else None) ≡ (g && installs_for_send K e n)
    by false n = refl
    by true None = refl
    by true (Some c) = same (installs_for_send K e (Some c)) c

length-grown : (o : Option ℕ) (place : ℕ) (places : List ℕ) → length (grown o place places) ≡ (if is_some o then 1 else 0) + length places
length-grown None place places = sym (zero-add (length places))
length-grown (Some c) place places = let s : length (places ++ place ∷ []) ≡ length places + 1 = length-append places (place ∷ []) in omega arith

pub none_number : (places : List ℕ) → places ≡ [] → AnswersAre [] (length places)
none_number places q = rw q none-answered

pub number_more : (K : List Event) (e : Event) (tasks : TaskRecords) (kept : ℕ → CallRecord) (queue : ℕ → List Bool) (old new : List ℕ)
    → AnswersAre K (length old) → Tells K kept → Knows K tasks → TellsRequests K queue
    → new ≡ grown (answered_call e.what (pending_call (call_of e.who (facts_in tasks)) kept) queue) (length K) old → AnswersAre (e ∷ K) (length new)
unfolding answer_count
number_more K e tasks kept queue old new n t k r is =
    let i = installs_for_send K e (newest_call (task_name e.who) K) in
    let told : answered_call e.what (pending_call (call_of e.who (facts_in tasks)) kept) queue ≡ installed_for K e =
    ap (λ c. answered_call e.what c queue) (call-is K e tasks kept k) ∙ answered_told K e kept queue t r in
    let size : length new ≡ (if gave e.what && i then 1 else 0) + length old =
    ap length (is ∙ ap (λ o. grown o (length K) old) told) ∙ length-grown (installed_for K e) (length K) old ∙ ap (λ b. (if b then 1 else 0) + length old) (installed-some K e) in
    let step = apart e.what i in
    let sent = count_cons (λ x. is_sent x.what) e K in
    omega (arith, n, size, step, sent)

-- each event gives one answer at most
pub answers_few : (K : List Event) → answer_count K ≤ length K
unfolding answer_count
answers_few [] = omega arith
answers_few (e ∷ K) = let few = answers_few K in by (is_answer K e) few
  where
    by : (b : Bool) → answer_count K ≤ length K → answer_count K + (if b then 1 else 0) ≤ suc (length K)
    by true few = omega arith
    by false few = omega arith
