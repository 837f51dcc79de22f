-- What a listener tells of a history for which it stands, and that it stands for the longer one after an event of its own.
-- By the state that it is, with the lemmas of `Told` and `Folds`.
use Rattle.std.proofs.Common.{◌≡◌, inl, inr, ℕ, ◌+◌, ◌%◌, ◌^◌, ◌<◌, Bool, true, false, ◌&&◌, not, List, [], ◌∷◌, length, Option, Some, None, refl, sym, ap, ◌∙◌, subst, arith}
use Rattle.std.specs.Prelude.{Result, Ok, Err, find, map, option_map, is_none, is_some, nat_lt, if◌then◌else◌}
use Rattle.std.specs.Result.{IfOk}
use Rattle.std.proofs.lemmas.Bool.{cases_Bool, cases_lt, eq-eqb, false_from_ne_true, le-ltb, lt-ltb}
use Rattle.std.proofs.lemmas.List.Elements.{All-nil}
use Rattle.hist_model.specs.Look.{Name, event_at, name_eq, task_name}
use Rattle.hist_model.specs.Kinds.{closes, has_send_flag, leaves, makes}
use Rattle.hist_model.specs.Calls.{answered, calls, caller, count, fetched, id, listed, named, queue, recvs, settled, state_at}
use Rattle.hist_model.specs.Files.{asked_in, request_for}
use Rattle.hist_model.specs.Signals.{call_of}
use Rattle.hist_model.specs.Steps.{call_at, call_listed, install_at, install_of, oldest_unfetched, reply, request_listed, request_of, take_step}
use Rattle.hist_model.specs.declared.event.Actor.{Actor}
use Rattle.hist_model.specs.declared.event.Actor.TheVariants.{Task, Worker}
use Rattle.hist_model.specs.declared.event.Back.{Back}
use Rattle.hist_model.specs.declared.event.Entered.TheVariants.{Notify}
use Rattle.hist_model.specs.declared.event.Event.{Event}
use Rattle.hist_model.specs.declared.event.What.{What}
use Rattle.hist_model.specs.declared.event.What.TheVariants.{AddfdPut, AddfdTake, Close, Deliver, Enter, Install, Recv, Resume, Send, Skip}
use Rattle.hist_model.specs.declared.notification.Fetched.{Fetched as FetchedCall}
use Rattle.hist_model.specs.declared.notification.Reply.{Reply}
use Rattle.hist_model.specs.declared.notification.State.TheVariants.{Answered, Fetched, Unfetched}
use Rattle.hist_model.specs.declared.request.TaskRef.{TaskRef}
use Rattle.hist_model.proofs.Look.{name_eq-refl, newest-found}
use Rattle.history_frames.specs.Ordinals.{name_at, nth_of, tasks_made, task_name_of}
use Rattle.history_frames.proofs.Listed.{listed-below, listed-is_call, named-is as place-named, named-listed}
use Rattle.history_frames.proofs.Ordinals.{made-more, made-place, made-same, name-older, place-below, place-old}
use Rattle.sys_abi.specs.declared.wire.Addfd.{Addfd}
use Rattle.listener.specs.Fold.{Looks, ask_at, ask_places, asks as asks_of, places, row_at, rows}
use Rattle.listener.specs.Listeners.{is_over, put_admission, taken, taken_from, view, was_fetched, with_sent, back_of}
use Rattle.listener.specs.Requests.{has_request, is_of}
use Rattle.listener.specs.Sound.{AreAsked, IdsDiffer, IsSound, IsStep, Puts}
use Rattle.listener.specs.Stands.{AreNames, IsCaller, IsEntry, IsInstall, IsLeaving, IsListedAs, IsNext, IsOther, IsOtherStep, IsOutside, IsSettledBy, StandsFor, oldest_in, take_of}
use Rattle.listener.specs.State.{Row, State, after, after_leave, after_step, far_in, has_id, lists_none, no_rows, oldest, queue as asks_for, result_reply, row_named, row_of, task_in, with_entered, with_told, without_ask, without_call, without_calls}
use Rattle.listener.specs.Table.{IsReceived, reply_in}
use Rattle.listener.specs.declared.listener.Listener.{Listener}
use Rattle.listener.specs.declared.requests.Request.{Request}
use Rattle.listener.specs.declared.listener.TakeError.{TakeError}
use Rattle.listener.specs.declared.listener.TakeError.TheVariants.{Pending, Fault}
use Rattle.listener.proofs.Answers.{named-is, oldest-is, state-is, waits-in}
use Rattle.listener.proofs.Folds.{asks-waiting, call-here, follows}
use Rattle.listener.proofs.Sounds.{ids-differ}
use Rattle.listener.proofs.Told.{asks-is, back-is, request-is, take-is}

-- ---- names

older-names : (e : Event) (K : List Event) (names : ℕ → Name) → AreNames (e ∷ K) names → AreNames K names
older-names e K names h o l =
    let t = made-place makes K o l in
    let more : o < tasks_made (e ∷ K) = elim (cases_Bool (makes e.what)) [ inl b ↦ rw (made-more makes e K b) (omega (arith, l)) | inr b ↦ rw (made-same makes e K b) l ] in
    h o more ∙ (ap (name_at (e ∷ K)) (place-old makes e K o l ∙ t.1) ∙ (name-older e K t.0 (place-below makes K o t.0 t.1).1 ∙ sym (ap (name_at K) t.1)))

-- what has a name whatever the tasks are called that weren't made is the name of one that was
pub made-by : (K : List Event) (o : ℕ) (n : Name) → ((names : ℕ → Name) → AreNames K names → names o ≡ n) → o < tasks_made K
made-by K o n h = elim (cases_lt o (tasks_made K)) [
  | inl l ↦ l
  | inr l ↦
      let other : ℕ → Name = λ p. if nat_lt p (tasks_made K) then task_name_of K p else 0 ∷ n in
      let same : other o ≡ n = h other (λ p m. rw (lt-ltb p (tasks_made K) m) refl) in
      let longer : 0 ∷ n ≡ n = rw (le-ltb o (tasks_made K) l) at same in
      absurd (omega (arith, ap length longer))
]

-- ---- at first

pub stands-none : (first : ℕ) (L : Listener) → first < 2 ^ 64 → ((names : ℕ → Name) → view L names ≡ record { first = first; entered = 0; received = 0; calls = []; asks = [] }) → StandsFor first [] L
unfolding calls recvs rows places asks_of ask_places request_of listed nth_of
stands-none first L f v = record {
  looks = λ names n. subst (Looks first []) (sym (v names)) (record { first_is = refl; entered_is = refl; received_is = refl; calls_are = refl; asks_are = refl });
  sound = record { first_fits = f; few = omega arith; ids = λ n c q. cc; callers = λ c d h. cc; sends = λ c h. cc };
  asked = record { below = All-nil (λ r. r < 0); differ = tt; calls = All-nil _; own = λ w. refl; alone = All-nil _; queues = λ c h. cc };
}

-- ---- a task's call

pub waits-nowhere : (K : List Event) (n : Name) (c : ℕ) → call_of K n ≡ None → listed K c ≡ true → caller K c ≡ n → ⊥
unfolding call_of
waits-nowhere K n c q l h = newest-found (λ d. listed K d && name_eq (caller K d) n) (length K) c (listed-below K c l) (rw (l, h) (name_eq-refl n)) q

-- a reply that is written leaves the requests
pub sent-asks : (a : Addfd) (y : Option Reply) (x : ℕ) (f : List Request → List Request) (s : State) → with_sent a y x (record s { asks = f s.asks }) ≡ record (with_sent a y x s) { asks = f (with_sent a y x s).asks }
sent-asks a y x f s = elim (cases_Bool (has_send_flag a)) [ inl b ↦ rw b refl | inr b ↦ rw b refl ]

-- ---- the oldest request of a call

pub record IsOldest (K : List Event) (c : ℕ) (asked : Addfd) : Type 0 where
  pub first : ℕ
  pub rest : List ℕ
  pub queue_is : queue K c ≡ first ∷ rest
  pub asked_is : request_for K (Some c) ≡ asked

pub oldest-first : (K : List Event) (c : ℕ) (asked : Addfd) → oldest_in K (queue K c) ≡ Some asked → IsOldest K c asked
oldest-first K c asked h = go (queue K c) refl
  where
    go : (rs : List ℕ) → queue K c ≡ rs → IsOldest K c asked
    go [] q = let z : ◌≡◌ {A = Option Addfd} None (Some asked) = rw q at h in cc
    go (r ∷ rs) q =
        let z : ◌≡◌ {A = Option Addfd} (Some (asked_in (event_at K r))) (Some asked) = rw q at h in
        let a : asked_in (event_at K r) ≡ asked = cc in
        record { first = r; rest = rs; queue_is = q; asked_is = rw q a }

pub oldest-none : (K : List Event) (c : ℕ) → oldest_in K (queue K c) ≡ None → queue K c ≡ []
oldest-none K c h = go (queue K c) refl
  where
    go : (rs : List ℕ) → queue K c ≡ rs → queue K c ≡ []
    go [] q = q
    go (r ∷ rs) q = let z : ◌≡◌ {A = Option Addfd} (Some (asked_in (event_at K r))) None = rw q at h in cc

-- what an installation makes of a state, by the call and by the task
installed-is : (first : ℕ) (K : List Event) (s : State) → Looks first K s → IsSound first K → AreAsked K → (c x : ℕ) (a : Addfd) (r : Result ℕ ℕ) → IsListedAs K c x → oldest_in K (queue K c) ≡ Some a
    → with_told x r (with_sent a (result_reply r) x s) ≡ after_step (Task (caller K c)) (Install r) s
installed-is first K s L S A c x a r l o =
    let i = oldest-first K c a o in
    let own : row_of (caller K c) s ≡ Some (row_at K c) = waits-in first K s L S.callers (caller K c) ∙ ap (option_map (row_at K)) (call-here K c (λ d g w. S.callers d c g l.on w) l.on) in
    let y : asked_in (event_at K i.first) ≡ a = rw i.queue_is at i.asked_is in
    let w : asks_for (id K c) s ≡ ask_at K i.first ∷ map (ask_at K) i.rest = asks-waiting K s c A l.on L.asks_are ∙ ap (map (ask_at K)) i.queue_is in
    rw own (rw w (rw (y, l.id_is) refl))

-- ---- what a worker is told

take-told : (o : Option (Result ℕ ℕ)) (listed : Bool) → take_of (taken o listed) ≡ take_step o listed
take-told (Some (Ok n)) listed = refl
take-told (Some (Err x)) listed = refl
take-told None true = refl
take-told None false = refl

-- what ends its request has a result, or its call isn't listed
over-cases : (o : Option (Result ℕ ℕ)) (listed : Bool) → is_over (taken o listed) ≡ true → is_none o ≡ true → listed ≡ false
over-cases (Some (Ok n)) listed h g = cc
over-cases (Some (Err x)) listed h g = cc
over-cases None true h g = cc
over-cases None false h g = refl

-- what ends its request is a take, and what leaves it is none
taking : (r : Result ℕ TakeError) → is_over r ≡ true → (a : Result ℕ ℕ) × (take_of r ≡ AddfdTake a)
taking (Ok n) h = (Ok n, refl)
taking (Err (Fault x)) h = (Err x, refl)
taking (Err Pending) h = cc

waiting-skips : (r : Result ℕ TakeError) → is_over r ≡ false → take_of r ≡ Skip
waiting-skips (Ok n) h = cc
waiting-skips (Err (Fault x)) h = cc
waiting-skips (Err Pending) h = refl

some-far : (o : Option Row) → is_some (far_in o) ≡ is_some o
some-far None = refl
some-far (Some r) = refl

module _ (first : ℕ) (K : List Event) (L : Listener) (S : StandsFor first K L) where
  pub looks : Looks first K (view L (task_name_of K))
  looks = S.looks (task_name_of K) (λ o l. refl)

  pub ids : IdsDiffer K
  ids = ids-differ first K S.sound

  pub named-by : (c : ℕ) → listed K c ≡ true → named K (id K c) ≡ Some c
  named-by c l = place-named K (id K c) c l refl (λ d g q. ids d c (listed-is_call K d g) (listed-is_call K c l) q)

  pub waits-here : (c : ℕ) → listed K c ≡ true → call_of K (caller K c) ≡ Some c
  waits-here c l = call-here K c (λ d g w. S.sound.callers d c g l w) l

  -- ---- what it tells

  pub asks : (w : ℕ) → has_request L.requests w ≡ is_some (request_of K w)
  asks w = asks-is first K (view L (task_name_of K)) looks S.asked ids w

  listed-row : (c x : ℕ) → IsListedAs K c x → row_named x (view L (task_name_of K)) ≡ Some (row_at K c)
  listed-row c x l = named-is first K (view L (task_name_of K)) looks x ∙ ap (option_map (row_at K)) (ap (named K) (sym l.id_is) ∙ named-by c l.on)

  pub settled-is : (c x : ℕ) (o : Option Back) → IsListedAs K c x → o ≡ back_of (reply_in (row_named x (view L (task_name_of K)))) → IsSettledBy K c o
  settled-is c x o l q = by (settled K c) refl o (q ∙ (ap (λ r. back_of (reply_in r)) (listed-row c x l) ∙ back-is K c))
    where
      by : (b : Bool) → settled K c ≡ b → (o : Option Back) → o ≡ (if settled K c then Some (reply K c) else None) → IsSettledBy K c o
      by true h None g = let z : None ≡ Some (reply K c) = rw h at g in cc
      by true h (Some y) g = let z : Some y ≡ Some (reply K c) = rw h at g in (h, cc)
      by false h None g = h
      by false h (Some y) g = let z : Some y ≡ None = rw h at g in cc

  pub received-is : (c x : ℕ) → IsListedAs K c x → was_fetched (far_in (row_named x (view L (task_name_of K)))) ≡ fetched K c
  received-is c x l = ap (λ r. was_fetched (far_in r)) (listed-row c x l) ∙ by (fetched K c) (is_none (row_at K c).reply)
    where
      by : (f n : Bool) → was_fetched (Some (if not f then Unfetched else (if n then Fetched else Answered))) ≡ f
      by true true = refl
      by true false = refl
      by false n = refl

  pub none-listed : lists_none (view L (task_name_of K)) ≡ true → (c : ℕ) → listed K c ≡ false
  none-listed h c = false_from_ne_true (listed K c) (λ l. by (view L (task_name_of K)).calls h (listed-row c (id K c) (record { on = l; id_is = refl })))
    where
      by : (rs : List Row) → no_rows rs ≡ true → find (has_id (id K c)) rs ≡ Some (row_at K c) → ⊥
      by [] h f = cc
      by (r ∷ rs) h f = cc

  pub some-listed : lists_none (view L (task_name_of K)) ≡ false → (c : ℕ) × (listed K c ≡ true)
  some-listed h = by (view L (task_name_of K)).calls h refl
    where
      by : (rs : List Row) → no_rows rs ≡ false → (view L (task_name_of K)).calls ≡ rs → (c : ℕ) × (listed K c ≡ true)
      by [] h q = cc
      by (r ∷ rs) h q = place (named K r.id) refl (rw (q, eq-eqb r.id r.id refl) at (named-is first K (view L (task_name_of K)) looks r.id))
        where
          place : (o : Option ℕ) → named K r.id ≡ o → Some r ≡ option_map (row_at K) (named K r.id) → (c : ℕ) × (listed K c ≡ true)
          place (Some c) n f = (c, (named-listed K r.id c n).0)
          place None n f = let z : Some r ≡ None = rw n at f in cc

  pub next-is : (f : FetchedCall) → ((names : ℕ → Name) → IsReceived (view L names) f names) → (0 < count K) × IsNext K f
  next-is f n = (some, by (oldest_unfetched K) refl)
    where
      some : 0 < count K
      some = let r = (n (task_name_of K)).counted in omega (arith, r, looks.entered_is, looks.received_is)

      row-is : (names : ℕ → Name) → AreNames K names → Some (n names).next ≡ option_map (row_at K) (oldest_unfetched K)
      row-is names h = sym (n names).oldest_is ∙ oldest-is first K (view L names) (S.looks names h)

      by : (o : Option ℕ) → oldest_unfetched K ≡ o → IsNext K f
      by None q = let z : Some (n (task_name_of K)).next ≡ None = row-is (task_name_of K) (λ o l. refl) ∙ ap (option_map (row_at K)) q in cc
      by (Some c) q =
          let row : (names : ℕ → Name) → AreNames K names → (n names).next ≡ row_at K c = λ names h. let z : Some (n names).next ≡ Some (row_at K c) = row-is names h ∙ ap (option_map (row_at K)) q in cc in
          let own : (names : ℕ → Name) → AreNames K names → names f.owner.ordinal ≡ caller K c = λ names h. (n names).task_is ∙ ap (λ (r : Row). r.task) (row names h) in
          record {
            place = c;
            oldest = q;
            id_is = (n (task_name_of K)).id_is ∙ ap (λ (r : Row). r.id) (row (task_name_of K) (λ o l. refl));
            made = made-by K f.owner.ordinal (caller K c) own;
            owner_is = own (task_name_of K) (λ o l. refl);
          }

  -- the task in the call that an id names, by its name whatever the tasks are called that weren't made
  call-of : (x : ℕ) (o : Option ℕ) → ((names : ℕ → Name) → option_map names o ≡ task_in (row_named x (view L names))) → (names : ℕ → Name) → AreNames K names → option_map names o ≡ task_in (option_map (row_at K) (named K x))
  call-of x o h names n = h names ∙ ap task_in (named-is first K (view L names) (S.looks names n) x)

  pub caller-is : (x o : ℕ) → ((names : ℕ → Name) → option_map names (Some o) ≡ task_in (row_named x (view L names))) → IsCaller K x o
  caller-is x o h = by (named K x) refl
    where
      by : (p : Option ℕ) → named K x ≡ p → IsCaller K x o
      by None q = let z : Some (task_name_of K o) ≡ None = call-of x (Some o) h (task_name_of K) (λ o l. refl) ∙ ap (λ p. task_in (option_map (row_at K) p)) q in cc
      by (Some c) q =
          let own : (names : ℕ → Name) → AreNames K names → names o ≡ caller K c = λ names n. let z : Some (names o) ≡ Some (caller K c) = call-of x (Some o) h names n ∙ ap (λ p. task_in (option_map (row_at K) p)) q in cc in
          record { place = c; named_is = q; made = made-by K o (caller K c) own; name_is = own (task_name_of K) (λ o l. refl) }

  pub no-caller : (x : ℕ) → ((names : ℕ → Name) → option_map names None ≡ task_in (row_named x (view L names))) → named K x ≡ None
  no-caller x h = by (named K x) (call-of x None h (task_name_of K) (λ o l. refl))
    where
      by : (p : Option ℕ) → option_map (task_name_of K) None ≡ task_in (option_map (row_at K) p) → p ≡ None
      by None q = refl
      by (Some c) q = cc

  pub gone-is : oldest (view L (task_name_of K)) ≡ None → oldest_unfetched K ≡ None
  gone-is h = by (oldest_unfetched K) (sym h ∙ oldest-is first K (view L (task_name_of K)) looks)
    where
      by : (o : Option ℕ) → None ≡ option_map (row_at K) o → o ≡ None
      by None q = refl
      by (Some c) q = cc

  -- ---- what it is after an event

  -- its state is what the event makes of the one before
  pub follow : (e : Event) (a : Actor) (w : What) (M : Listener) → e.who ≡ a → e.what ≡ w → IsStep first K e w → ((names : ℕ → Name) → AreNames K names → view M names ≡ after_step a w (view L names)) → StandsFor first (e ∷ K) M
  follow e a w M who what p v =
      let f : (names : ℕ → Name) → AreNames K names → Looks first (e ∷ K) (after (view L names) e) × IsSound first (e ∷ K) × AreAsked (e ∷ K) = λ names n. follows first K e (view L names) (S.looks names n) S.sound S.asked (subst (IsStep first K e) (sym what) p) in
      let here = f (task_name_of K) (λ o l. refl) in
      record {
        looks = λ names n. let m = older-names e K names n in subst (Looks first (e ∷ K)) (ap (λ x. after_step e.who x (view L names)) what ∙ (ap (λ x. after_step x w (view L names)) who ∙ sym (v names m))) (f names m).0;
        sound = here.1;
        asked = here.2;
      }

  pub stands-other : (e : Event) → IsOther K e → StandsFor first (e ∷ K) L
  stands-other e o = by e.what refl o
    where
      lost : (i : IsOutside K e) (names : ℕ → Name) → AreNames K names → view L names ≡ after_leave (row_of i.name (view L names)) (view L names)
      lost i names n = rw (waits-in first K (view L names) (S.looks names n) S.sound.callers i.name, i.none) refl

      by : (w : What) → e.what ≡ w → IsOtherStep K e w → StandsFor first (e ∷ K) L
      by (Enter nr args (Notify x)) q o = absurd o
      by (Recv answer) q o = absurd o
      by (Send x back (Ok u)) q o = absurd o
      by (AddfdPut asked (Ok u)) q o = absurd o
      by (AddfdTake answer) q o = absurd o
      by (Install answer) q o = absurd o
      by Close q o = absurd o
      by (Resume back) q o = follow e (Task o.name) (Resume back) L o.who q (o.name, o.who) (lost o)
      by (Deliver sig effect) q o = follow e (Task o.name) (Deliver sig effect) L o.who q (o.name, o.who) (lost o)
      by w q o = follow e e.who w L refl q tt (λ names n. refl)

  pub stands-entered : (e : Event) (x : ℕ) {t : TaskRef} (M : Listener) → IsEntry K e t x → calls K + 1 < 2 ^ 64 → x ≡ (first + calls K) % 2 ^ 64
      → ((names : ℕ → Name) → view M names ≡ with_entered (names t.ordinal) (view L names)) → StandsFor first (e ∷ K) M
  stands-entered e x {t} M i more is v =
      follow e (Task (task_name_of K t.ordinal)) (Enter i.nr i.args (Notify x)) M i.who i.is
      (record { id_is = is; more = more; free = λ c l h. waits-nowhere K (task_name_of K t.ordinal) c i.free l (h ∙ ap task_name i.who) })
      (λ names n. v names ∙ ap (λ z. with_entered z (view L names)) (n t.ordinal i.made))

  pub stands-left : (e : Event) (x : ℕ) (M : Listener) → IsLeaving K e x → ((names : ℕ → Name) → view M names ≡ without_call x (view L names)) → StandsFor first (e ∷ K) M
  stands-left e x M i v = by e.what refl i.is
    where
      gone : (names : ℕ → Name) → AreNames K names → view M names ≡ after_leave (row_of i.name (view L names)) (view L names)
      gone names n = v names ∙ sym (rw (waits-in first K (view L names) (S.looks names n) S.sound.callers i.name, i.call_is, i.id_is) refl)

      by : (w : What) → e.what ≡ w → leaves w ≡ true → StandsFor first (e ∷ K) M
      by (Resume back) q h = follow e (Task i.name) (Resume back) M i.who q (i.name, i.who) gone
      by (Deliver sig effect) q h = follow e (Task i.name) (Deliver sig effect) M i.who q (i.name, i.who) gone
      by w q h = cc

  pub stands-closed : (e : Event) (M : Listener) → closes e.what ≡ true → ((names : ℕ → Name) → view M names ≡ without_calls (view L names)) → StandsFor first (e ∷ K) M
  stands-closed e M h v = by e.what refl h
    where
      by : (w : What) → e.what ≡ w → closes w ≡ true → StandsFor first (e ∷ K) M
      by Close q h = follow e e.who Close M refl q tt (λ names n. v names)
      by w q h = cc

  pub stands-installed : (e : Event) (c x : ℕ) (a : Addfd) (r : Result ℕ ℕ) (M : Listener) → IsListedAs K c x → IsInstall K e c a r → ((names : ℕ → Name) → view M names ≡ with_told x r (with_sent a (result_reply r) x (view L names))) → StandsFor first (e ∷ K) M
  stands-installed e c x a r M l i v =
      let o = oldest-first K c a i.oldest_is in
      follow e (Task (caller K c)) (Install r) M i.who i.what_is (record { call = c; who = i.who; on = l.on; unsettled = i.unsettled; first = o.first; rest = o.rest; queue_is = o.queue_is })
      (λ names n. v names ∙ installed-is first K (view L names) (S.looks names n) S.sound S.asked c x a r l i.oldest_is)

  -- a request that is taken is for a call that waits for an answer
  pub puts-by : (e : Event) (w : ℕ) (a : Addfd) (n : ℕ) → e.who ≡ Worker w → has_request (view L (task_name_of K)).asks w ≡ false → put_admission a (far_in (row_named a.id (view L (task_name_of K)))) n ≡ Ok tt → Puts K e a
  puts-by e w a n who free h = by (named K a.id) refl (rw (state-is first K (view L (task_name_of K)) looks a.id) at h)
    where
      none : (o : Option ℕ) → request_of K w ≡ o → request_of K w ≡ None
      none None q = q
      none (Some r) q = let z = asks w in absurd (cc (z, free, q))

      open-by : (f b : Bool) → put_admission a (Some (if not f then Unfetched else (if b then Answered else Fetched))) n ≡ Ok tt → b ≡ false
      open-by true false h = refl
      open-by true true h = cc
      open-by false b h = cc

      by : (o : Option ℕ) → named K a.id ≡ o → put_admission a (state_at K (named K a.id)) n ≡ Ok tt → Puts K e a
      by None q h = let z : ◌≡◌ {A = Result (Unit {0}) ℕ} (Err _) (Ok tt) = rw q at h in cc
      by (Some c) q h = record { worker = w; who = who; call = c; call_is = q; open_is = open-by (fetched K c) (answered K c) (rw q at h); free = none (request_of K w) refl }

  -- ---- takes

  module _ (w : ℕ) (q : Request) (a : Result ℕ TakeError) (b : Bool) (own : Some q ≡ find (is_of w) L.requests) (is : a ≡ taken q.result b) (on : b ≡ is_some (far_in (row_named q.asked.id (view L (task_name_of K))))) where
    told : (r : ℕ) × (request_of K w ≡ Some r) × (a ≡ taken (install_of K r) (call_listed K (call_at K r)))
    told = by (request_of K w) refl (own ∙ request-is first K (view L (task_name_of K)) looks S.asked ids w)
      where
        by : (o : Option ℕ) → request_of K w ≡ o → Some q ≡ option_map (ask_at K) (request_of K w) → (r : ℕ) × (request_of K w ≡ Some r) × (a ≡ taken (install_of K r) (call_listed K (call_at K r)))
        by None h z = let n : Some q ≡ None = rw h at z in cc
        by (Some r) h z = (r, h, is ∙ (ap (taken q.result) (on ∙ some-far _) ∙ (ap (taken_from (view L (task_name_of K))) own ∙ take-is first K (view L (task_name_of K)) looks S.asked ids w r h)))

    pub take-answered : take_of a ≡ take_step (install_at K (request_of K w)) (request_listed K (request_of K w))
    take-answered = ap take_of told.2 ∙ (take-told (install_of K told.0) (call_listed K (call_at K told.0)) ∙ sym (ap (λ o. take_step (install_at K o) (request_listed K o)) told.1))

    pub stands-taken : (e : Event) (M : Listener) → e.who ≡ Worker w → e.what ≡ take_of a → is_over a ≡ true → ((names : ℕ → Name) → view M names ≡ without_ask w (view L names)) → StandsFor first (e ∷ K) M
    stands-taken e M who what over v =
        let t = taking a over in
        follow e (Worker w) (AddfdTake t.0) M who (what ∙ t.1)
        (record { worker = w; who = who; over = λ r h n. let z : Some told.0 ≡ Some r = sym told.1 ∙ h in let y : told.0 ≡ r = cc in subst (λ p. call_listed K (call_at K p) ≡ false) y (over-cases (install_of K told.0) (call_listed K (call_at K told.0)) (ap is_over (sym told.2) ∙ over) (ap (λ p. is_none (install_of K p)) y ∙ n)) })
        (λ names n. v names)

    pub stands-waiting : (e : Event) → e.who ≡ Worker w → e.what ≡ take_of a → is_over a ≡ false → StandsFor first (e ∷ K) L
    stands-waiting e who what h = follow e (Worker w) Skip L who (what ∙ waiting-skips a h) tt (λ names n. refl)

pub if-ok : {T E : Type 0} (P Q : T → Type 0) (r : Result T E) → ((x : T) → P x → Q x) → IfOk r P → IfOk r Q
if-ok P Q (Ok x) f h = f x h
if-ok P Q (Err e) f h = h
