-- The judge stands for a history with one more event of a worker, as it takes it, but for effects and answers.
-- Table by table: the worker's own seat, and the call that it receives.
use Rattle.std.proofs.Common.{◌≡◌, ℕ, ◌+◌, ◌<◌, ◌^◌, Bool, true, false, ◌&&◌, List, [], ◌∷◌, ◌++◌, length, map, refl, sym, ap, ◌∙◌, subst, arith, inl, inr, Option, Some, None, ◌⊎◌}
use Rattle.std.specs.Prelude.{get_or, if◌then◌else◌, slice_get, Ok, Err, Result, Vec, ◌==◌, IfSome, ℤ}
use Rattle.std.specs.Vec.{with_item}
use Rattle.std.specs.declared.alloc.Global.{Global}
use Rattle.std.proofs.lemmas.Bool.{cases_Bool, cases_eq, eqb-true}
use Rattle.std.proofs.lemmas.Option.{get_or_from_slice_get, slice_get_within}
use Rattle.tasks.proofs.Listed.{get-within}
use Rattle.broker_verdict.specs.Answers.{is_accepted_value}
use Rattle.broker_verdict.specs.Effects.{is_done}
use Rattle.broker_verdict.specs.Seats.{base_now, confirmed, directory_opened, has_no_base, is_effect, is_own_id, of_call, refused_after, validated, Worth, worth_now}
use Rattle.broker_judge.specs.Reads.{worth_of}
use Rattle.hist_model.specs.Calls.{named}
use Rattle.hist_model.specs.Kinds.{closes, is_install, makes, notifies, starts}
use Rattle.hist_model.specs.Look.{ev, is_worker}
use Rattle.hist_model.specs.Legal.{system_of}
use Rattle.hist_model.specs.Systems.{System}
use Rattle.mediation.proofs.KernelRows.{kernel-row-of}
use Rattle.sys_abi.specs.Errnos.{ebadf}
use Rattle.hist_model.specs.Steps.{base_answer, mem, opened, session_call}
use Rattle.hist_model.specs.Tasks.{holder}
use Rattle.hist_model.specs.Trees.{ordinal_of}
use Rattle.hist_model.specs.declared.event.Actor.TheVariants.{Worker}
use Rattle.hist_model.specs.declared.event.Event.{Event}
use Rattle.hist_model.specs.declared.event.What.{What}
use Rattle.hist_model.specs.declared.event.What.TheVariants.{Check, LetGo, OpenBase, OpenMem, Read, Recv}
use Rattle.hist_model.specs.declared.policy.Policy.{Policy}
use Rattle.hist_model.specs.declared.script.Script.{Script}
use Rattle.history_frames.specs.Ordinals.{count_of, groups_made, makes_group, task_name_of}
use Rattle.history_frames.proofs.Ordinals.{made-more, made-same}
use Rattle.sys_abi.specs.declared.wire.Notif.{Notif}
use Rattle.judge_pass.specs.Counted.{AreCounted, is_answering}
use Rattle.judge_pass.specs.Stands.{IsBelow, IsCall, IsHistory, IsSeat, may_give, place_of_call, place_of_group, Stands}
use Rattle.judge_pass.specs.Tables.{Begins, dirfd_named, is_listed_row, KeepsHandles, number_named, number_of}
use Rattle.judge_pass.specs.declared.calls.Call.{Call}
use Rattle.judge_pass.specs.declared.judge.Judge.{Judge}
use Rattle.judge_pass.specs.declared.seats.Seat.{Seat}
use Rattle.judge_pass.proofs.CallAnswers.{none-received, one-received}
use Rattle.judge_pass.proofs.CallEvents.{calls-same}
use Rattle.judge_pass.proofs.CallRows.{moves_calls, quiet-call}
use Rattle.judge_pass.proofs.DoneRows.{done-same, quiet-done}
use Rattle.judge_pass.proofs.NamedCalls.{AreCalls}
use Rattle.judge_pass.proofs.OpenRows.{moves_files, open-quiet}
use Rattle.judge_pass.proofs.Parts.{AreSeats, calls-of, counted-same, done-of, named-row, open-of, seats-moved, seats-of, stands-of, tasks-of, tasks-same, times-same}
use Rattle.judge_pass.proofs.Rows.{place-there}
use Rattle.judge_pass.proofs.SeatEvents.{seat-base, seat-checked, seat-let-go, seat-memory, seat-read, seat-received, seat-refused, seat-unchecked, seat-unread}
use Rattle.judge_pass.proofs.SeatRows.{LeavesSeat, other-seat, own-base, own-call, own-checked, own-effect, own-memory, own-reads, own-refused, own-sent, own-worth, seat-row-kept}
use Rattle.judge_pass.proofs.TaskEvents.{IsQuiet}
use Rattle.judge_pass.proofs.TaskRows.{other-task, quiet-task}

-- ---- what a worker's step leaves

module _ (P : Policy) (S : Script) (K : List Event) (w : ℕ) (what : What) (j : Judge) (s : Stands P S K j) (history : IsHistory S (ev (Worker w) what ∷ K)) where
  abbrev own : Event
  own = ev (Worker w) what

  -- the step is no effect, no answer and no receive: it leaves all but the seats and the calls
  pub stands-worker : IsQuiet what → notifies what ≡ false → (C : Vec Call Global) (T : Vec Seat Global) → AreCalls S (own ∷ K) C.items → AreSeats S (own ∷ K) T.items
      → Stands P S (own ∷ K) (record j { calls = record j.calls { rows = C }; seats = T })
  stands-worker q f C T calls seats = stands-of P S (own ∷ K) (record j { calls = record j.calls { rows = C }; seats = T }) s.script history
      (tasks-same own K j.tasks.items (tasks-of P S K j s) q.no_make (λ o l. quiet-task own K (task_name_of K o) (other-task own (task_name_of K o) refl (λ h. absurd (cc (h, f))) q.no_close) q.no_gift))
      (s.groups_are ∙ sym (made-same makes_group own K q.no_group)) calls
      (done-same own K j.done.items (done-of P S K j s) q.no_effect (λ p l. quiet-done own K p q.no_install q.no_value)) seats
      s.first_is s.first_fits (open-quiet S own K j.directories.rows.items (open-of P S K j s) q.no_file) s.times_are
      (times-same P own K j.times.items s.times q.undone) (counted-same own K j.counts s.counts q.no_start q.no_effect q.no_answer)

  -- it moves its own seat alone
  pub stands-seat : IsQuiet what → notifies what ≡ false → moves_calls what ≡ false → (new : Seat) → IsSeat S (own ∷ K) w new → Stands P S (own ∷ K) (record j { seats = with_item j.seats w new })
  stands-seat q f c new now = stands-worker q f j.calls.rows (with_item j.seats w new)
      (calls-same S own K j.calls.rows.items (calls-of P S K j s) f (λ d is l. quiet-call own K d l c))
      (seats-moved S K w what j.seats.items (seats-of P S K j s) history.fits new now _ refl)

  -- it leaves even that
  pub stands-still : IsQuiet what → notifies what ≡ false → moves_calls what ≡ false → w < 17 → LeavesSeat S own K w → Stands P S (own ∷ K) j
  stands-still q f c l leave = stands-worker q f j.calls.rows j.seats
      (calls-same S own K j.calls.rows.items (calls-of P S K j s) f (λ d is b. quiet-call own K d b c))
      (record { number = s.seats_are; each = λ v d b. by v d b (cases_eq v w) })
    where
      by : (v : ℕ) (d : Seat) → v < 17 → (v ≡ w) ⊎ (v ≡ w → ⊥) → IsSeat S (own ∷ K) v (get_or j.seats.items v d)
      by v d b (inl e) = seat-row-kept S own K v (get_or j.seats.items v d) history.fits (s.seats v d b) (subst (λ (x : ℕ). LeavesSeat S own K x) (sym e) leave)
      by v d b (inr a) = seat-row-kept S own K v (get_or j.seats.items v d) history.fits (s.seats v d b) (other-seat S own K v (apart v a))
        where
          apart : (v : ℕ) → (v ≡ w → ⊥) → is_worker (Worker w) v ≡ false
          apart v a = elim (cases_Bool (is_worker (Worker w) v)) [ inr f ↦ f | inl t ↦ absurd (a (sym (eqb-true w v t))) ]

-- steps of these kinds leave all other tables
pub quiet-kind : (what : What) → makes what ≡ false → makes_group what ≡ false → may_give what ≡ false → is_effect what ≡ false → is_install what ≡ false → is_accepted_value what ≡ false → moves_files what ≡ false → is_done what ≡ false
    → starts what ≡ false → is_answering what ≡ false → closes what ≡ false → IsQuiet what
quiet-kind what a b c d e f g h i k l = record { no_make = a; no_group = b; no_gift = c; no_effect = d; no_install = e; no_value = f; no_file = g; undone = h; no_start = i; no_answer = k; no_close = l }

module _ (P : Policy) (S : Script) (K : List Event) (w : ℕ) (j : Judge) (s : Stands P S K j) (l : w < 17) (old : Seat) (oq : old ≡ get_or j.seats.items w old) where
  mine : IsSeat S K w old
  mine = subst (λ (x : Seat). IsSeat S K w x) (sym oq) (s.seats w old l)

  -- ---- it receives a notification

  module _ (notif : Notif) (history : IsHistory S (ev (Worker w) (Recv (Ok notif)) ∷ K)) (new : Seat) (handles : KeepsHandles old new) (fits : notif.id < 2 ^ 64) where
    abbrev receiving : Event
    receiving = ev (Worker w) (Recv (Ok notif))

    counted : AreCounted (receiving ∷ K) (record j.counts { calls = j.counts.calls + 1 })
    counted = record {
      calls_are = ap (λ (n : ℕ). n + 1) s.counts.calls_are ∙ sym (made-more starts receiving K refl);
      effects_are = s.counts.effects_are ∙ sym (made-same is_effect receiving K refl);
      answers_are = s.counts.answers_are ∙ sym (made-same is_answering receiving K refl);
    }

    stands-received : (C : Vec Call Global) → AreCalls S (receiving ∷ K) C.items → IsSeat S (receiving ∷ K) w new
        → Stands P S (receiving ∷ K) (record j { calls = record j.calls { rows = C }; seats = with_item j.seats w new; counts = record j.counts { calls = j.counts.calls + 1 } })
    stands-received C calls seat = stands-of P S (receiving ∷ K) (record j { calls = record j.calls { rows = C }; seats = with_item j.seats w new; counts = record j.counts { calls = j.counts.calls + 1 } }) s.script history
        (tasks-same receiving K j.tasks.items (tasks-of P S K j s) refl (λ o b. quiet-task receiving K (task_name_of K o) (other-task receiving (task_name_of K o) refl (λ h. cc) refl) refl))
        (s.groups_are ∙ sym (made-same makes_group receiving K refl)) calls
        (done-same receiving K j.done.items (done-of P S K j s) refl (λ p b. quiet-done receiving K p refl refl))
        (seats-moved S K w (Recv (Ok notif)) j.seats.items (seats-of P S K j s) history.fits new seat _ refl)
        s.first_is s.first_fits (open-quiet S receiving K j.directories.rows.items (open-of P S K j s) refl) s.times_are
        (times-same P receiving K j.times.items s.times refl) counted

    pub received-some : (k : ℕ) → number_named j.calls.first j.calls.rows.items notif.id ≡ Some k → k < length j.calls.rows.items → Begins (length K) (Some k) new → (row : Call) → row ≡ get_or j.calls.rows.items k row
        → Stands P S (receiving ∷ K) (record j { calls = record j.calls { rows = with_item j.calls.rows k (record row { fetcher = Some w }) }; seats = with_item j.seats w new; counts = record j.counts { calls = j.counts.calls + 1 } })
    received-some k q kl begun row rq =
        let kb : k < count_of notifies K = omega (arith, kl, s.calls_are) in
        let p = place-there notifies K k kb in
        let at : named K notif.id ≡ place_of_call K (Some k) = named-row P S K j s notif.id fits ∙ ap (place_of_call K) q in
        let call : IsCall S K k row = subst (λ (x : Call). IsCall S K k x) (sym rq) (s.calls k row kb) in
        stands-received (with_item j.calls.rows k (record row { fetcher = Some w }))
        (one-received S K j.calls.rows.items (calls-of P S K j s) w notif s.history k p.0 row (at ∙ p.1) p.1 call l _ refl)
        (seat-received S K w old mine notif (omega (arith, history.fits)) new (Some k) begun handles at kb)

    pub received-none : number_named j.calls.first j.calls.rows.items notif.id ≡ None → Begins (length K) None new
        → Stands P S (receiving ∷ K) (record j { seats = with_item j.seats w new; counts = record j.counts { calls = j.counts.calls + 1 } })
    received-none q begun =
        let at : named K notif.id ≡ None = named-row P S K j s notif.id fits ∙ ap (place_of_call K) q in
        stands-received j.calls.rows (none-received S K j.calls.rows.items (calls-of P S K j s) w notif at)
        (seat-received S K w old mine notif (omega (arith, history.fits)) new None begun handles at tt)

  -- ---- it lets go

  pub let-go : IsHistory S (ev (Worker w) LetGo ∷ K) → (new : Seat) → Begins (length K) None new → new.memory ≡ None → new.base ≡ None → Stands P S (ev (Worker w) LetGo ∷ K) (record j { seats = with_item j.seats w new })
  let-go history new begun memory base =
      stands-seat P S K w LetGo j s history (quiet-kind LetGo refl refl refl refl refl refl refl refl refl refl refl) refl refl new
      (seat-let-go S K w old mine (omega (arith, history.fits)) new begun memory base)

  -- ---- it opens

  pub memory-opened : (pid : ℕ) → IsHistory S (ev (Worker w) (OpenMem pid (Ok tt)) ∷ K) → (m : Option ℕ) → opened K (holder K pid) ≡ place_of_group K m → IsBelow (groups_made K) m
      → Stands P S (ev (Worker w) (OpenMem pid (Ok tt)) ∷ K) (record j { seats = with_item j.seats w (record old { memory = m; is_checked = false }) })
  memory-opened pid history m is made =
      stands-seat P S K w (OpenMem pid (Ok tt)) j s history (quiet-kind (OpenMem pid (Ok tt)) refl refl refl refl refl refl refl refl refl refl refl) refl refl (record old { memory = m; is_checked = false })
      (seat-memory S K w old mine pid (omega (arith, history.fits)) m is made)

  pub base-opened : (pid : ℕ) (dirfd : ℤ) → IsHistory S (ev (Worker w) (OpenBase pid dirfd (Ok tt)) ∷ K) → (new : Seat) → new ≡ record old { base = new.base; base_worth = new.base_worth } → (g : ℕ) → opened K (holder K pid) ≡ place_of_group K (Some g) → g < groups_made K
      → ordinal_of new.base ≡ dirfd_named S j.directories.rows.items g dirfd → base_now S K (session_call K w) (ordinal_of new.base) ≡ worth_of new.base_worth → Stands P S (ev (Worker w) (OpenBase pid dirfd (Ok tt)) ∷ K) (record j { seats = with_item j.seats w new })
  base-opened pid dirfd history new rest g is made base worth =
      let p = place-there makes_group K g made in
      let there : directory_opened S K pid dirfd ≡ ordinal_of new.base = rw (is ∙ p.1) (s.directories g p.0 dirfd p.1 ∙ sym base) in
      stands-seat P S K w (OpenBase pid dirfd (Ok tt)) j s history (quiet-kind (OpenBase pid dirfd (Ok tt)) refl refl refl refl refl refl refl refl refl refl refl) refl refl new
      (seat-base S K w old mine pid dirfd (omega (arith, history.fits)) new rest
      there (rw there worth))

  pub base-refused : (pid : ℕ) (dirfd : ℤ) (errno : ℕ) → IsHistory S (ev (Worker w) (OpenBase pid dirfd (Err errno)) ∷ K) → (b : Bool) → refused_after S K w (OpenBase pid dirfd (Err errno)) old.is_base_refused ≡ b
      → Stands P S (ev (Worker w) (OpenBase pid dirfd (Err errno)) ∷ K) (record j { seats = with_item j.seats w (record old { is_base_refused = b }) })
  base-refused pid dirfd errno history b is =
      stands-seat P S K w (OpenBase pid dirfd (Err errno)) j s history (quiet-kind (OpenBase pid dirfd (Err errno)) refl refl refl refl refl refl refl refl refl refl refl) refl refl (record old { is_base_refused = b })
      (seat-refused S K w old mine pid dirfd errno (omega (arith, history.fits)) b is)

  -- ---- it checks

  pub found-valid : (x : ℕ) → IsHistory S (ev (Worker w) (Check x (Ok tt)) ∷ K) → is_own_id K w x ≡ true → (new : Seat) → new ≡ record old { reads = new.reads; followed = new.followed; is_checked = new.is_checked; base_worth = new.base_worth }
      → new.reads.items ≡ map (λ r. confirmed r) old.reads.items → new.followed ≡ length new.reads.items → new.is_checked ≡ true → worth_of new.base_worth ≡ validated (worth_of old.base_worth) → Stands P S (ev (Worker w) (Check x (Ok tt)) ∷ K) (record j { seats = with_item j.seats w new })
  found-valid x history own new rest items followed checked worth =
      stands-seat P S K w (Check x (Ok tt)) j s history (quiet-kind (Check x (Ok tt)) refl refl refl refl refl refl refl refl refl refl refl) refl refl new
      (seat-checked S K w old mine x (omega (arith, history.fits)) own new rest items followed checked worth)

  pub found-other : (x : ℕ) → IsHistory S (ev (Worker w) (Check x (Ok tt)) ∷ K) → is_own_id K w x ≡ false → Stands P S (ev (Worker w) (Check x (Ok tt)) ∷ K) j
  found-other x history other =
      stands-still P S K w (Check x (Ok tt)) j s history (quiet-kind (Check x (Ok tt)) refl refl refl refl refl refl refl refl refl refl refl) refl refl l
      (seat-unchecked S K w old mine x (omega (arith, history.fits)) other)

  -- ---- it reads

  pub read-some : (addr len : ℕ) (answer : Result (List ℕ) ℕ) → IsHistory S (ev (Worker w) (Read addr len answer) ∷ K) → (g : ℕ) → old.memory ≡ Some g → (new : Seat) → new ≡ record old { reads = new.reads; read_at = new.read_at }
      → (worth : Worth) → ((m : ℕ) → place_of_group K (Some g) ≡ Some m → worth ≡ worth_now K (place_of_call K old.call) m) → new.reads.items ≡ old.reads.items ++ record { addr = addr; len = len; answer = answer; worth = worth } ∷ []
      → new.read_at.items ≡ old.read_at.items ++ (length K, g) ∷ [] → Stands P S (ev (Worker w) (Read addr len answer) ∷ K) (record j { seats = with_item j.seats w new })
  read-some addr len answer history g q new rest worth is items places =
      let gb : g < groups_made K = rw q at mine.memory_made in
      let p = place-there makes_group K g gb in
      let m : mem K w ≡ Some p.0 = mine.memory_is ∙ (ap (place_of_group K) q ∙ p.1) in
      stands-seat P S K w (Read addr len answer) j s history (quiet-kind (Read addr len answer) refl refl refl refl refl refl refl refl refl refl refl) refl refl new
      (seat-read S K w old mine addr len answer (omega (arith, history.fits)) p.0 g m new rest worth (is p.0 p.1 ∙ ap (λ (o : Option ℕ). worth_now K o p.0) (sym mine.call_is)) items places)

  pub read-none : (addr len : ℕ) (answer : Result (List ℕ) ℕ) → IsHistory S (ev (Worker w) (Read addr len answer) ∷ K) → old.memory ≡ None → Stands P S (ev (Worker w) (Read addr len answer) ∷ K) j
  read-none addr len answer history q =
      stands-still P S K w (Read addr len answer) j s history (quiet-kind (Read addr len answer) refl refl refl refl refl refl refl refl refl refl refl) refl refl l
      (seat-unread S K w old mine addr len answer (omega (arith, history.fits)) (mine.memory_is ∙ ap (place_of_group K) q))

-- a number that is found is that of a row
pub number-bound : (first : ℕ) (rows : List Call) (x k : ℕ) → number_named first rows x ≡ Some k → k < length rows
number-bound first rows x k q = by (slice_get rows (number_of first x)) refl q
  where
    by : (o : Option Call) → slice_get rows (number_of first x) ≡ o → (if is_listed_row o then Some (number_of first x) else None) ≡ Some k → k < length rows
    by None z h = cc
    by (Some row) z h = listed row.is_listed z h
      where
        listed : (b : Bool) → slice_get rows (number_of first x) ≡ Some row → (if b then Some (number_of first x) else None) ≡ Some k → k < length rows
        listed true z h = let e : number_of first x ≡ k = cc in subst (λ (n : ℕ). n < length rows) e (slice_get_within rows (number_of first x) row z)
        listed false z h = cc

pub found-still : (P : Policy) (S : Script) (K : List Event) (w : ℕ) (j : Judge) (s : Stands P S K j) → w < 17 → (x : ℕ) → IsHistory S (ev (Worker w) (Check x (Ok tt)) ∷ K) → is_own_id K w x ≡ false → Stands P S (ev (Worker w) (Check x (Ok tt)) ∷ K) j
found-still P S K w j s l x history other =
    let r = get-within j.seats.items w (omega (arith, l, s.seats_are)) in
    found-other P S K w j s l r.0 (sym (get_or_from_slice_get j.seats.items w r.0 r.0 r.1)) x history other

-- a base is opened of a task that holds the PID
none-opened : (K : List Event) (o : Option ℕ) → opened K o ≡ None → o ≡ None
none-opened K None h = refl
none-opened K (Some t) h = cc

held-row : (S : System) (K : List Event) (w pid : ℕ) (d : ℤ) (o : Option ℕ) → o ≡ None → ◌≡◌ {A = Result (Unit {0}) ℕ} (Ok tt) (base_answer S K o d) → ⊥
held-row S K w pid d None q h = cc
held-row S K w pid d (Some t) q h = cc

pub base-held : (P : Policy) (S : Script) (K : List Event) (w : ℕ) (j : Judge) (pid : ℕ) (dirfd : ℤ) → IsHistory S (ev (Worker w) (OpenBase pid dirfd (Ok tt)) ∷ K) → opened K (holder K pid) ≡ None → Stands P S (ev (Worker w) (OpenBase pid dirfd (Ok tt)) ∷ K) j
base-held P S K w j pid dirfd history none =
    absurd (held-row (system_of S) K w pid dirfd (holder K pid) (none-opened K (holder K pid) none) (kernel-row-of (system_of S) K (ev (Worker w) (OpenBase pid dirfd (Ok tt))) history.of_kernel.0))

pub some-below : (o : Option ℕ) (g n m : ℕ) → o ≡ Some g → n ≡ m → IfSome o (λ k. k < n) → g < m
some-below o g n m q e h = let k = rw q at h in omega (arith, e, k)

pub refused-now : (S : Script) (K : List Event) (w pid : ℕ) (d : ℤ) (errno : ℕ) (b : Bool) → ((errno == ebadf) && of_call (session_call K w) (λ c. has_no_base S K c d)) ≡ true → refused_after S K w (OpenBase pid d (Err errno)) b ≡ true
refused-now S K w pid d errno b h = rw h refl

pub refused-still : (P : Policy) (S : Script) (K : List Event) (w : ℕ) (j : Judge) (s : Stands P S K j) → w < 17 → (pid : ℕ) (d : ℤ) (errno : ℕ) → IsHistory S (ev (Worker w) (OpenBase pid d (Err errno)) ∷ K)
    → ((errno == ebadf) && of_call (session_call K w) (λ c. has_no_base S K c d)) ≡ false → Stands P S (ev (Worker w) (OpenBase pid d (Err errno)) ∷ K) j
refused-still P S K w j s l pid d errno history f =
    stands-still P S K w (OpenBase pid d (Err errno)) j s history (quiet-kind (OpenBase pid d (Err errno)) refl refl refl refl refl refl refl refl refl refl refl) refl refl l
    (record {
      call_same = own-call S K w (OpenBase pid d (Err errno));
      reads_same = own-reads S K w (OpenBase pid d (Err errno));
      checked_same = own-checked S K w (OpenBase pid d (Err errno));
      effect_same = own-effect S K w (OpenBase pid d (Err errno));
      sent_same = own-sent S K w (OpenBase pid d (Err errno));
      refused_same = own-refused S K w (OpenBase pid d (Err errno)) ∙ rw f refl;
      memory_same = own-memory S K w (OpenBase pid d (Err errno));
      base_same = own-base S K w (OpenBase pid d (Err errno)) refl;
      worth_same = own-worth S K w (OpenBase pid d (Err errno));
    })
