-- What a worker's own steps make of what is kept of its seat.
-- By the look-backs for the worker, each of which takes the step.
use Rattle.std.proofs.Common.{◌≡◌, ℕ, ◌+◌, ◌<◌, ◌^◌, Bool, true, false, List, [], ◌∷◌, ◌++◌, length, map, refl, sym, ap, ◌∙◌, arith, Option, Some, None}
use Rattle.std.specs.Prelude.{get_or, reverse, Ok, Err, Result, ℤ}
use Rattle.std.proofs.lemmas.Bool.{eq-eqb}
use Rattle.std.proofs.lemmas.List.{length-append, length-map, map-append, reverse-append, take-append-le}
use Rattle.std.proofs.Math.Seq.{take-length}
use Rattle.std.proofs.lemmas.List.Elements.{All-append, All-cons, All-map}
use Rattle.broker_verdict.specs.Seats.{base_now, base_worth, base_worth_after, checked_after, confirmed, directory_opened, effect_after, effect_of, has_sent, is_base_refused, is_checked, is_effect, is_own_id, reads, reads_after, refused_after, SeatRead, sent_after, validated, Worth}
use Rattle.broker_judge.specs.Reads.{worth_of}
use Rattle.broker_verdict.specs.Seats.{Foreign, Fresh, Stale, Valid, worth_now}
use Rattle.hist_model.specs.Calls.{named}
use Rattle.hist_model.specs.Kinds.{notifies}
use Rattle.hist_model.specs.Look.{ev}
use Rattle.hist_model.specs.Steps.{call_after, mem, mem_after, opened, session_call}
use Rattle.hist_model.specs.Tasks.{holder}
use Rattle.hist_model.specs.Trees.{ordinal_of}
use Rattle.hist_model.specs.declared.event.Actor.TheVariants.{Worker}
use Rattle.hist_model.specs.declared.event.Back.{Back}
use Rattle.hist_model.specs.declared.event.Event.{Event}
use Rattle.hist_model.specs.declared.event.What.{What}
use Rattle.hist_model.specs.declared.event.What.TheVariants.{Check, LetGo, OpenBase, OpenMem, Read, Recv, Send}
use Rattle.hist_model.specs.declared.script.Script.{Script}
use Rattle.history_frames.specs.Ordinals.{count_of, groups_made, makes_group}
use Rattle.history_frames.proofs.Ordinals.{place-below, place-new}
use Rattle.sys_abi.specs.declared.wire.Notif.{Notif}
use Rattle.judge_pass.specs.Stands.{IsBelow, IsSeat, place_of_call, place_of_effect, place_of_group}
use Rattle.judge_pass.specs.Tables.{Begins, KeepsHandles}
use Rattle.judge_pass.specs.declared.seats.Seat.{Seat}
use Rattle.judge_pass.proofs.OpenFiles.{base-dropped, base-opened, moves_base}
use Rattle.judge_pass.proofs.Rows.{below-more, count-least}
use Rattle.judge_pass.proofs.SeatRows.{effect-kept, group-kept, LeavesSeat, longer, own-base, own-call, own-checked, own-effect, own-memory, own-reads, own-refused, own-sent, own-worth}
use Rattle.judge_pass.proofs.TaskRows.{call-kept}

confirmed-again : (r : SeatRead) → confirmed (confirmed r) ≡ confirmed r
confirmed-again r = ap (λ (v : Worth). record r { worth = v }) (again r.worth)
  where
    again : (v : Worth) → validated (validated v) ≡ validated v
    again Foreign = refl
    again Stale = refl
    again Fresh = refl
    again Valid = refl

map-reverse : (f : SeatRead → SeatRead) (xs : List SeatRead) → map f (reverse xs) ≡ reverse (map f xs)
map-reverse f [] = refl
map-reverse f (x ∷ xs) =
    ap (map f) (reverse-append (x ∷ []) xs) ∙ (map-append f (reverse xs) (x ∷ []) ∙ (ap (λ (ys : List SeatRead). ys ++ f x ∷ []) (map-reverse f xs) ∙ sym (reverse-append (f x ∷ []) (map f xs))))

-- ---- steps that change nothing of the seat

abbrev pub moves_seat : What → Bool
moves_seat (Recv (Ok n)) = true
moves_seat LetGo = true
moves_seat (OpenMem p (Ok u)) = true
moves_seat (OpenBase p d a) = true
moves_seat (Check x (Ok u)) = true
moves_seat (Read a l y) = true
moves_seat (Send x back y) = true
moves_seat w = is_effect w

module _ (S : Script) (K : List Event) (w : ℕ) (what : What) (h : moves_seat what ≡ false) where
  quiet-call : (o : Option ℕ) → call_after K what o ≡ o
  quiet-call o = grind arith

  quiet-reads : (all : List SeatRead) → reads_after K w what all ≡ all
  quiet-reads all = grind arith

  quiet-checked : (b : Bool) → checked_after K w what b ≡ b
  quiet-checked b = grind arith

  quiet-effect : (n : ℕ) (o : Option ℕ) → effect_after n what o ≡ o
  quiet-effect n o = grind arith

  quiet-sent : (b : Bool) → sent_after what b ≡ b
  quiet-sent b = grind arith

  quiet-refused : (b : Bool) → refused_after S K w what b ≡ b
  quiet-refused b = grind arith

  quiet-memory : (o : Option ℕ) → mem_after K what o ≡ o
  quiet-memory o = grind arith

  quiet-worth : (v : Worth) → base_worth_after S K w what v ≡ v
  quiet-worth v = grind arith

  quiet-base : moves_base what ≡ false
  quiet-base = grind arith

  pub quiet-seat : LeavesSeat S (ev (Worker w) what) K w
  quiet-seat = record {
    call_same = own-call S K w what ∙ quiet-call (session_call K w);
    reads_same = own-reads S K w what ∙ quiet-reads (reads K w);
    checked_same = own-checked S K w what ∙ quiet-checked (is_checked K w);
    effect_same = own-effect S K w what ∙ quiet-effect (length K) (effect_of K w);
    sent_same = own-sent S K w what ∙ quiet-sent (has_sent K w);
    refused_same = own-refused S K w what ∙ quiet-refused (is_base_refused S K w);
    memory_same = own-memory S K w what ∙ quiet-memory (mem K w);
    base_same = own-base S K w what quiet-base;
    worth_same = own-worth S K w what ∙ quiet-worth (base_worth S K w);
  }

-- ---- the others

module _ (S : Script) (K : List Event) (w : ℕ) (old : Seat) (h : IsSeat S K w old) where
  -- it receives a notification
  module _ (notif : Notif) (fits : length K + 1 < 2 ^ 64) where
    abbrev received : Event
    received = ev (Worker w) (Recv (Ok notif))

    pub seat-received : (new : Seat) (call : Option ℕ) → Begins (length K) call new → KeepsHandles old new → named K notif.id ≡ place_of_call K call → IsBelow (count_of notifies K) call → IsSeat S (received ∷ K) w new
    seat-received new call b k named_is made =
        record {
          call_is = own-call S K w (Recv (Ok notif)) ∙ (named_is ∙ (sym (call-kept received K call made) ∙ ap (place_of_call (received ∷ K)) (sym b.call_is)));
          call_made = rw b.call_is (below-more _ _ call (count-least notifies received K) made);
          received = λ z. rw b.place_is (omega arith);
          reads_are = own-reads S K w (Recv (Ok notif)) ∙ rw b.no_reads refl;
          followed = rw b.none_followed (λ i d l. absurd (omega arith));
          followed_some = rw b.none_followed (omega arith);
          read_at_are = rw (b.no_reads, b.no_places) refl;
          read_before = rw b.no_places (λ i d l. absurd (omega arith));
          checked_is = own-checked S K w (Recv (Ok notif)) ∙ sym b.unchecked;
          effect_is = own-effect S K w (Recv (Ok notif)) ∙ rw b.no_effect refl;
          effect_made = rw b.no_effect tt;
          sent_is = own-sent S K w (Recv (Ok notif)) ∙ sym b.unsent;
          refused_is = own-refused S K w (Recv (Ok notif)) ∙ sym b.unrefused;
          memory_is = rw k.memory_same (own-memory S K w (Recv (Ok notif)) ∙ (h.memory_is ∙ sym (group-kept received K old.memory h.memory_made)));
          memory_made = rw k.memory_same (below-more _ _ old.memory (count-least makes_group received K) h.memory_made);
          base_is = rw k.base_same (own-base S K w (Recv (Ok notif)) refl ∙ h.base_is);
          base_worth_is = own-worth S K w (Recv (Ok notif)) ∙ rw b.base_worthless refl;
        }

  -- it lets go
  module _ (fits : length K + 1 < 2 ^ 64) where
    abbrev let-go : Event
    let-go = ev (Worker w) LetGo

    pub seat-let-go : (new : Seat) → Begins (length K) None new → new.memory ≡ None → new.base ≡ None → IsSeat S (let-go ∷ K) w new
    seat-let-go new b no_memory no_base = record {
      call_is = own-call S K w LetGo ∙ rw b.call_is refl;
      call_made = rw b.call_is tt;
      received = λ z. let k = rw b.call_is at z in cc;
      reads_are = own-reads S K w LetGo ∙ rw b.no_reads refl;
      followed = rw b.none_followed (λ i d l. absurd (omega arith));
      followed_some = rw b.none_followed (omega arith);
      read_at_are = rw (b.no_reads, b.no_places) refl;
      read_before = rw b.no_places (λ i d l. absurd (omega arith));
      checked_is = own-checked S K w LetGo ∙ sym b.unchecked;
      effect_is = own-effect S K w LetGo ∙ rw b.no_effect refl;
      effect_made = rw b.no_effect tt;
      sent_is = own-sent S K w LetGo ∙ sym b.unsent;
      refused_is = own-refused S K w LetGo ∙ sym b.unrefused;
      memory_is = own-memory S K w LetGo ∙ rw no_memory refl;
      memory_made = rw no_memory tt;
      base_is = base-dropped S let-go K w (eq-eqb w w refl) refl ∙ rw no_base refl;
      base_worth_is = own-worth S K w LetGo ∙ rw b.base_worthless refl;
    }

  -- it opens a memory
  module _ (pid : ℕ) (fits : length K + 1 < 2 ^ 64) where
    abbrev memory-opened : Event
    memory-opened = ev (Worker w) (OpenMem pid (Ok tt))

    pub seat-memory : (m : Option ℕ) → opened K (holder K pid) ≡ place_of_group K m → IsBelow (groups_made K) m → IsSeat S (memory-opened ∷ K) w (record old { memory = m; is_checked = false })
    seat-memory m is made =
        let what = OpenMem pid (Ok tt) in
        let e = memory-opened in
        record {
          call_is = own-call S K w what ∙ (h.call_is ∙ sym (call-kept e K old.call h.call_made));
          call_made = below-more _ _ old.call (count-least notifies e K) h.call_made;
          received = λ b. let a = h.received b in omega (arith, a);
          reads_are = own-reads S K w what ∙ h.reads_are;
          followed = h.followed;
          followed_some = h.followed_some;
          read_at_are = h.read_at_are;
          read_before = longer K e old.read_at.items h.read_before;
          checked_is = own-checked S K w what;
          effect_is = own-effect S K w what ∙ (h.effect_is ∙ sym (effect-kept e K old.effect h.effect_made));
          effect_made = below-more _ _ old.effect (count-least is_effect e K) h.effect_made;
          sent_is = own-sent S K w what ∙ h.sent_is;
          refused_is = own-refused S K w what ∙ h.refused_is;
          memory_is = own-memory S K w what ∙ (is ∙ sym (group-kept e K m made));
          memory_made = below-more _ _ m (count-least makes_group e K) made;
          base_is = own-base S K w what refl ∙ h.base_is;
          base_worth_is = own-worth S K w what ∙ h.base_worth_is;
        }

  -- it opens a directory
  module _ (pid : ℕ) (dirfd : ℤ) (fits : length K + 1 < 2 ^ 64) where
    abbrev base-open : Event
    base-open = ev (Worker w) (OpenBase pid dirfd (Ok tt))

    pub seat-base : (new : Seat) → new ≡ record old { base = new.base; base_worth = new.base_worth } → directory_opened S K pid dirfd ≡ ordinal_of new.base
        → base_now S K (session_call K w) (directory_opened S K pid dirfd) ≡ worth_of new.base_worth → IsSeat S (base-open ∷ K) w new
    seat-base new rest base worth =
        let what = OpenBase pid dirfd (Ok tt) in
        let e = base-open in
        rw rest (record {
          call_is = own-call S K w what ∙ (h.call_is ∙ sym (call-kept e K old.call h.call_made));
          call_made = below-more _ _ old.call (count-least notifies e K) h.call_made;
          received = λ b. let a = h.received b in omega (arith, a);
          reads_are = own-reads S K w what ∙ h.reads_are;
          followed = h.followed;
          followed_some = h.followed_some;
          read_at_are = h.read_at_are;
          read_before = longer K e old.read_at.items h.read_before;
          checked_is = own-checked S K w what ∙ h.checked_is;
          effect_is = own-effect S K w what ∙ (h.effect_is ∙ sym (effect-kept e K old.effect h.effect_made));
          effect_made = below-more _ _ old.effect (count-least is_effect e K) h.effect_made;
          sent_is = own-sent S K w what ∙ h.sent_is;
          refused_is = own-refused S K w what ∙ h.refused_is;
          memory_is = own-memory S K w what ∙ (h.memory_is ∙ sym (group-kept e K old.memory h.memory_made));
          memory_made = below-more _ _ old.memory (count-least makes_group e K) h.memory_made;
          base_is = base-opened S e K w pid dirfd tt refl refl ∙ base;
          base_worth_is = own-worth S K w what ∙ worth;
        })

  -- it is answered that it can't
  module _ (pid : ℕ) (dirfd : ℤ) (errno : ℕ) (fits : length K + 1 < 2 ^ 64) where
    abbrev base-refused : Event
    base-refused = ev (Worker w) (OpenBase pid dirfd (Err errno))

    pub seat-refused : (b : Bool) → refused_after S K w (OpenBase pid dirfd (Err errno)) old.is_base_refused ≡ b → IsSeat S (base-refused ∷ K) w (record old { is_base_refused = b })
    seat-refused b is =
        let what = OpenBase pid dirfd (Err errno) in
        let e = base-refused in
        record {
          call_is = own-call S K w what ∙ (h.call_is ∙ sym (call-kept e K old.call h.call_made));
          call_made = below-more _ _ old.call (count-least notifies e K) h.call_made;
          received = λ b. let a = h.received b in omega (arith, a);
          reads_are = own-reads S K w what ∙ h.reads_are;
          followed = h.followed;
          followed_some = h.followed_some;
          read_at_are = h.read_at_are;
          read_before = longer K e old.read_at.items h.read_before;
          checked_is = own-checked S K w what ∙ h.checked_is;
          effect_is = own-effect S K w what ∙ (h.effect_is ∙ sym (effect-kept e K old.effect h.effect_made));
          effect_made = below-more _ _ old.effect (count-least is_effect e K) h.effect_made;
          sent_is = own-sent S K w what ∙ h.sent_is;
          refused_is = own-refused S K w what ∙ (ap (refused_after S K w what) h.refused_is ∙ is);
          memory_is = own-memory S K w what ∙ (h.memory_is ∙ sym (group-kept e K old.memory h.memory_made));
          memory_made = below-more _ _ old.memory (count-least makes_group e K) h.memory_made;
          base_is = own-base S K w what refl ∙ h.base_is;
          base_worth_is = own-worth S K w what ∙ h.base_worth_is;
        }

  -- it sends an answer
  module _ (x : ℕ) (back : Back) (answer : Result (Unit {0}) ℕ) (fits : length K + 1 < 2 ^ 64) where
    abbrev sending : Event
    sending = ev (Worker w) (Send x back answer)

    pub seat-sent : IsSeat S (sending ∷ K) w (record old { has_sent = true })
    seat-sent =
        let what = Send x back answer in
        let e = sending in
        record {
          call_is = own-call S K w what ∙ (h.call_is ∙ sym (call-kept e K old.call h.call_made));
          call_made = below-more _ _ old.call (count-least notifies e K) h.call_made;
          received = λ b. let a = h.received b in omega (arith, a);
          reads_are = own-reads S K w what ∙ h.reads_are;
          followed = h.followed;
          followed_some = h.followed_some;
          read_at_are = h.read_at_are;
          read_before = longer K e old.read_at.items h.read_before;
          checked_is = own-checked S K w what ∙ h.checked_is;
          effect_is = own-effect S K w what ∙ (h.effect_is ∙ sym (effect-kept e K old.effect h.effect_made));
          effect_made = below-more _ _ old.effect (count-least is_effect e K) h.effect_made;
          sent_is = own-sent S K w what;
          refused_is = own-refused S K w what ∙ h.refused_is;
          memory_is = own-memory S K w what ∙ (h.memory_is ∙ sym (group-kept e K old.memory h.memory_made));
          memory_made = below-more _ _ old.memory (count-least makes_group e K) h.memory_made;
          base_is = own-base S K w what refl ∙ h.base_is;
          base_worth_is = own-worth S K w what ∙ h.base_worth_is;
        }

  -- it does an effect
  module _ (what : What) (is : is_effect what ≡ true) (fits : length K + 1 < 2 ^ 64) where
    abbrev doing : Event
    doing = ev (Worker w) what

    effect-call : (o : Option ℕ) → call_after K what o ≡ o
    effect-call o = grind arith

    effect-reads : (all : List SeatRead) → reads_after K w what all ≡ all
    effect-reads all = grind arith

    effect-checked : (b : Bool) → checked_after K w what b ≡ b
    effect-checked b = grind arith

    effect-now : (n : ℕ) (o : Option ℕ) → effect_after n what o ≡ Some n
    effect-now n o = grind arith

    effect-sent : (b : Bool) → sent_after what b ≡ b
    effect-sent b = grind arith

    effect-refused : (b : Bool) → refused_after S K w what b ≡ b
    effect-refused b = grind arith

    effect-memory : (o : Option ℕ) → mem_after K what o ≡ o
    effect-memory o = grind arith

    effect-worth : (v : Worth) → base_worth_after S K w what v ≡ v
    effect-worth v = grind arith

    effect-base : moves_base what ≡ false
    effect-base = grind arith

    pub seat-did : IsSeat S (doing ∷ K) w (record old { effect = Some (count_of is_effect K) })
    seat-did =
        let e = doing in
        let here = place-new is_effect e K is in
        record {
          call_is = own-call S K w what ∙ (effect-call (session_call K w) ∙ (h.call_is ∙ sym (call-kept e K old.call h.call_made)));
          call_made = below-more _ _ old.call (count-least notifies e K) h.call_made;
          received = λ b. let a = h.received b in omega (arith, a);
          reads_are = own-reads S K w what ∙ (effect-reads (reads K w) ∙ h.reads_are);
          followed = h.followed;
          followed_some = h.followed_some;
          read_at_are = h.read_at_are;
          read_before = longer K e old.read_at.items h.read_before;
          checked_is = own-checked S K w what ∙ (effect-checked (is_checked K w) ∙ h.checked_is);
          effect_is = own-effect S K w what ∙ (effect-now (length K) (effect_of K w) ∙ sym here);
          effect_made = (place-below is_effect (e ∷ K) (count_of is_effect K) (length K) here).0;
          sent_is = own-sent S K w what ∙ (effect-sent (has_sent K w) ∙ h.sent_is);
          refused_is = own-refused S K w what ∙ (effect-refused (is_base_refused S K w) ∙ h.refused_is);
          memory_is = own-memory S K w what ∙ (effect-memory (mem K w) ∙ (h.memory_is ∙ sym (group-kept e K old.memory h.memory_made)));
          memory_made = below-more _ _ old.memory (count-least makes_group e K) h.memory_made;
          base_is = own-base S K w what effect-base ∙ h.base_is;
          base_worth_is = own-worth S K w what ∙ (effect-worth (base_worth S K w) ∙ h.base_worth_is);
        }

  -- it finds the notification of its call valid
  module _ (x : ℕ) (fits : length K + 1 < 2 ^ 64) where
    abbrev valid : Event
    valid = ev (Worker w) (Check x (Ok tt))

    pub seat-checked : is_own_id K w x ≡ true → (new : Seat) → new ≡ record old { reads = new.reads; followed = new.followed; is_checked = new.is_checked; base_worth = new.base_worth } → new.reads.items ≡ map (λ r. confirmed r) old.reads.items
        → new.followed ≡ length new.reads.items → new.is_checked ≡ true → worth_of new.base_worth ≡ validated (worth_of old.base_worth) → IsSeat S (valid ∷ K) w new
    seat-checked mine new rest items followed_all checked worth =
        let what = Check x (Ok tt) in
        let e = valid in
        let long : length new.reads.items ≡ length old.reads.items = ap length items ∙ length-map old.reads.items (λ (r : SeatRead). confirmed r) in
        record {
          call_is = own-call S K w what ∙ (h.call_is ∙ (sym (call-kept e K old.call h.call_made) ∙ ap (λ (s : Seat). place_of_call (e ∷ K) s.call) (sym rest)));
          call_made = rw (ap (λ (s : Seat). s.call) rest) (below-more _ _ old.call (count-least notifies e K) h.call_made);
          received = λ b. let a = h.received (rw (ap (λ (s : Seat). s.call) rest) at b) in rw (ap (λ (s : Seat). s.received_at) rest) (omega (arith, a));
          reads_are = own-reads S K w what ∙ (rw (mine, items) (ap (map (λ r. confirmed r)) h.reads_are ∙ map-reverse (λ r. confirmed r) old.reads.items));
          followed = rw (followed_all, take-length new.reads.items, items) (All-map (λ r. confirmed r ≡ r) (λ r. confirmed r) old.reads.items (λ k d l. confirmed-again (get_or old.reads.items k d)));
          followed_some = rw followed_all (omega arith);
          read_at_are = rw (ap (λ (s : Seat). length s.read_at.items) rest) (h.read_at_are ∙ sym long);
          read_before = rw (ap (λ (s : Seat). s.read_at.items) rest) (longer K e old.read_at.items h.read_before);
          checked_is = own-checked S K w what ∙ rw (mine, checked) refl;
          effect_is = own-effect S K w what ∙ (h.effect_is ∙ (sym (effect-kept e K old.effect h.effect_made) ∙ ap (λ (s : Seat). place_of_effect (e ∷ K) s.effect) (sym rest)));
          effect_made = rw (ap (λ (s : Seat). s.effect) rest) (below-more _ _ old.effect (count-least is_effect e K) h.effect_made);
          sent_is = own-sent S K w what ∙ (h.sent_is ∙ ap (λ (s : Seat). s.has_sent) (sym rest));
          refused_is = own-refused S K w what ∙ (h.refused_is ∙ ap (λ (s : Seat). s.is_base_refused) (sym rest));
          memory_is = own-memory S K w what ∙ (h.memory_is ∙ (sym (group-kept e K old.memory h.memory_made) ∙ ap (λ (s : Seat). place_of_group (e ∷ K) s.memory) (sym rest)));
          memory_made = rw (ap (λ (s : Seat). s.memory) rest) (below-more _ _ old.memory (count-least makes_group e K) h.memory_made);
          base_is = own-base S K w what refl ∙ (h.base_is ∙ ap (λ (s : Seat). ordinal_of s.base) (sym rest));
          base_worth_is = own-worth S K w what ∙ (rw mine (ap validated h.base_worth_is) ∙ sym worth);
        }

    pub seat-unchecked : is_own_id K w x ≡ false → LeavesSeat S valid K w
    seat-unchecked other =
        let what = Check x (Ok tt) in
        record {
          call_same = own-call S K w what;
          reads_same = own-reads S K w what ∙ rw other refl;
          checked_same = own-checked S K w what ∙ rw other refl;
          effect_same = own-effect S K w what;
          sent_same = own-sent S K w what;
          refused_same = own-refused S K w what;
          memory_same = own-memory S K w what;
          base_same = own-base S K w what refl;
          worth_same = own-worth S K w what ∙ rw other refl;
        }

  -- it reads
  module _ (addr len : ℕ) (answer : Result (List ℕ) ℕ) (fits : length K + 1 < 2 ^ 64) where
    abbrev reading : Event
    reading = ev (Worker w) (Read addr len answer)

    pub seat-unread : mem K w ≡ None → LeavesSeat S reading K w
    seat-unread none =
        let what = Read addr len answer in
        record {
          call_same = own-call S K w what;
          reads_same = own-reads S K w what ∙ rw none refl;
          checked_same = own-checked S K w what;
          effect_same = own-effect S K w what;
          sent_same = own-sent S K w what;
          refused_same = own-refused S K w what;
          memory_same = own-memory S K w what;
          base_same = own-base S K w what refl;
          worth_same = own-worth S K w what;
        }

    pub seat-read : (m g : ℕ) → mem K w ≡ Some m → (new : Seat) → new ≡ record old { reads = new.reads; read_at = new.read_at } → (worth : Worth) → worth ≡ worth_now K (session_call K w) m
        → new.reads.items ≡ old.reads.items ++ record { addr = addr; len = len; answer = answer; worth = worth } ∷ [] → new.read_at.items ≡ old.read_at.items ++ (length K, g) ∷ [] → IsSeat S (reading ∷ K) w new
    seat-read m g is new rest worth now items places =
        let what = Read addr len answer in
        let e = reading in
        let x : SeatRead = record { addr = addr; len = len; answer = answer; worth = worth } in
        record {
          call_is = own-call S K w what ∙ (h.call_is ∙ (sym (call-kept e K old.call h.call_made) ∙ ap (λ (s : Seat). place_of_call (e ∷ K) s.call) (sym rest)));
          call_made = rw (ap (λ (s : Seat). s.call) rest) (below-more _ _ old.call (count-least notifies e K) h.call_made);
          received = λ b. let a = h.received (rw (ap (λ (s : Seat). s.call) rest) at b) in rw (ap (λ (s : Seat). s.received_at) rest) (omega (arith, a));
          reads_are = own-reads S K w what ∙ rw (is, items, ← now) (ap (λ (rs : List SeatRead). x ∷ rs) h.reads_are ∙ sym (reverse-append old.reads.items (x ∷ [])));
          followed = rw (ap (λ (s : Seat). s.followed) rest, items, take-append-le old.followed old.reads.items (x ∷ []) h.followed_some) h.followed;
          followed_some = rw (ap (λ (s : Seat). s.followed) rest, items) (omega (arith, h.followed_some, length-append old.reads.items (x ∷ [])));
          read_at_are = ap length places ∙ (length-append old.read_at.items ((length K, g) ∷ []) ∙ (ap (λ (n : ℕ). n + 1) h.read_at_are ∙ (sym (length-append old.reads.items (x ∷ [])) ∙ ap length (sym items))));
          read_before = rw places (All-append (λ (r : ℕ × ℕ). r.0 < length (e ∷ K)) old.read_at.items ((length K, g) ∷ []) (longer K e old.read_at.items h.read_before)
              (All-cons (λ (r : ℕ × ℕ). r.0 < length (e ∷ K)) (length K, g) [] (omega arith) (λ k d l. absurd (omega arith))));
          checked_is = own-checked S K w what ∙ (h.checked_is ∙ ap (λ (s : Seat). s.is_checked) (sym rest));
          effect_is = own-effect S K w what ∙ (h.effect_is ∙ (sym (effect-kept e K old.effect h.effect_made) ∙ ap (λ (s : Seat). place_of_effect (e ∷ K) s.effect) (sym rest)));
          effect_made = rw (ap (λ (s : Seat). s.effect) rest) (below-more _ _ old.effect (count-least is_effect e K) h.effect_made);
          sent_is = own-sent S K w what ∙ (h.sent_is ∙ ap (λ (s : Seat). s.has_sent) (sym rest));
          refused_is = own-refused S K w what ∙ (h.refused_is ∙ ap (λ (s : Seat). s.is_base_refused) (sym rest));
          memory_is = own-memory S K w what ∙ (h.memory_is ∙ (sym (group-kept e K old.memory h.memory_made) ∙ ap (λ (s : Seat). place_of_group (e ∷ K) s.memory) (sym rest)));
          memory_made = rw (ap (λ (s : Seat). s.memory) rest) (below-more _ _ old.memory (count-least makes_group e K) h.memory_made);
          base_is = own-base S K w what refl ∙ (h.base_is ∙ ap (λ (s : Seat). ordinal_of s.base) (sym rest));
          base_worth_is = own-worth S K w what ∙ (h.base_worth_is ∙ ap (λ (s : Seat). worth_of s.base_worth) (sym rest));
        }
