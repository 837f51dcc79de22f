-- Where the judge stands for a history, the numbers that it keeps are those of rows that it keeps, and there is room for one more event.
-- By the rows' own facts, and since there are no more of a kind than events.
use Rattle.std.proofs.Common.{◌≡◌, ℕ, ◌+◌, ◌<◌, ◌≤◌, ◌^◌, true, List, [], ◌∷◌, length, ap, sym, ◌∙◌, arith, Option, Some, None}
use Rattle.std.specs.Prelude.{get_or, All, IfSome, reverse}
use Rattle.std.proofs.lemmas.List.{length-reverse}
use Rattle.std.proofs.lemmas.List.Elements.{All-cons, All-nil}
use Rattle.broker_judge.proofs.Answered.{seat_answered}
use Rattle.broker_judge.specs.Copied.{IsAnswered}
use Rattle.broker_verdict.specs.Seats.{is_effect, reads, SeatRead}
use Rattle.hist_model.specs.Kinds.{makes, notifies, starts}
use Rattle.hist_model.specs.declared.event.Event.{Event}
use Rattle.hist_model.specs.declared.policy.Policy.{Policy}
use Rattle.hist_model.specs.declared.script.Script.{Script}
use Rattle.history_frames.specs.Ordinals.{count_of, groups_made, task_name_of, tasks_made}
use Rattle.history_frames.proofs.Ordinals.{made-more, place-below}
use Rattle.model_kernel.proofs.Numbers.{groups-few}
use Rattle.judge_pass.specs.Counted.{HasRoom, is_answering}
use Rattle.judge_pass.specs.Stands.{AreQueued, IsBelow, IsHistory, IsPutOf, Stands}
use Rattle.judge_pass.specs.Tables.{AreMade}
use Rattle.judge_pass.specs.Takes.{HasFollowed}
use Rattle.judge_pass.specs.Within.{AreAmong, calls_kept, effects_kept, IsCallWithin, IsDoneWithin, IsSeatWithin, IsTaskWithin, IsWithin, tasks_kept}
use Rattle.judge_pass.specs.declared.calls.Call.{Call}
use Rattle.judge_pass.specs.declared.calls.Queued.{Queued}
use Rattle.judge_pass.specs.declared.done.Done.{Done}
use Rattle.judge_pass.specs.declared.done.Put.{Put}
use Rattle.judge_pass.specs.declared.judge.Judge.{Judge}
use Rattle.judge_pass.specs.declared.seats.Seat.{Seat}
use Rattle.judge_pass.specs.declared.task_table.Task.{Task}
use Rattle.judge_pass.proofs.EffectsFor.{AllBelow, effects_below}
use Rattle.judge_pass.proofs.Rows.{count-below}

below-if : (n m : ℕ) (o : Option ℕ) → m ≡ n → IsBelow n o → IfSome o (λ x. x < m)
below-if n m None q h = tt
below-if n m (Some x) q h = omega (arith, q, h)

all-below : (limit : ℕ) (ms : List ℕ) → AllBelow limit ms → All (λ m. m < limit) ms
all-below limit [] all = All-nil (λ (m : ℕ). m < limit)
all-below limit (m ∷ ms) all = All-cons (λ (k : ℕ). k < limit) m ms all.0 (all-below limit ms all.1)

queue-below : (K : List Event) (rs : List ℕ) (qs : List Queued) → AreQueued K rs qs → All (λ q. q.effect < count_of is_effect K) qs
unfolding AreQueued
queue-below K [] [] h = All-nil (λ (q : Queued). q.effect < count_of is_effect K)
queue-below K (r ∷ rs) (q ∷ qs) h =
    All-cons (λ (p : Queued). p.effect < count_of is_effect K) q qs (place-below is_effect K q.effect r h.0.place_is).0 (queue-below K rs qs h.1)
queue-below K [] (q ∷ qs) h = absurd h
queue-below K (r ∷ rs) [] h = absurd h

put-below : (K : List Event) (place m : ℕ) (o : Option Put) → m ≡ count_of notifies K → IsPutOf K place o → IfSome o (λ put. IfSome put.call (λ c. c < m))
put-below K place m None q h = tt
put-below K place m (Some put) q h = below-if (count_of notifies K) m put.call q h.call_made

seat-number : (o : Option ℕ) → IsBelow 17 o → IfSome o (λ w. w ≤ 16)
seat-number None h = tt
seat-number (Some w) h = omega (arith, h)

-- the reads of a seat are answered as the kernel answers, where there are none yet too
answered-so : (S : Script) (K : List Event) (w : ℕ) (seat : List SeatRead) → IsHistory S K → reads K w ≡ reverse seat → All IsAnswered seat
unfolding reads
answered-so S [] w seat history q =
    let none : length seat ≡ 0 = sym (length-reverse seat) ∙ ap length (sym q) in
    λ k d l. absurd (omega (arith, none, l))
answered-so S (e ∷ K) w seat history q = seat_answered S (e ∷ K) w seat (history.of_kernel, history.fits, omega arith) q

module _ (P : Policy) (S : Script) (K : List Event) (j : Judge) (s : Stands P S K j) where
  task-within : (o : ℕ) (d : Task) → o < tasks_kept j → IsTaskWithin j (get_or j.tasks.items o d)
  task-within o d l =
      let t = s.tasks o d (omega (arith, l, s.tasks_are)) in
      record {
        group = omega (arith, t.group_made, s.groups_are);
        call = below-if (count_of notifies K) (calls_kept j) (get_or j.tasks.items o d).call s.calls_are t.call_made;
        untold = rw (t.untold_are, s.done_are) (all-below (count_of is_effect K) _ (effects_below K (task_name_of K o)));
      }

  call-within : (n : ℕ) (d : Call) → n < calls_kept j → IsCallWithin j (get_or j.calls.rows.items n d)
  call-within n d l =
      let c = s.calls n d (omega (arith, l, s.calls_are)) in
      record {
        caller = omega (arith, c.caller_made, s.tasks_are);
        fetcher = seat-number (get_or j.calls.rows.items n d).fetcher c.fetcher_seat;
        queue = rw s.done_are (queue-below K _ (get_or j.calls.rows.items n d).queue.items c.queue_is);
      }

  done-within : (n : ℕ) (d : Done) → n < effects_kept j → IsDoneWithin j (get_or j.done.items n d)
  done-within n d l =
      let x = s.done n d (omega (arith, l, s.done_are)) in
      record {
        call = omega (arith, x.call_made, s.calls_are);
        put = put-below K (get_or j.done.items n d).place (calls_kept j) (get_or j.done.items n d).put s.calls_are x.put_is;
      }

  seat-within : (w : ℕ) (d : Seat) → w < 17 → IsSeatWithin j (get_or j.seats.items w d)
  seat-within w d l =
      let x = s.seats w d l in
      let seat = get_or j.seats.items w d in
      record {
        call = below-if (count_of notifies K) (calls_kept j) seat.call s.calls_are x.call_made;
        effect = below-if (count_of is_effect K) (effects_kept j) seat.effect s.done_are x.effect_made;
        memory = below-if (groups_made K) j.groups seat.memory s.groups_are x.memory_made;
        answered = answered-so S K w seat.reads.items s.history x.reads_are;
        read_at = x.read_at_are;
      }

  pub stands-within : IsWithin j
  stands-within = record { seats_are = s.seats_are; tasks = task-within; calls = call-within; done = done-within; seats = seat-within }

  pub stands-among : (n : ℕ) → n ≡ length K → AreAmong n j
  stands-among n q i d l =
      let x = s.done i d (omega (arith, l, s.done_are)) in
      let b = (place-below is_effect K i (get_or j.done.items i d).place x.place_is).1 in
      omega (arith, b, q)

  pub stands-followed : (w : ℕ) → w < 17 → HasFollowed w j
  stands-followed w l = record { some = λ d. (s.seats w d l).followed_some; all = λ d. (s.seats w d l).followed }

  pub stands-made : AreMade j.groups j.directories.rows.items
  stands-made = rw s.groups_are s.directories_made

  -- there are fewer events than numbers of 64 bits, with one more event too
  pub stands-room : (e : Event) → IsHistory S (e ∷ K) → HasRoom j.counts
  stands-room e history =
      let fits = history.fits in
      record {
        for_call = let b = count-below starts K in omega (arith, b, fits, s.counts.calls_are);
        for_effect = let b = count-below is_effect K in omega (arith, b, fits, s.counts.effects_are);
        for_answer = let b = count-below is_answering K in omega (arith, b, fits, s.counts.answers_are);
      }

  -- an event that makes a task can make one more group
  pub stands-group : (e : Event) → tasks_made (e ∷ K) < 2 ^ 32 → makes e.what ≡ true → j.groups + 1 < 2 ^ 32
  stands-group e few h = let b = groups-few K in omega (arith, b, few, made-more makes e K h, s.groups_are)
