-- What is kept, table by table: which tables stand for the history after an event that leaves them.
-- By what the event leaves of each row.
use Rattle.std.proofs.Common.{◌≡◌, ℕ, ◌+◌, ◌<◌, ◌^◌, true, false, List, [], ◌∷◌, ◌++◌, length, sym, ap, ◌∙◌, subst, arith, inl, inr}
use Rattle.std.specs.Prelude.{get_or}
use Rattle.std.proofs.Math.ListN.{set}
use Rattle.std.proofs.lemmas.Bool.{cases_Bool, eqb-true}
use Rattle.std.proofs.lemmas.List.{length-append, length-set}
use Rattle.broker_judge.specs.Called.{Counts}
use Rattle.broker_verdict.specs.Effects.{done_by, is_done}
use Rattle.broker_verdict.specs.Seats.{is_effect}
use Rattle.hist_model.specs.Calls.{named}
use Rattle.hist_model.specs.Kinds.{makes, starts}
use Rattle.hist_model.specs.Look.{ev, is_worker}
use Rattle.hist_model.specs.ScriptRules.{IsScript}
use Rattle.hist_model.specs.declared.event.Actor.TheVariants.{Worker}
use Rattle.hist_model.specs.declared.event.Event.{Event}
use Rattle.hist_model.specs.declared.event.What.{What}
use Rattle.hist_model.specs.declared.policy.Policy.{Policy}
use Rattle.hist_model.specs.declared.script.Script.{Script}
use Rattle.history_frames.specs.Ordinals.{groups_made, task_name_of, tasks_made}
use Rattle.history_frames.proofs.Ordinals.{made-more, made-same}
use Rattle.judge_pass.specs.Counted.{AreCounted, is_answering}
use Rattle.judge_pass.specs.Stands.{IsHistory, IsSeat, IsTask, place_of_call, Stands}
use Rattle.judge_pass.specs.Tables.{number_named}
use Rattle.judge_pass.specs.declared.judge.Counts.{Counts as JudgeCounts}
use Rattle.judge_pass.specs.declared.judge.Judge.{Judge}
use Rattle.judge_pass.specs.declared.seats.Seat.{Seat}
use Rattle.judge_pass.specs.declared.task_table.Task.{Task}
use Rattle.judge_pass.proofs.DoneRows.{AreDone}
use Rattle.judge_pass.proofs.NamedCalls.{AreCalls, named-by-number}
use Rattle.judge_pass.proofs.OpenRows.{AreOpen}
use Rattle.judge_pass.proofs.Rows.{rows-push, rows-set}
use Rattle.judge_pass.proofs.SeatRows.{LeavesSeat, other-seat, seat-row-kept}
use Rattle.judge_pass.proofs.TaskRows.{LeavesTask, task-kept}

-- ---- tasks

pub record AreTasks (K : List Event) (rows : List Task) : Type 0 where
  pub number : length rows ≡ tasks_made K
  pub each : (o : ℕ) (d : Task) → o < tasks_made K → IsTask K o (get_or rows o d)

pub tasks-same : (e : Event) (K : List Event) (rows : List Task) → AreTasks K rows → makes e.what ≡ false → ((o : ℕ) → o < tasks_made K → LeavesTask e K (task_name_of K o)) → AreTasks (e ∷ K) rows
tasks-same e K rows all f leave =
    let m = made-same makes e K f in
    record {
      number = all.number ∙ sym m;
      each = λ o d l. let b : o < tasks_made K = rw m at l in task-kept e K o (get_or rows o d) b (all.each o d b) (leave o b);
    }

pub tasks-moved : (e : Event) (K : List Event) (rows : List Task) → AreTasks K rows → makes e.what ≡ false → (k : ℕ) (new : Task) → IsTask (e ∷ K) k new
    → ((o : ℕ) → o < tasks_made K → (o ≡ k → ⊥) → LeavesTask e K (task_name_of K o)) → (rows' : List Task) → rows' ≡ set rows k new → AreTasks (e ∷ K) rows'
tasks-moved e K rows all f k new now leave rows' q =
    let m = made-same makes e K f in
    record {
      number = rw q (length-set rows k new) ∙ (all.number ∙ sym m);
      each = λ o d l.
          rows-set (IsTask (e ∷ K)) rows rows' k new q
          (λ i x il a. let b : i < tasks_made K = omega (arith, il, all.number) in task-kept e K i (get_or rows i x) b (all.each i x b) (leave i b a))
          now o d (omega (arith, l, m, all.number));
    }

pub tasks-pushed : (e : Event) (K : List Event) (rows : List Task) → AreTasks K rows → makes e.what ≡ true → (new : Task) → IsTask (e ∷ K) (tasks_made K) new
    → ((o : ℕ) → o < tasks_made K → LeavesTask e K (task_name_of K o)) → (rows' : List Task) → rows' ≡ rows ++ new ∷ [] → AreTasks (e ∷ K) rows'
tasks-pushed e K rows all h new now leave rows' q =
    let m = made-more makes e K h in
    record {
      number = rw q (length-append rows (new ∷ [])) ∙ (ap (λ (n : ℕ). n + 1) all.number ∙ sym m);
      each = λ o d l.
          rows-push (IsTask (e ∷ K)) rows rows' new q
          (λ i x il. let b : i < tasks_made K = omega (arith, il, all.number) in task-kept e K i (get_or rows i x) b (all.each i x b) (leave i b))
          (subst (λ (n : ℕ). IsTask (e ∷ K) n new) (sym all.number) now) o d (omega (arith, l, m, all.number));
    }

-- ---- seats

pub record AreSeats (S : Script) (K : List Event) (rows : List Seat) : Type 0 where
  pub number : length rows ≡ 17
  pub each : (w : ℕ) (d : Seat) → w < 17 → IsSeat S K w (get_or rows w d)

pub seats-same : (S : Script) (e : Event) (K : List Event) (rows : List Seat) → AreSeats S K rows → length (e ∷ K) < 2 ^ 64 → ((w : ℕ) → w < 17 → LeavesSeat S e K w) → AreSeats S (e ∷ K) rows
seats-same S e K rows all fits leave = record { number = all.number; each = λ w d l. seat-row-kept S e K w (get_or rows w d) fits (all.each w d l) (leave w l) }

-- one worker's step
pub seats-moved : (S : Script) (K : List Event) (w : ℕ) (what : What) (rows : List Seat) → AreSeats S K rows → length (ev (Worker w) what ∷ K) < 2 ^ 64 → (new : Seat) → IsSeat S (ev (Worker w) what ∷ K) w new
    → (rows' : List Seat) → rows' ≡ set rows w new → AreSeats S (ev (Worker w) what ∷ K) rows'
seats-moved S K w what rows all fits new now rows' q = record {
  number = rw q (length-set rows w new) ∙ all.number;
  each = λ v d l.
      rows-set (IsSeat S (ev (Worker w) what ∷ K)) rows rows' w new q
      (λ i x il a. seat-row-kept S (ev (Worker w) what) K i (get_or rows i x) fits (all.each i x (omega (arith, il, all.number))) (other-seat S (ev (Worker w) what) K i (apart i a)))
      now v d (omega (arith, l, all.number));
}
  where
    apart : (i : ℕ) → (i ≡ w → ⊥) → is_worker (Worker w) i ≡ false
    apart i a = elim (cases_Bool (is_worker (Worker w) i)) [ inr f ↦ f | inl t ↦ absurd (a (sym (eqb-true w i t))) ]

-- ---- times, and counts

pub times-same : (P : Policy) (e : Event) (K : List Event) (times : List ℕ) → Counts P K times → is_done e.what ≡ false → Counts P (e ∷ K) times
unfolding done_by
times-same P e K times h f i l = rw f (omega (arith, h i l))

pub counted-same : (e : Event) (K : List Event) (c : JudgeCounts) → AreCounted K c → starts e.what ≡ false → is_effect e.what ≡ false → is_answering e.what ≡ false → AreCounted (e ∷ K) c
counted-same e K c h s f a = record {
  calls_are = h.calls_are ∙ sym (made-same starts e K s);
  effects_are = h.effects_are ∙ sym (made-same is_effect e K f);
  answers_are = h.answers_are ∙ sym (made-same is_answering e K a);
}

-- ---- all of it

module _ (P : Policy) (S : Script) (K : List Event) (j : Judge) where
  pub stands-of : IsScript S → IsHistory S K → AreTasks K j.tasks.items → j.groups ≡ groups_made K → AreCalls S K j.calls.rows.items → AreDone K j.done.items → AreSeats S K j.seats.items → j.calls.first ≡ S.firstid → S.firstid < 2 ^ 64
      → AreOpen S K j.directories.rows.items → length j.times.items ≡ length P.rules + 1 → Counts P K j.times.items → AreCounted K j.counts → Stands P S K j
  stands-of script history tasks groups calls done seats first first-fits open-now long times counts = record {
    script = script;
    history = history;
    tasks_are = tasks.number;
    groups_are = groups;
    calls_are = calls.number;
    done_are = done.number;
    seats_are = seats.number;
    times_are = long;
    first_is = first;
    first_fits = first-fits;
    tasks = tasks.each;
    calls = calls.each;
    done = done.each;
    seats = seats.each;
    directories = open-now.named;
    directories_made = open-now.made;
    times = times;
    counts = counts;
  }

  pub tasks-of : Stands P S K j → AreTasks K j.tasks.items
  tasks-of s = record { number = s.tasks_are; each = s.tasks }

  pub calls-of : Stands P S K j → AreCalls S K j.calls.rows.items
  calls-of s = record { number = s.calls_are; each = s.calls }

  pub done-of : Stands P S K j → AreDone K j.done.items
  done-of s = record { number = s.done_are; each = s.done }

  pub seats-of : Stands P S K j → AreSeats S K j.seats.items
  seats-of s = record { number = s.seats_are; each = s.seats }

  pub open-of : Stands P S K j → AreOpen S K j.directories.rows.items
  open-of s = record { named = s.directories; made = s.directories_made }

  -- the call that an id names is found by its number
  pub named-row : Stands P S K j → (x : ℕ) → x < 2 ^ 64 → named K x ≡ place_of_call K (number_named j.calls.first j.calls.rows.items x)
  named-row s x fits = let h : IsHistory S K = s.history in rw s.first_is (named-by-number S K j.calls.rows.items x h (calls-of s) s.first_fits fits)
