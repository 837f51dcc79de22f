-- The judge stands for a history in which one more answer was sent.
-- By the call that the id names, the outcome that a success tells, and the seat that has sent.
use Rattle.std.proofs.Common.{◌≡◌, ℕ, ◌+◌, ◌<◌, ◌^◌, Bool, true, false, ◌||◌, List, ◌∷◌, length, refl, sym, ap, ◌∙◌, subst, arith, Option, Some, None}
use Rattle.std.specs.Prelude.{get_or, Ok, Err, Result, Vec}
use Rattle.std.proofs.Math.ListN.{set}
use Rattle.std.specs.Vec.{with_item}
use Rattle.std.specs.declared.alloc.Global.{Global}
use Rattle.broker_verdict.specs.Answers.{is_accepted_value, is_told, tells}
use Rattle.broker_verdict.specs.Seats.{is_effect}
use Rattle.hist_model.specs.Calls.{named}
use Rattle.hist_model.specs.Kinds.{is_install, notifies, starts}
use Rattle.hist_model.specs.Look.{ev}
use Rattle.hist_model.specs.declared.event.Actor.TheVariants.{Worker}
use Rattle.hist_model.specs.declared.event.Back.{Back}
use Rattle.hist_model.specs.declared.event.Event.{Event}
use Rattle.hist_model.specs.declared.event.What.TheVariants.{Send}
use Rattle.hist_model.specs.declared.policy.Policy.{Policy}
use Rattle.hist_model.specs.declared.script.Script.{Script}
use Rattle.history_frames.specs.Ordinals.{count_of, makes_group, task_name_of}
use Rattle.history_frames.proofs.Ordinals.{made-more, made-same, place-below}
use Rattle.judge_pass.specs.Counted.{is_answering}
use Rattle.judge_pass.specs.Stands.{IsCall, IsDone, IsHistory, IsSeat, place_of_call, Stands}
use Rattle.judge_pass.specs.Tables.{number_named}
use Rattle.judge_pass.specs.Takes.{Settles, SettlesWith}
use Rattle.judge_pass.specs.Told.{NotesTold, told_by}
use Rattle.judge_pass.specs.declared.calls.Call.{Call}
use Rattle.judge_pass.specs.declared.calls.Calls.{Calls}
use Rattle.judge_pass.specs.declared.done.Done.{Done}
use Rattle.judge_pass.specs.declared.judge.Judge.{Judge}
use Rattle.judge_pass.specs.declared.seats.Seat.{Seat}
use Rattle.judge_pass.proofs.CallAnswers.{none-sent, one-sent}
use Rattle.judge_pass.proofs.CallEvents.{calls-same}
use Rattle.judge_pass.proofs.CallRows.{quiet-call}
use Rattle.judge_pass.proofs.DoneRows.{AreDone, done-row, no-install, put-of-older}
use Rattle.judge_pass.proofs.NamedCalls.{AreCalls, named-by-number}
use Rattle.judge_pass.proofs.OpenRows.{open-quiet}
use Rattle.judge_pass.proofs.Parts.{calls-of, done-of, open-of, seats-moved, seats-of, stands-of, tasks-of, tasks-same, times-same}
use Rattle.judge_pass.proofs.Rows.{place-there}
use Rattle.judge_pass.proofs.SeatEvents.{seat-sent}
use Rattle.judge_pass.proofs.TaskRows.{other-task, quiet-task}

-- ---- what is told

-- an event that is no success tells nothing
pub none-told : (K : List Event) (e : Event) (j : Judge) → is_accepted_value e.what ≡ false → NotesTold K e j j
none-told K e j h = record {
  effects_are = refl;
  noted = λ n d low. rw h refl;
  same = refl;
}

told-more : (e : Event) (K : List Event) (p : ℕ) (old : Bool) → is_told K p ≡ old → is_told (e ∷ K) p ≡ (tells K (is_told K) e p || old)
unfolding is_told
told-more e K p old h = rw h refl

-- what is told is noted of the effects that are kept
done-told : (e : Event) (K : List Event) (rows rows' : List Done) → AreDone K rows → is_effect e.what ≡ false → is_install e.what ≡ false → length rows' ≡ length rows
    → ((n : ℕ) (d : Done) → n < length rows → get_or rows' n d ≡ told_by K e (get_or rows n d)) → AreDone (e ∷ K) rows'
done-told e K rows rows' all f i long noted =
    let m = made-same is_effect e K f in
    record {
      number = long ∙ (all.number ∙ sym m);
      each = λ n d l.
          let b : n < count_of is_effect K = rw m at l in
          subst (λ (y : Done). IsDone (e ∷ K) n y) (sym (noted n d (omega (arith, b, all.number)))) (row n (get_or rows n d) (all.each n d b));
    }
  where
    row : (n : ℕ) (d : Done) → IsDone K n d → IsDone (e ∷ K) n (told_by K e d)
    row n d h =
        let b = place-below is_effect K n d.place h.place_is in
        done-row e K n d (told_by K e d) h refl refl refl (put-of-older e K d.place d.put b.1 h.put_is (no-install e K d.place i)) (told-more e K d.place d.is_told h.told_is)

-- ---- what is settled

-- the judge keeps all but the calls
pub kept-settled : (answer : Result (Unit {0}) ℕ) (named : Option ℕ) (old new : Judge) → SettlesWith answer named old new → new ≡ record old { calls = record old.calls { rows = new.calls.rows } }
kept-settled (Err e) named old new h = h ∙ ap (λ (R : Vec Call Global). record old { calls = record old.calls { rows = R } }) (ap (λ (y : Judge). y.calls.rows) (sym h))
kept-settled (Ok u) None old new h = h ∙ ap (λ (R : Vec Call Global). record old { calls = record old.calls { rows = R } }) (ap (λ (y : Judge). y.calls.rows) (sym h))
kept-settled (Ok u) (Some k) old new h = h.same

-- and of the judge before it was noted what is told, all but the calls and the effects
joined : (j t u : Judge) → t ≡ record j { done = t.done } → u ≡ record t { calls = record t.calls { rows = u.calls.rows } } → u ≡ record j { calls = record j.calls { rows = u.calls.rows }; done = u.done }
joined j t u first second =
    second ∙ (ap (λ (y : Judge). record y { calls = record y.calls { rows = u.calls.rows } }) first
    ∙ ap (λ (D : Vec Done Global). record j { calls = record j.calls { rows = u.calls.rows }; done = D }) (ap (λ (y : Judge). y.done) (sym second)))

pub kept-counts : (answer : Result (Unit {0}) ℕ) (named : Option ℕ) (j t u : Judge) → t ≡ record j { done = t.done } → SettlesWith answer named t u → u.counts ≡ j.counts
kept-counts answer named j t u first h = ap (λ (y : Judge). y.counts) (kept-settled answer named t u h) ∙ ap (λ (y : Judge). y.counts) first

pub kept-seats : (answer : Result (Unit {0}) ℕ) (named : Option ℕ) (j t u : Judge) → t ≡ record j { done = t.done } → SettlesWith answer named t u → u.seats ≡ j.seats
kept-seats answer named j t u first h = ap (λ (y : Judge). y.seats) (kept-settled answer named t u h) ∙ ap (λ (y : Judge). y.seats) first

module _ (P : Policy) (S : Script) (K : List Event) (w x : ℕ) (back : Back) (j : Judge) (s : Stands P S K j) (fits : x < 2 ^ 64) where
  abbrev sends : Result (Unit {0}) ℕ → Event
  sends answer = ev (Worker w) (Send x back answer)

  by-number : named K x ≡ place_of_call K (number_named j.calls.first j.calls.rows.items x)
  by-number = let h : IsHistory S K = s.history in rw s.first_is (named-by-number S K j.calls.rows.items x h (calls-of P S K j s) s.first_fits fits)

  -- the call that the id names is answered, where the kernel takes the answer
  calls-settled : (answer : Result (Unit {0}) ℕ) (t u : Judge) → t.calls ≡ j.calls → SettlesWith answer (number_named j.calls.first j.calls.rows.items x) t u → AreCalls S (sends answer ∷ K) u.calls.rows.items
  calls-settled (Err e) t u q h =
      let same : u.calls ≡ j.calls = ap (λ (y : Judge). y.calls) h ∙ q in
      subst (λ (c : Calls). AreCalls S (sends (Err e) ∷ K) c.rows.items) (sym same)
      (calls-same S (sends (Err e)) K j.calls.rows.items (calls-of P S K j s) refl (λ d is l. quiet-call (sends (Err e)) K d l refl))
  calls-settled (Ok tt) t u q h = by (number_named j.calls.first j.calls.rows.items x) by-number h
    where
      by : (o : Option ℕ) → named K x ≡ place_of_call K o → Settles o t u → AreCalls S (sends (Ok tt) ∷ K) u.calls.rows.items
      by None at h =
          let same : u.calls ≡ j.calls = ap (λ (y : Judge). y.calls) h ∙ q in
          subst (λ (c : Calls). AreCalls S (sends (Ok tt) ∷ K) c.rows.items) (sym same) (none-sent S K j.calls.rows.items (calls-of P S K j s) w x back at)
      by (Some k) at h =
          let made : k < length j.calls.rows.items = subst (λ (c : Calls). k < length c.rows.items) q h.made in
          let kb : k < count_of notifies K = omega (arith, made, s.calls_are) in
          let before : h.before ≡ get_or j.calls.rows.items k h.before = subst (λ (c : Calls). h.before ≡ get_or c.rows.items k h.before) q h.before_is in
          let call : IsCall S K k h.before = subst (λ (y : Call). IsCall S K k y) (sym before) (s.calls k h.before kb) in
          let p = place-there notifies K k kb in
          one-sent S K j.calls.rows.items (calls-of P S K j s) w x back k p.0 h.before (at ∙ p.1) p.1 call u.calls.rows.items
          (h.rows_are ∙ ap (λ (c : Calls). set c.rows.items k (record h.before { is_settled = true })) q)

  module _ (answer : Result (Unit {0}) ℕ) (history : IsHistory S (sends answer ∷ K)) (l : w < 17) where
    -- with these calls and effects
    stands-with : (R : Vec Call Global) (D : Vec Done Global) (seat : Seat) → AreCalls S (sends answer ∷ K) R.items → AreDone (sends answer ∷ K) D.items → seat ≡ get_or j.seats.items w seat
        → Stands P S (sends answer ∷ K) (record j { calls = record j.calls { rows = R }; done = D; seats = with_item j.seats w (record seat { has_sent = true }); counts = record j.counts { answers = j.counts.answers + 1 } })
    stands-with R D seat calls done sq =
        let e = sends answer in
        let old : IsSeat S K w seat = subst (λ (y : Seat). IsSeat S K w y) (sym sq) (s.seats w seat l) in
        let new : IsSeat S (e ∷ K) w (record seat { has_sent = true }) = seat-sent S K w seat old x back answer (omega (arith, history.fits)) in
        stands-of P S (e ∷ K) (record j { calls = record j.calls { rows = R }; done = D; seats = with_item j.seats w (record seat { has_sent = true }); counts = record j.counts { answers = j.counts.answers + 1 } })
        s.script history
        (tasks-same e K j.tasks.items (tasks-of P S K j s) refl (λ o b. quiet-task e K (task_name_of K o) (other-task e (task_name_of K o) refl (λ h. cc) refl) refl))
        (s.groups_are ∙ sym (made-same makes_group e K refl)) calls done
        (seats-moved S K w (Send x back answer) j.seats.items (seats-of P S K j s) history.fits (record seat { has_sent = true }) new _ refl)
        s.first_is s.first_fits (open-quiet S e K j.directories.rows.items (open-of P S K j s) refl) s.times_are
        (times-same P e K j.times.items s.times refl)
        (record {
          calls_are = s.counts.calls_are ∙ sym (made-same starts e K refl);
          effects_are = s.counts.effects_are ∙ sym (made-same is_effect e K refl);
          answers_are = ap (λ (n : ℕ). n + 1) s.counts.answers_are ∙ sym (made-more is_answering e K refl);
        })

    pub stands-sent : (t u : Judge) → NotesTold K (sends answer) j t → SettlesWith answer (number_named t.calls.first t.calls.rows.items x) t u → (seat : Seat) → seat ≡ get_or u.seats.items w seat
        → Stands P S (sends answer ∷ K) (record u { seats = with_item u.seats w (record seat { has_sent = true }); counts = record u.counts { answers = u.counts.answers + 1 } })
    stands-sent t u noted settled seat sq =
        let first = noted.same in
        let calls : t.calls ≡ j.calls = ap (λ (y : Judge). y.calls) first in
        let second = kept-settled answer (number_named t.calls.first t.calls.rows.items x) t u settled in
        let same = joined j t u first second in
        let done : u.done ≡ t.done = ap (λ (y : Judge). y.done) second in
        let here : SettlesWith answer (number_named j.calls.first j.calls.rows.items x) t u = subst (λ (c : Calls). SettlesWith answer (number_named c.first c.rows.items x) t u) calls settled in
        let rows : AreDone (sends answer ∷ K) u.done.items =
        subst (λ (D : Vec Done Global). AreDone (sends answer ∷ K) D.items) (sym done) (done-told (sends answer) K j.done.items t.done.items (done-of P S K j s) refl refl noted.effects_are noted.noted) in
        let at : seat ≡ get_or j.seats.items w seat = subst (λ (y : Judge). seat ≡ get_or y.seats.items w seat) same sq in
        subst (λ (y : Judge). Stands P S (sends answer ∷ K) (record y { seats = with_item y.seats w (record seat { has_sent = true }); counts = record y.counts { answers = y.counts.answers + 1 } })) (sym same)
        (stands-with u.calls.rows u.done seat (calls-settled answer t u calls here) rows at)
