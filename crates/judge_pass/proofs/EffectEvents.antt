-- What an effect makes of what is kept: of its caller's task, of the call that is asked for, of its rule's times, and of the counts.
-- Table by table; no other row of these is touched.
use Rattle.std.proofs.Common.{◌≡◌, ℕ, ◌+◌, ◌<◌, ◌≤◌, ◌^◌, Bool, true, false, ◌&&◌, List, [], ◌∷◌, ◌++◌, length, refl, sym, ap, ◌∙◌, subst, arith, inl, inr, Option, Some, None, ◌⊎◌}
use Rattle.std.specs.Prelude.{get_or, if◌then◌else◌, IfSome, is_ok, is_some, Ok, Err, Result, ◌==◌}
use Rattle.std.proofs.Math.ListN.{set}
use Rattle.std.proofs.lemmas.Bool.{cases_Bool, cases_eq, eq-eqb, eqb-true}
use Rattle.std.proofs.lemmas.List.{get_or-set_other, length-set}
use Rattle.std.proofs.lemmas.Grind.{get_or-set_at}
use Rattle.broker_judge.specs.Called.{Counts}
use Rattle.broker_verdict.specs.Choices.{decided}
use Rattle.broker_verdict.specs.Effects.{does_by, done_by, is_done, texts_copied, texts_named}
use Rattle.broker_verdict.specs.Seats.{is_effect}
use Rattle.hist_model.specs.Calls.{caller, named}
use Rattle.hist_model.specs.Files.{files}
use Rattle.hist_model.specs.Kinds.{closes, has_send_flag, makes, notifies, starts}
use Rattle.hist_model.specs.Legal.{system_of}
use Rattle.hist_model.specs.Look.{ev, Name, name_eq}
use Rattle.hist_model.specs.ScriptRules.{IsScript}
use Rattle.hist_model.specs.Natives.{directory_in}
use Rattle.hist_model.specs.Steps.{asked_call, IsOfKernel, session_call}
use Rattle.hist_model.specs.declared.event.Actor.TheVariants.{Worker}
use Rattle.hist_model.specs.declared.event.Event.{Event}
use Rattle.hist_model.specs.declared.event.What.{What}
use Rattle.hist_model.specs.declared.event.What.TheVariants.{Act, AddfdPut, Plant}
use Rattle.hist_model.specs.declared.policy.Cap.{Cap}
use Rattle.hist_model.specs.declared.policy.Policy.{Policy}
use Rattle.hist_model.specs.declared.request.Obj.{Obj}
use Rattle.hist_model.specs.declared.request.Request.{Request}
use Rattle.hist_model.specs.declared.script.Script.{Script}
use Rattle.hist_model.proofs.Look.{event_at-here, name_eq-refl}
use Rattle.history_frames.specs.Ordinals.{count_of, makes_group, task_name_of, tasks_made}
use Rattle.history_frames.proofs.Ordinals.{made-more, made-same}
use Rattle.history_frames.proofs.Queued.{call-here}
use Rattle.mediation.proofs.KernelCalls.{before-newest}
use Rattle.sys_abi.specs.declared.wire.Addfd.{Addfd}
use Rattle.tasks.proofs.Frames.{call-left, last-left, Leaves, names-apart}
use Rattle.tasks.proofs.Named.{name-kept}
use Rattle.judge_pass.specs.Counted.{AreCounted, is_answering}
use Rattle.judge_pass.specs.Stands.{asks_descriptor, effects_for, gives_to, IsBelow, IsCall, IsPut, is_put, IsPutOf, IsTask, IsTaskOf, may_give, place_of_call, Stands}
use Rattle.judge_pass.specs.Tables.{call_put, number_named}
use Rattle.judge_pass.specs.Takes.{Queues, QueuesFor}
use Rattle.judge_pass.specs.declared.calls.Call.{Call}
use Rattle.judge_pass.specs.declared.calls.Calls.{Calls}
use Rattle.judge_pass.specs.declared.directories.OpenDirectory.{OpenDirectory}
use Rattle.judge_pass.specs.declared.done.Put.{Put}
use Rattle.judge_pass.specs.declared.judge.Counts.{Counts as JudgeCounts}
use Rattle.judge_pass.specs.declared.judge.Judge.{Judge}
use Rattle.judge_pass.specs.declared.task_table.Task.{Task}
use Rattle.judge_pass.proofs.CallAnswers.{none-put, one-put}
use Rattle.judge_pass.proofs.CallEvents.{calls-same}
use Rattle.judge_pass.proofs.CallRows.{moves_calls, quiet-call}
use Rattle.judge_pass.proofs.DoneRows.{install-above, no-install}
use Rattle.judge_pass.proofs.HandTests.{below-some}
use Rattle.judge_pass.proofs.NamedCalls.{AreCalls}
use Rattle.judge_pass.proofs.OpenRows.{AreOpen, open-acted, open-quiet}
use Rattle.judge_pass.proofs.Parts.{AreTasks, named-row, tasks-moved}
use Rattle.judge_pass.proofs.Rows.{below-more, count-least, place-there}
use Rattle.judge_pass.proofs.Steady.{stays-acted}
use Rattle.judge_pass.proofs.TaskEvents.{same-ordinal}
use Rattle.judge_pass.proofs.TaskRows.{call-kept, effects-more, effects-other, group-same, LeavesTask, other-task}
use Rattle.judge_pass.proofs.WorkerEvents.{number-bound}

-- ---- steps that are effects

module _ (what : What) (is : is_effect what ≡ true) where
  pub no-make : makes what ≡ false
  no-make = grind arith

  pub no-group : makes_group what ≡ false
  no-group = grind arith

  no-call : notifies what ≡ false
  no-call = grind arith

  no-close : closes what ≡ false
  no-close = grind arith

  no-start : starts what ≡ false
  no-start = grind arith

-- ---- counts

pub counted-effect : (e : Event) (K : List Event) (c : JudgeCounts) (answers : ℕ) → AreCounted K c → is_effect e.what ≡ true → answers ≡ (if is_answering e.what then c.answers + 1 else c.answers)
    → AreCounted (e ∷ K) (record c { effects = c.effects + 1; answers = answers })
counted-effect e K c answers h is q = record {
  calls_are = h.calls_are ∙ sym (made-same starts e K (no-start e.what is));
  effects_are = ap (λ (n : ℕ). n + 1) h.effects_are ∙ sym (made-more is_effect e K is);
  answers_are = q ∙ by (cases_Bool (is_answering e.what));
}
  where
    by : (is_answering e.what ≡ true) ⊎ (is_answering e.what ≡ false) → (if is_answering e.what then c.answers + 1 else c.answers) ≡ count_of is_answering (e ∷ K)
    by (inl a) = rw a (ap (λ (n : ℕ). n + 1) h.answers_are ∙ sym (made-more is_answering e K a))
    by (inr a) = rw a (h.answers_are ∙ sym (made-same is_answering e K a))

-- ---- times

done-below : (P : Policy) (K : List Event) (i : ℕ) → done_by P K i ≤ length K
unfolding done_by
done-below P [] i = omega arith
done-below P (e ∷ K) i = let ih = done-below P K i in elim (cases_Bool (does_by P K e i)) [ inl q ↦ rw q (omega (arith, ih)) | inr q ↦ rw q (omega (arith, ih)) ]

done_by-more : (P : Policy) (K : List Event) (e : Event) (i : ℕ) → done_by P (e ∷ K) i ≡ done_by P K i + (if does_by P K e i then 1 else 0)
unfolding done_by
done_by-more P K e i = refl

-- the rule that decides it was done by once more, where it is one of those that are counted
module _ (P : Policy) (K : List Event) (w c : ℕ) (what : What) (times : List ℕ) (h : Counts P K times) (done : is_done what ≡ true) (at : session_call K w ≡ Some c) (rule : ℕ) (rule-is : rule ≡ (decided P K c (texts_named what)).0) where
  does : (i : ℕ) → does_by P K (ev (Worker w) what) i ≡ (rule == i)
  does i = rw (done, at, rule-is) refl

  other-rule : (i : ℕ) → i < length times → (i ≡ rule → ⊥) → get_or times i 0 ≡ done_by P (ev (Worker w) what ∷ K) i
  other-rule i l a =
      let f : (rule == i) ≡ false = elim (cases_Bool (rule == i)) [ inr z ↦ z | inl z ↦ absurd (a (sym (eqb-true rule i z))) ] in
      let d = does i ∙ f in
      rw (done_by-more P K (ev (Worker w) what) i, d) (omega (arith, h i l))

  pub times-past : length times ≤ rule → Counts P (ev (Worker w) what ∷ K) times
  times-past past i l = other-rule i l (λ q. absurd (omega (arith, past, l, q)))

  pub times-more : length K + 1 < 2 ^ 64 → (often : ℕ) → (get_or times rule 0 + 1 < 2 ^ 64 → often ≡ get_or times rule 0 + 1) → rule < length times
      → (times' : List ℕ) → times' ≡ set times rule often → Counts P (ev (Worker w) what ∷ K) times'
  times-more fits often once made times' q i l = rw q (by (cases_eq i rule))
    where
      il : i < length times
      il = let n = ap length q ∙ length-set times rule often in omega (arith, l, n)

      by : (i ≡ rule) ⊎ (i ≡ rule → ⊥) → get_or (set times rule often) i 0 ≡ done_by P (ev (Worker w) what ∷ K) i
      by (inr a) = rw (get_or-set_other times rule i often 0 a) (other-rule i il a)
      by (inl e) =
          let here = h rule made in
          let few = done-below P K rule in
          let more = once (omega (arith, here, few, fits)) in
          let d = does rule ∙ eq-eqb rule rule refl in
          rw (get_or-set_at times rule i often 0 e made, e, done_by-more P K (ev (Worker w) what) rule, d) (omega (arith, more, here))

-- ---- the caller's task

module _ (S : Script) (K : List Event) (w c : ℕ) (what : What) (history : IsOfKernel (system_of S) K) (is : is_effect what ≡ true) (at : session_call K w ≡ Some c) (o : ℕ) (made : o < tasks_made K) (mine : caller K c ≡ task_name_of K o) where
  abbrev doing : Event
  doing = ev (Worker w) what

  gives : (n : Name) → gives_to K doing n ≡ (may_give what && name_eq (task_name_of K o) n)
  gives n = rw (at, mine) refl

  no-step : (n : Name) → Leaves doing n
  no-step n = other-task doing n refl (λ q. let f = no-call what is in absurd (cc)) (no-close what is)

  other-task-left : (i : ℕ) → i < tasks_made K → (i ≡ o → ⊥) → LeavesTask doing K (task_name_of K i)
  other-task-left i l a =
      let n = task_name_of K i in
      let apart = names-apart (task_name_of K o) n (λ q. a (sym (same-ordinal S K o i history made l q))) in
      record { call_same = call-left doing K n (no-step n); last_same = last-left doing K n (no-step n); effects_same = effects-other doing K n (gives n ∙ rw apart (never (may_give what))) }
    where
      never : (b : Bool) → (b && false) ≡ false
      never true = refl
      never false = refl

  untold-now : (old : List ℕ) → old ≡ effects_for K (task_name_of K o) → (if may_give what then old ++ count_of is_effect K ∷ [] else old) ≡ effects_for (doing ∷ K) (task_name_of K o)
  untold-now old q = by (cases_Bool (may_give what))
    where
      n : Name
      n = task_name_of K o

      by : (may_give what ≡ true) ⊎ (may_give what ≡ false) → (if may_give what then old ++ count_of is_effect K ∷ [] else old) ≡ effects_for (doing ∷ K) n
      by (inl g) = rw (g, q) (sym (effects-more doing K n (gives n ∙ rw (g, name_eq-refl n) refl)))
      by (inr g) = rw (g, q) (sym (effects-other doing K n (gives n ∙ rw g refl)))

  callers-row : (old new : Task) → IsTask K o old → new.untold.items ≡ (if may_give what then old.untold.items ++ count_of is_effect K ∷ [] else old.untold.items) → new ≡ record old { untold = new.untold } → IsTask (doing ∷ K) o new
  callers-row old new h untold rest =
      let n = task_name_of K o in
      rw (name-kept doing K o made) (subst (λ (t : Task). IsTaskOf (doing ∷ K) n t) (sym rest) (record {
        group_is = group-same doing K n old.group h.group_is h.group_made;
        group_made = omega (arith, h.group_made, count-least makes_group doing K);
        call_is = call-left doing K n (no-step n) ∙ (h.call_is ∙ sym (call-kept doing K old.call h.call_made));
        call_made = below-more _ _ old.call (count-least notifies doing K) h.call_made;
        entered_is = rw (last-left doing K n (no-step n)) h.entered_is;
        untold_are = untold ∙ untold-now old.untold.items h.untold_are;
      }))

  pub tasks-effect : (rows : List Task) → AreTasks K rows → (old new : Task) → old ≡ get_or rows o old → new.untold.items ≡ (if may_give what then old.untold.items ++ count_of is_effect K ∷ [] else old.untold.items)
      → new ≡ record old { untold = new.untold } → (rows' : List Task) → rows' ≡ set rows o new → AreTasks (doing ∷ K) rows'
  tasks-effect rows all old new oq untold rest rows' q =
      let now : IsTask K o old = subst (λ (t : Task). IsTask K o t) (sym oq) (all.each o old made) in
      tasks-moved doing K rows all (no-make what is) o new (callers-row old new now untold rest) other-task-left rows' q

-- ---- the call for which a descriptor is asked

quiet-effect : (what : What) → is_effect what ≡ true → is_put what ≡ false → moves_calls what ≡ false
quiet-effect what is f = grind arith

module _ (S : Script) (K : List Event) (w : ℕ) (old new : Calls) (all : AreCalls S K old.rows.items) (number : ℕ) (n-is : number ≡ count_of is_effect K) where
  unmoved : (what : What) → is_effect what ≡ true → is_put what ≡ false → new ≡ old → AreCalls S (ev (Worker w) what ∷ K) new.rows.items
  unmoved what is f q =
      rw q (calls-same S (ev (Worker w) what) K old.rows.items all (no-call what is) (λ d d-is l. quiet-call (ev (Worker w) what) K d l (quiet-effect what is f)))

  moved : (asked : Addfd) (k : ℕ) → named K asked.id ≡ place_of_call K (Some k) → QueuesFor k (record { effect = number; has_send = has_send_flag asked }) old new → AreCalls S (ev (Worker w) (AddfdPut asked (Ok tt)) ∷ K) new.rows.items
  moved asked k at q =
      let kb : k < count_of notifies K = omega (arith, q.made, all.number) in
      let p = place-there notifies K k kb in
      let row : IsCall S K k q.before = subst (λ (x : Call). IsCall S K k x) (sym q.before_is) (all.each k q.before kb) in
      let rest = q.rest_is in
      one-put S K old.rows.items all w asked k p.0 q.before q.after (at ∙ p.1) p.1 row
      (ap (λ (x : Call). x.place) rest) (ap (λ (x : Call). x.called) rest) (ap (λ (x : Call). x.caller) rest) (ap (λ (x : Call). x.is_listed) rest) (ap (λ (x : Call). x.is_settled) rest) (ap (λ (x : Call). x.fetcher) rest)
      (rw (← n-is) q.queue_is) new.rows.items q.rows_are

  pub calls-effect : (what : What) (call : Option ℕ) → is_effect what ≡ true → ((asked : Addfd) (answer : Result (Unit {0}) ℕ) → what ≡ AddfdPut asked answer → named K asked.id ≡ place_of_call K call) → Queues call number what old new
      → AreCalls S (ev (Worker w) what ∷ K) new.rows.items
  calls-effect (AddfdPut asked (Ok u)) (Some k) is at q = moved asked k (at asked (Ok tt) refl) q
  calls-effect (AddfdPut asked (Ok u)) None is at q = rw q (none-put S K old.rows.items all w asked (at asked (Ok tt) refl))
  calls-effect (AddfdPut asked (Err e)) (Some k) is at q = unmoved (AddfdPut asked (Err e)) is refl q
  calls-effect (AddfdPut asked (Err e)) None is at q = unmoved (AddfdPut asked (Err e)) is refl q
  calls-effect (Act r cap answer) (Some k) is at q = unmoved (Act r cap answer) is refl q
  calls-effect (Act r cap answer) None is at q = unmoved (Act r cap answer) is refl q
  calls-effect (Plant addr bytes cap answer) (Some k) is at q = unmoved (Plant addr bytes cap answer) is refl q
  calls-effect (Plant addr bytes cap answer) None is at q = unmoved (Plant addr bytes cap answer) is refl q
  calls-effect what call is at q = absurd (cc)

-- the ids go on from the same one
pub first-kept : (call : Option ℕ) (number : ℕ) (what : What) (old new : Calls) → Queues call number what old new → new.first ≡ old.first
first-kept (Some k) number (AddfdPut asked (Ok u)) old new q = ap (λ (c : Calls). c.first) q.same
first-kept call number what old new q = ap (λ (c : Calls). c.first) q

-- ---- the directories

acted : (S : Script) → IsScript S → (K : List Event) (w : ℕ) (q : Request) (cap : Option Cap) (o : Option Obj) (g n : ℕ) → (files S K).slot g n ≡ o
    → directory_in (files S (ev (Worker w) (Act q cap (Ok tt)) ∷ K)).tree o ≡ directory_in (files S K).tree o
unfolding files
acted S script K w q cap o g n at = stays-acted S script K w q o g n at

pub open-effect : (S : Script) → IsScript S → (K : List Event) (rows : List OpenDirectory) (w : ℕ) (what : What) → is_effect what ≡ true → AreOpen S K rows → AreOpen S (ev (Worker w) what ∷ K) rows
open-effect S script K rows w (Act q cap (Ok u)) is h = open-acted S K rows w q cap h (acted S script K w q cap)
open-effect S script K rows w (Act q cap (Err x)) is h = open-quiet S (ev (Worker w) (Act q cap (Err x))) K rows h refl
open-effect S script K rows w (Plant addr bytes cap answer) is h = open-quiet S (ev (Worker w) (Plant addr bytes cap answer)) K rows h refl
open-effect S script K rows w (AddfdPut asked answer) is h = open-quiet S (ev (Worker w) (AddfdPut asked answer)) K rows h refl
open-effect S script K rows w what is h = absurd (cc)

-- ---- the request that is kept

ok-put : (asked : Addfd) (answer : Result (Unit {0}) ℕ) → is_put (AddfdPut asked answer) ≡ true → is_ok answer ≡ true
ok-put asked (Ok u) h = refl
ok-put asked (Err e) h = cc

-- a number that is found is that of a row
pub named-within : (first : ℕ) (rows : List Call) (x : ℕ) → IfSome (number_named first rows x) (λ n. n < length rows)
named-within first rows x = by (number_named first rows x) refl
  where
    by : (o : Option ℕ) → number_named first rows x ≡ o → IfSome o (λ n. n < length rows)
    by None q = tt
    by (Some k) q = number-bound first rows x k q

-- the number is that of the call that its id names; the texts are those of the copies for the call in hand
pub put-kept : (P : Policy) (S : Script) (K : List Event) (w : ℕ) (j : Judge) → Stands P S K j → (asked : Addfd) (answer : Result (Unit {0}) ℕ) → asked.id < 2 ^ 64
    → (put : Put) → put.call ≡ number_named j.calls.first j.calls.rows.items asked.id → put.installed ≡ None → ((c : ℕ) → is_ok answer ≡ true → session_call K w ≡ Some c → put.texts.items ≡ texts_copied K w c)
    → IsPut (ev (Worker w) (AddfdPut asked answer) ∷ K) (length K) put
put-kept P S K w j s asked answer fits put call none texts =
    let e = ev (Worker w) (AddfdPut asked answer) in
    let made : IsBelow (count_of notifies K) put.call = rw call (below-some _ _ _ s.calls_are (named-within j.calls.first j.calls.rows.items asked.id)) in
    record {
      call_is = call-here e K ∙ (named-row P S K j s asked.id fits ∙ (ap (place_of_call K) (sym call) ∙ sym (call-kept e K put.call made)));
      call_made = below-more _ _ put.call (count-least notifies e K) made;
      installed_is = no-install e K (length K) refl ∙ (install-above K (length K) (omega arith) ∙ sym none);
      texts_are = λ c put-is hand. rw (before-newest e K, event_at-here e K) (texts c (ok-put asked answer (rw (event_at-here e K) at put-is)) (rw (before-newest e K, event_at-here e K) at hand));
    }

-- the call that it is kept for is the one that its id names
pub put-names : (K : List Event) (w : ℕ) (what : What) (put : Option Put) → is_effect what ≡ true → asks_descriptor what ≡ is_some put → IsPutOf (ev (Worker w) what ∷ K) (length K) put
    → (asked : Addfd) (answer : Result (Unit {0}) ℕ) → what ≡ AddfdPut asked answer → named K asked.id ≡ place_of_call K (call_put put)
put-names K w what None is kept h asked answer q = let f : true ≡ false = ap asks_descriptor (sym q) ∙ kept in absurd (cc)
put-names K w what (Some put) is kept h asked answer q =
    let e = ev (Worker w) what in
    let made : IsBelow (count_of notifies K) put.call = rw (← made-same notifies e K (no-call what is)) h.call_made in
    ap (asked_call K) (sym q) ∙ (sym (call-here e K) ∙ (h.call_is ∙ call-kept e K put.call made))
