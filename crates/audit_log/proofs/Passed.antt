-- What is kept of the calls with one more event: by what each table tells of it (`tells_more`, `asked_more`, `received_more`, `installed_more`).
-- A step that concerns no call leaves all as it is, by cases on its kind.
use Rattle.std.proofs.Common.{◌≡◌, ℕ, false, List, [], ◌∷◌, ◌++◌, length, Option, Some, None, refl, sym, ap, ◌∙◌}
use Rattle.std.specs.Prelude.{if◌then◌else◌, Bool, Ok}
use Rattle.hist_model.specs.Kinds.{enters}
use Rattle.hist_model.specs.Look.{Name, is_task, or_else}
use Rattle.hist_model.specs.ReportAudit.{is_notified}
use Rattle.hist_model.specs.ReportCalls.{pid_given}
use Rattle.hist_model.specs.declared.event.Event.{Event}
use Rattle.hist_model.specs.declared.event.What.{What}
use Rattle.hist_model.specs.declared.event.What.TheVariants.{AddfdPut, Deliver, Enter, Install, Native, Recv, Resume, Spawn}
use Rattle.audit_log.specs.CallPass.{TellsPast, concerns_calls}
use Rattle.audit_log.specs.Places.{call_in, grown, with_call}
use Rattle.audit_log.specs.Received.{place_in, received_by}
use Rattle.audit_log.specs.Records.{moves, placed, record_in, recorded, row_at}
use Rattle.audit_log.specs.Requests.{answered_call, pending_call, queue_in, queued}
use Rattle.audit_log.specs.Tasks.{call_of, facts_in, facts_of, task_after, task_facts}
use Rattle.audit_log.specs.declared.call_pass.CallPass.{CallPass}
use Rattle.audit_log.specs.declared.tasks.TaskFacts.{TaskFacts}
use Rattle.audit_log.proofs.Answered.{asked_more, installed_more, number_more}
use Rattle.audit_log.proofs.PlaceRows.{calls_more}
use Rattle.audit_log.proofs.ReceivedCalls.{names_more, received_more}
use Rattle.audit_log.proofs.Recorded.{and_false, entries_more, knows_more, tells_more}

-- the call that a step installs for
abbrev installing : Event → CallPass → Option ℕ
installing e p = pending_call (call_of e.who (facts_in p.tasks)) (record_in p.entered)

-- each table with one more event, which has this place
pub record IsStepped (place : ℕ) (e : Event) (old new : CallPass) : Type 0 where
  pub places : new.entered.places.items ≡ placed e.what place old.entered.places.items
  pub records : new.entered.records.items ≡ recorded e.what (facts_of e.who (facts_in old.tasks)) (row_at old.entered.places.items (call_of e.who (facts_in old.tasks))) old.entered.records.items
  pub tasks : (n : Name) → facts_in new.tasks n ≡ task_after place e n (facts_in old.tasks n)
  pub ids : (x : ℕ) → place_in new.ids x ≡ (if is_notified e.what x then Some place else place_in old.ids x)
  pub requests : (c : ℕ) → queue_in new.requests c ≡ queued e.what (pending_call (call_of e.who (facts_in old.tasks)) (record_in old.entered)) (place_in old.ids) c (queue_in old.requests c)
  pub receipts : new.received.places.items ≡ grown (received_by (place_in old.ids) e.what) place old.received.places.items
  pub received : new.received.calls.items ≡ with_call (received_by (place_in old.ids) e.what) old.received.calls.items
  pub answers : new.answered.places.items
      ≡ grown (answered_call e.what (pending_call (call_of e.who (facts_in old.tasks)) (record_in old.entered)) (queue_in old.requests)) place old.answered.places.items
  pub answered : new.answered.calls.items
      ≡ with_call (answered_call e.what (pending_call (call_of e.who (facts_in old.tasks)) (record_in old.entered)) (queue_in old.requests)) old.answered.calls.items

-- what is told of the events with one more
pub passed_more : (K : List Event) (e : Event) (old new : CallPass) → TellsPast K old → IsStepped (length K) e old new → TellsPast (e ∷ K) new
passed_more K e old new t s =
    let f : facts_in old.tasks ≡ task_facts K = λ i. λ n. t.knows n i in
    let received = calls_more (length K) (received_by (place_in old.ids) e.what) old.received new.received t.receipts s.receipts s.received in
    let answered = calls_more (length K) (answered_call e.what (installing e old) (queue_in old.requests)) old.answered new.answered t.answers s.answers s.answered in
    let records = s.records ∙ ap (λ facts. recorded e.what (facts_of e.who facts) (row_at old.entered.places.items (call_of e.who facts)) old.entered.records.items) f in
    record {
      entries = entries_more K e (facts_of e.who (task_facts K)) old.entered new.entered t.entries s.places records;
      tells = tells_more K e old.entered new.entered t.entries t.tells s.places records;
      knows = knows_more K e old.tasks new.tasks t.knows s.tasks;
      names = names_more K e old.ids new.ids t.names s.ids;
      asked = asked_more K e old.tasks old.ids (record_in old.entered) (queue_in old.requests) (queue_in new.requests) t.tells t.knows t.names t.asked s.requests;
      receipts = received.0;
      received = received_more K e old.ids (call_in old.received) (call_in new.received) t.received t.names received.1;
      answers = answered.0;
      answered = installed_more K e old.tasks (record_in old.entered) (queue_in old.requests) (call_in old.answered) (call_in new.answered) t.answered t.tells t.knows t.asked answered.1;
      number = number_more K e old.tasks (record_in old.entered) (queue_in old.requests) old.answered.places.items new.answered.places.items t.number t.tells t.knows t.asked s.answers;
    }

-- ---- A step that concerns no call

idle-enters : (a : What) → concerns_calls a ≡ false → enters a ≡ false
idle-enters (Enter nr args verdict) h = cc
idle-enters _ h = refl

idle-moves : (a : What) → concerns_calls a ≡ false → moves a ≡ false
idle-moves (Native answer) h = cc
idle-moves (Resume back) h = cc
idle-moves (Deliver sig effect) h = cc
idle-moves (Install answer) h = cc
idle-moves _ h = refl

idle-pid : (a : What) (n : Name) → concerns_calls a ≡ false → pid_given a n ≡ None
idle-pid (Spawn child (Ok given)) n h = cc
idle-pid _ n h = refl

idle-listed : (a : What) (x : ℕ) → concerns_calls a ≡ false → is_notified a x ≡ false
idle-listed (Enter nr args verdict) x h = cc
idle-listed _ x h = refl

idle-received : (call : ℕ → Option ℕ) (a : What) → concerns_calls a ≡ false → received_by call a ≡ None
idle-received call (Recv (Ok notif)) h = cc
idle-received call _ h = refl

idle-answered : (a : What) (call : Option ℕ) (queue : ℕ → List Bool) → concerns_calls a ≡ false → answered_call a call queue ≡ None
idle-answered (Install answer) call queue h = cc
idle-answered _ call queue h = refl

idle-queued : (a : What) (call : Option ℕ) (named : ℕ → Option ℕ) (c : ℕ) (queue : List Bool) → concerns_calls a ≡ false → queue ≡ queued a call named c queue
idle-queued (Install answer) call named c queue h = cc
idle-queued (AddfdPut asked (Ok u)) call named c queue h = cc
idle-queued _ call named c queue h = refl

abbrev facts-with : Option ℕ → Option ℕ → TaskFacts
facts-with p q = record { pid = p; newest = q }

idle-task : (place : ℕ) (e : Event) (n : Name) (f : TaskFacts) → concerns_calls e.what ≡ false → f ≡ task_after place e n f
idle-task place e n f h = rw (idle-pid e.what n h, idle-enters e.what h, and_false (is_task e.who n)) (by f.pid f.newest)
  where
    by : (p q : Option ℕ) → facts-with p q ≡ facts-with (or_else p None) q
    by None q = refl
    by (Some k) q = refl

pub idle_stepped : (place : ℕ) (e : Event) (p : CallPass) → concerns_calls e.what ≡ false → IsStepped place e p p
idle_stepped place e p h =
    let none = idle-received (place_in p.ids) e.what h in
    let no_answer = idle-answered e.what (installing e p) (queue_in p.requests) h in
    record {
      places = sym (ap (λ b. if b then p.entered.places.items ++ place ∷ [] else p.entered.places.items) (idle-enters e.what h));
      records = rw (idle-enters e.what h, idle-moves e.what h) refl;
      tasks = λ n. idle-task place e n (facts_in p.tasks n) h;
      ids = λ x. sym (ap (λ b. if b then Some place else place_in p.ids x) (idle-listed e.what x h));
      requests = λ c. idle-queued e.what (installing e p) (place_in p.ids) c (queue_in p.requests c) h;
      receipts = sym (ap (λ o. grown o place p.received.places.items) none);
      received = sym (ap (λ o. with_call o p.received.calls.items) none);
      answers = sym (ap (λ o. grown o place p.answered.places.items) no_answer);
      answered = sym (ap (λ o. with_call o p.answered.calls.items) no_answer);
    }
