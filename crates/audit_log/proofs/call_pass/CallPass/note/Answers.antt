-- One more event is past: by `passed_more`, and by `idle_stepped` where its step concerns no call.
use Rattle.std.proofs.Common.{◌≡◌, ℕ, ap, sym, ◌∙◌, subst, if◌then◌else◌, Some, rules}
use Rattle.hist_model.specs.ReportAudit.{is_notified}
use Rattle.audit_log.specs.Places.{grown, with_call}
use Rattle.audit_log.specs.Received.{place_in}
use Rattle.audit_log.specs.Records.{record_in, recorded, row_at}
use Rattle.audit_log.specs.Requests.{answered_call, for_install, pending_call, queue_in, queued}
use Rattle.audit_log.specs.Tasks.{call_of, facts_in}
use Rattle.audit_log.specs.declared.call_pass.CallPass.{CallPass}
use Rattle.audit_log.specs.declared.tasks.TaskFacts.{TaskFacts}
use Rattle.audit_log.proofs.Answered.{answered_for, queued_for}
use Rattle.audit_log.proofs.Passed.{IsStepped, idle_stepped, passed_more}
use Rattle.audit_log.proofs.Recorded.{entries_rise, where_ok}
use Rattle.audit_log.proofs.call_pass.CallPass.note.Goals as goal

pub returns-then-not-concerns_calls : goal.returns-then-not-concerns_calls
returns-then-not-concerns_calls c = λ K l now.
    passed_more K c.args.event.now c.args.self.now c.args.self.now now
    (idle_stepped _ c.args.event.now c.args.self.now (sym c.concerns_calls.ensures ∙ search rules))

pub returns : goal.returns
returns c = λ K l now.
    let i = c.args.place in
    let e = c.args.event.now in
    let old : CallPass = c.args.self.now in
    let new : CallPass = record { tasks = c.note-5.new.self; ids = c.note-6.new.self; requests = c.note-3.new.self; entered = c.note-4.new.self; received = c.note-2.new.self; answered = c.note.new.self } in
    let places = old.entered.places.items in
    let records = old.entered.records.items in
    let rise = entries_rise K old.entered now.entries in
    let facts = c.of_actor-facts.ensures in
    let o = pending_call (call_of e.who (facts_in old.tasks)) (record_in old.entered) in
    let call : c.installs_for-call.result ≡ for_install e.what o =
    c.installs_for-call.ensures rise ∙ ap (λ (f : TaskFacts). for_install e.what (pending_call f.newest (record_in old.entered))) facts in
    let answer : c.answered_call-answered.result ≡ answered_call e.what o (queue_in old.requests) =
    c.answered_call-answered.ensures ∙ ap (λ o. answered_call e.what o (queue_in old.requests)) call ∙ answered_for e.what o (queue_in old.requests) in
    where_ok c.note-6.result (λ (ids : (x : ℕ) → place_in c.note-6.new.self x ≡ (if is_notified e.what x then Some i else place_in old.ids x)).
    let stepped : IsStepped i e old new = record {
      places = c.in_ok-note-4.ensures.places;
      records = c.in_ok-note-4.ensures.records rise ∙ ap (λ (f : TaskFacts). recorded e.what f (row_at places f.newest) records) facts;
      tasks = c.in_ok-note-5.ensures facts;
      ids = ids;
      requests = λ k. c.in_ok-note-3.ensures k ∙ ap (λ o. queued e.what o (place_in old.ids) k (queue_in old.requests k)) call ∙ queued_for e.what o (place_in old.ids) k (queue_in old.requests k);
      receipts = c.in_ok-note-2.ensures.places ∙ ap (λ o. grown o i old.received.places.items) c.received.ensures;
      received = c.in_ok-note-2.ensures.calls ∙ ap (λ o. with_call o old.received.calls.items) c.received.ensures;
      answers = c.in_ok-note.ensures.places ∙ ap (λ o. grown o i old.answered.places.items) answer;
      answered = c.in_ok-note.ensures.calls ∙ ap (λ o. with_call o old.answered.calls.items) answer;
    } in
    passed_more K e old new now (subst (λ n. IsStepped n e old new) (sym l) stepped)
    ) c.note-6.ensures
