-- What is kept when all events are past is so of the history.
use Rattle.std.proofs.Common.{◌≡◌, List, length, reverse, sym, subst}
use Rattle.hist_model.specs.declared.event.Event.{Event}
use Rattle.audit_log.specs.CallTable.{TellsCalls}
use Rattle.audit_log.specs.Places.{call_in}
use Rattle.audit_log.specs.Received.{TellsReceived}
use Rattle.audit_log.specs.Records.{HasEntries, Tells, record_in}
use Rattle.audit_log.specs.Requests.{AnswersAre, TellsInstalled}
use Rattle.audit_log.specs.Tables.{TellsTables}
use Rattle.audit_log.specs.declared.kept_calls.CallTable.{CallTable}
use Rattle.audit_log.specs.declared.places.CallPlaces.{CallPlaces}
use Rattle.audit_log.specs.declared.records.CallRecords.{CallRecords}
use Rattle.audit_log.specs.declared.tables.Tables.{Tables}
use Rattle.audit_log.proofs.Recorded.{entries_rise}
use Rattle.audit_log.proofs.tables.Tables.of.Goals as goal

-- a table of these parts
built : (H : List Event) (t : CallTable) (entered : CallRecords) (received answered : CallPlaces) → t.entered ≡ entered → t.received ≡ received → t.answered ≡ answered
    → HasEntries H entered → Tells H (record_in entered) → TellsReceived H (call_in received) → TellsInstalled H (call_in answered) → AnswersAre H (length answered.places.items) → TellsCalls H t
built H t entered received answered p q r entries tells calls installed number = record {
  entries = subst (HasEntries H) (sym p) entries;
  records = subst (λ x. Tells H (record_in x)) (sym p) tells;
  received = subst (λ x. TellsReceived H (call_in x)) (sym q) calls;
  answered = subst (λ x. TellsInstalled H (call_in x)) (sym r) installed;
  number = subst (λ (x : CallPlaces). AnswersAre H (length x.places.items)) (sym r) number;
}

pub table-requires-clause-entered : goal.table-requires-clause-entered
table-requires-clause-entered c =
    let past = c.in_ok-note_all.ensures (c.new-pass.ensures c.args.policy.now.rules) in
    entries_rise _ _ past.calls.entries

pub table-requires-clause-received : goal.table-requires-clause-received
table-requires-clause-received c = (c.in_ok-note_all.ensures (c.new-pass.ensures c.args.policy.now.rules)).calls.receipts.rise

pub table-requires-clause-answered : goal.table-requires-clause-answered
table-requires-clause-answered c = (c.in_ok-note_all.ensures (c.new-pass.ensures c.args.policy.now.rules)).calls.answers.rise

pub returns : goal.returns
returns c =
    let rules = c.args.policy.now.rules in
    let pass = c.note_all.new.self in
    let tables : Tables = record { calls = c.table.result; sessions = pass.sessions.rows; counts = pass.counts } in
    let past = c.in_ok-note_all.ensures (c.new-pass.ensures rules) in
    let H = reverse c.events.result.now in
    let calls : TellsCalls H c.table.result =
    built H c.table.result pass.calls.entered pass.calls.received pass.calls.answered c.table.ensures.entered c.table.ensures.received c.table.ensures.answered
    past.calls.entries past.calls.tells past.calls.received past.calls.answered past.calls.number in
    subst (λ K. TellsTables rules K tables) (sym c.events.ensures) (record { calls = calls; sessions = past.sessions.rows; counts = past.counts })
