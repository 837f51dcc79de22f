-- One more event is past: by `told_next`.
use Rattle.std.proofs.Common.{◌≡◌, reverse, take, get_or, sym, ap₂, arith}
use Rattle.hist_model.specs.ReportAudit.{judging_by}
use Rattle.audit_log.proofs.Past.{length_taken}
use Rattle.outcome_text.specs.Tables.{lines_at, lines_by}
use Rattle.outcome_text.proofs.Lines.{all_told, none_told, told_next}
use Rattle.outcome_text.proofs.calls.Kept.push_calls.Goals as goal

pub loop-place-init : goal.loop-place-init
loop-place-init c =
    let kept = c.args.self.now in
    none_told (lines_by (judging_by kept.policy.now.rules) kept.hidden.now (reverse kept.events.now) kept.calls.now kept.sessions.now kept.served.now c.args.name.now) c.args.name.now c.args.line.now

pub push_event-requires : goal.push_event-requires
push_event-requires c = omega (arith, c.loop-place.invariant.few, length_taken c.args.self.now.events.now c.loop-place.place (omega arith))

pub loop-place-preserved : goal.loop-place-preserved
loop-place-preserved c =
    let kept = c.args.self.now in
    let J = judging_by kept.policy.now.rules in
    let xs = kept.events.now in
    let H = reverse xs in
    let n = c.args.name.now in
    let i = c.loop-place.place in
    let d = c.index-self-place.result in
    let told = c.loop-place.invariant in
    let here : lines_at J kept.hidden.now H kept.calls.now kept.sessions.now kept.served.now n i c.loop-place.number (get_or xs i d)
    ≡ lines_by J kept.hidden.now H kept.calls.now kept.sessions.now kept.served.now n (reverse (take i xs)) (get_or xs i d) =
    ap₂ (λ place before. lines_at J kept.hidden.now H kept.calls.now kept.sessions.now kept.served.now n place before (get_or xs i d)) (sym (length_taken xs i (omega arith))) told.number_is in
    told_next (lines_by J kept.hidden.now H kept.calls.now kept.sessions.now kept.served.now n) n xs i d c.args.line.now c.loop-place.line c.push_event.new.line
    (lines_at J kept.hidden.now H kept.calls.now kept.sessions.now kept.served.now n i c.loop-place.number (get_or xs i d)) c.loop-place.number c.in_ok-number.number (omega arith) told
    c.in_ok-number.ensures.line here c.in_ok-number.ensures.after

pub returns : goal.returns
returns c =
    let kept = c.args.self.now in
    all_told (lines_by (judging_by kept.policy.now.rules) kept.hidden.now (reverse kept.events.now) kept.calls.now kept.sessions.now kept.served.now c.args.name.now) c.args.name.now kept.events.now c.loop-place.place c.args.line.now
    c.loop-place.line c.loop-place.number (omega arith) c.loop-place.invariant
