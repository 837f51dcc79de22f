-- One more event is past: by `gathered_next`.
use Rattle.std.proofs.Common.{◌≡◌, ◌+◌, ◌++◌, ◌∙◌, reverse, take, get_or, sym, ap, ap₂, arith}
use Rattle.std.specs.Prelude.{if◌then◌else◌}
use Rattle.audit_log.proofs.Past.{length_taken}
use Rattle.outcome_text.specs.Outcomes.{is_call_of}
use Rattle.outcome_lines.specs.Lines.{gathered}
use Rattle.outcome_lines.specs.Tables.{kept_at, kept_by}
use Rattle.outcome_lines.proofs.Gathered.{all_gathered, gathered_next, none_gathered}
use Rattle.outcome_lines.proofs.lines.Kept.push_calls.Goals as goal

pub loop-place-init : goal.loop-place-init
loop-place-init c =
    let kept = c.args.self.now in
    none_gathered (kept_by kept.marks.now kept.history.now.events kept.calls.now kept.sessions.now kept.served.now c.args.name.now) c.args.name.now c.args.lines.now.items

pub push_event-requires : goal.push_event-requires
push_event-requires c = omega (arith, c.loop-place.invariant.few, length_taken c.events-events.result.now c.loop-place.place (omega arith))

pub loop-place-preserved : goal.loop-place-preserved
loop-place-preserved c =
    let kept = c.args.self.now in
    let H = kept.history.now.events in
    let xs = c.events-events.result.now in
    let n = c.args.name.now in
    let i = c.loop-place.place in
    let d = c.index-events-place.result in
    let told = c.loop-place.invariant in
    let f = kept_by kept.marks.now H kept.calls.now kept.sessions.now kept.served.now n in
    let at : d ≡ get_or xs i d = c.index-events-place.is in
    let here : kept_at kept.marks.now H kept.calls.now kept.sessions.now kept.served.now n i c.loop-place.number d ≡ f (reverse (take i xs)) (get_or xs i d) =
    ap (kept_at kept.marks.now H kept.calls.now kept.sessions.now kept.served.now n i c.loop-place.number) at
    ∙ ap₂ (λ place before. kept_at kept.marks.now H kept.calls.now kept.sessions.now kept.served.now n place before (get_or xs i d)) (sym (length_taken xs i (omega arith))) told.number_is in
    gathered_next f n xs i d c.args.lines.now.items c.loop-place.lines.items c.push_event.new.lines.items
    (kept_at kept.marks.now H kept.calls.now kept.sessions.now kept.served.now n i c.loop-place.number d) c.loop-place.number c.in_ok-number.number (omega arith) told
    c.in_ok-number.ensures.lines here (c.in_ok-number.ensures.after ∙ ap (λ e. c.loop-place.number + (if is_call_of n e then 1 else 0)) at)

pub returns : goal.returns
returns c =
    let kept = c.args.self.now in
    let f = kept_by kept.marks.now kept.history.now.events kept.calls.now kept.sessions.now kept.served.now c.args.name.now in
    all_gathered f c.args.name.now c.events-events.result.now c.loop-place.place c.args.lines.now.items c.loop-place.lines.items c.loop-place.number (omega arith) c.loop-place.invariant
    ∙ ap (λ K. c.args.lines.now.items ++ gathered f K) (sym c.events-events.ensures)
