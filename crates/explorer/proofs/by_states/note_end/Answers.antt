use Rattle.std.proofs.Common.{◌≡◌, suc, arith}
use Rattle.explorer.specs.Runs.{script_in}
use Rattle.explorer.specs.declared.ends.End.{End}
use Rattle.explorer.proofs.AbleRuns.{still_going}
use Rattle.explorer.proofs.StatesPlayed.{end_as_one, is_end, length_here, schedule_here, text_here}
use Rattle.explorer.proofs.by_states.note_end.Goals as goal

pub hidden-requires : goal.hidden-requires
hidden-requires c = record { going = (c.args.policy.now, still_going c.args.policy.now _ _ c.args.run c.requires.run) }

pub returns-clause-ends : goal.returns-clause-ends
returns-clause-ends c = λ n key ms s done t.
    let P = c.args.policy.now in
    let r = c.args.run in
    let S = script_in r in
    let W = c.args.workers in
    let limit = c.requires.workers in
    let b = c.args.bound in
    let state = c.args.state.now in
    let run = c.requires.run in
    let few = c.has_few_events.ensures in
    let over = c.requires.over in
    let history = c.in_ok-script.history.events in
    let is = c.in_ok-script.ensures.events in
    let end : End = record { text = c.in_ok-outcome_of.field-0; count = c.in_ok-count.field-0; frames = c.in_ok-copied.field-0; left = c.left.result; schedule = c.in_ok-schedule_of.field-0 } in
    let text = text_here P S W limit b n key ms state s r run few over history is c.in_ok-hidden.hidden.items end.text.items c.in_ok-hidden.ensures (rw c.as_slice.ensures.value at c.in_ok-outcome_of.ensures) in
    let schedule = schedule_here P S W limit b n key ms state s r run few over history is _ c.in_ok-schedule_of.ensures in
    let frames = rw c.frames.ensures at c.in_ok-copied.ensures in
    let length : c.len.result ≡ suc (suc n) = omega (arith, length_here P S W limit b n key ms state s r run few over history is) in
    c.in_ok-note.ensures P S W b done ms t
    (is_end P S W limit b n key ms state s r run few over end frames text c.left.ensures c.in_ok-count.ensures schedule)
    (end_as_one P S W limit b n key ms state s r run few over end frames text c.left.ensures c.in_ok-count.ensures schedule _ length)
