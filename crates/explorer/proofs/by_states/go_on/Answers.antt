use Rattle.std.proofs.Common.{◌≡◌, ◌∙◌, ◌+◌, ◌-◌, ◌<◌, ◌≤◌, None, Some, refl, sym, subst, arith}
use Rattle.std.proofs.lemmas.Result.{IfOk-weaker}
use Rattle.explorer.specs.Joining.{turns_behind}
use Rattle.explorer.specs.Levels.{GoesOn}
use Rattle.explorer.specs.declared.by_states.Found.{Found}
use Rattle.explorer.specs.declared.ends.Ends.{Ends}
use Rattle.explorer.specs.declared.frames.Frame.{Frame}
use Rattle.explorer.proofs.StateTurns.{all_had, enough_had, few_had, none_able, none_later, one_more_had, over_found, own_run, run_there}
use Rattle.explorer.proofs.by_states.go_on.Goals as goal

pub returns-then-delays-eq0-clause-goes_on : goal.returns-then-delays-eq0-clause-goes_on
returns-then-delays-eq0-clause-goes_on c =
    let P = c.args.policy.now in
    let state = c.args.state.now in
    let i = c.turns.invariant in
    let found : Found = c.in_ok-run.field-0 in
    let finds = rw (i.script, c.frames.ensures) at c.in_ok-run.ensures in
    let none : found.turn ≡ None = cc in
    let over = over_found P c.args.script c.args.workers c.args.bound state.frames.items c.turns.tried found finds none in
    let had = rw c.if-delays-eq0.true at i.had in
    IfOk-weaker c.note_end.result _ _ (λ back ends n key ms s.
    none_able P c.args.script c.args.workers c.args.bound c.requires.workers state c.turns.tried c.args.next.now c.turns.next had found finds over.1 c.args.ends.now c.note_end.new.ends n key ms s
    ((rw (over.0.at.script, i.ends) at ends) n key ms s)) c.note_end.ensures.ends

pub returns-in_default-turn-clause-goes_on : goal.returns-in_default-turn-clause-goes_on
returns-in_default-turn-clause-goes_on c =
    let some : 0 < c.turns.delays = omega arith in
    λ n key ms s.
    let P = c.args.policy.now in
    let state = c.args.state.now in
    let i = c.turns.invariant in
    let found : Found = c.in_ok-run.field-0 in
    let finds = rw (i.script, c.frames.ensures) at c.in_ok-run.ensures in
    let none : found.turn ≡ None = cc in
    let over = over_found P c.args.script c.args.workers c.args.bound state.frames.items c.turns.tried found finds none in
    subst (λ (e : Ends). GoesOn P c.args.script c.args.workers c.args.bound n ms c.args.ends.now e c.args.next.now c.turns.next) (sym i.ends)
    (all_had P c.args.script c.args.workers c.args.bound state c.turns.delays c.turns.tried c.args.next.now c.turns.next i.had c.args.ends.now n key ms s some over.1)

pub join_turn-requires-clause-run : goal.join_turn-requires-clause-run
join_turn-requires-clause-run c =
    let P = c.args.policy.now in
    let state = c.args.state.now in
    let i = c.turns.invariant in
    let found : Found = c.in_ok-run.field-0 in
    let finds = rw (i.script, c.frames.ensures) at c.in_ok-run.ensures in
    let t = c.in-Some-turn.turn in
    let is : found.turn ≡ Some t = cc in
    let frame : Frame = record { place = t.place; next = t.next; left = c.in-Some.left } in
    own_run P c.args.script c.args.workers c.args.bound (turns_behind state frame) found.run
    (run_there P c.args.script c.args.workers c.args.bound c.requires.workers state c.turns.delays c.turns.tried c.args.next.now c.turns.next c.turns.next i.had found finds t is frame refl)

pub overflow_add-delays : goal.overflow_add-delays
overflow_add-delays c =
    let P = c.args.policy.now in
    let i = c.turns.invariant in
    let found : Found = c.in_ok-run.field-0 in
    let finds = rw (i.script, c.frames.ensures) at c.in_ok-run.ensures in
    let t = c.in-Some-turn.turn in
    let is : found.turn ≡ Some t = cc in
    omega (arith, few_had P c.args.script c.args.workers c.args.bound c.requires.workers c.args.state.now c.turns.delays c.turns.tried c.args.next.now c.turns.next c.turns.next i.had found finds t is)

pub returns-then-end-tried-clause-level : goal.returns-then-end-tried-clause-level
returns-then-end-tried-clause-level c =
    let within : c.turns.delays ≤ c.args.state.now.left = omega arith in
    let less : c.in-Some.left ≡ c.args.state.now.left - c.turns.delays = omega arith in
    let P = c.args.policy.now in
    let state = c.args.state.now in
    let i = c.turns.invariant in
    let found : Found = c.in_ok-run.field-0 in
    let finds = rw (i.script, c.frames.ensures) at c.in_ok-run.ensures in
    let t = c.in-Some-turn.turn in
    let is : found.turn ≡ Some t = cc in
    let joined = c.in_ok-script-2.ensures.level in
    let had = one_more_had P c.args.script c.args.workers c.args.bound c.requires.workers state c.turns.delays c.turns.tried c.args.next.now c.turns.next c.join_turn.new.next i.had found finds t is
    within c.requires.room joined.0 joined.1 (rw less at joined.2) in
    had.one_each

pub returns-then-end-tried-clause-goes_on : goal.returns-then-end-tried-clause-goes_on
returns-then-end-tried-clause-goes_on c =
    let within : c.turns.delays ≤ c.args.state.now.left = omega arith in
    let less : c.in-Some.left ≡ c.args.state.now.left - c.turns.delays = omega arith in
    let some : 0 < c.turns.delays + 1 = omega arith in
    λ n key ms s.
    let P = c.args.policy.now in
    let state = c.args.state.now in
    let i = c.turns.invariant in
    let found : Found = c.in_ok-run.field-0 in
    let finds = rw (i.script, c.frames.ensures) at c.in_ok-run.ensures in
    let t = c.in-Some-turn.turn in
    let is : found.turn ≡ Some t = cc in
    let joined = c.in_ok-script-2.ensures.level in
    let had = one_more_had P c.args.script c.args.workers c.args.bound c.requires.workers state c.turns.delays c.turns.tried c.args.next.now c.turns.next c.join_turn.new.next i.had found finds t is
    within c.requires.room joined.0 joined.1 (rw less at joined.2) in
    subst (λ (e : Ends). GoesOn P c.args.script c.args.workers c.args.bound n ms c.args.ends.now e c.args.next.now c.join_turn.new.next) (sym i.ends)
    (all_had P c.args.script c.args.workers c.args.bound state (c.turns.delays + 1) t.next c.args.next.now c.join_turn.new.next had c.args.ends.now n key ms s some
    (none_later P c.args.script c.args.workers c.args.bound state.frames.items found.end t.next c.if-end-tried.true finds.end))

pub turns-preserved : goal.turns-preserved
turns-preserved c =
    let within : c.turns.delays ≤ c.args.state.now.left = omega arith in
    let less : c.in-Some.left ≡ c.args.state.now.left - c.turns.delays = omega arith in
    let P = c.args.policy.now in
    let state = c.args.state.now in
    let i = c.turns.invariant in
    let found : Found = c.in_ok-run.field-0 in
    let finds = rw (i.script, c.frames.ensures) at c.in_ok-run.ensures in
    let t = c.in-Some-turn.turn in
    let is : found.turn ≡ Some t = cc in
    let joined = c.in_ok-script-2.ensures.level in
    let had = one_more_had P c.args.script c.args.workers c.args.bound c.requires.workers state c.turns.delays c.turns.tried c.args.next.now c.turns.next c.join_turn.new.next i.had found finds t is
    within c.requires.room joined.0 joined.1 (rw less at joined.2) in
    let there = run_there P c.args.script c.args.workers c.args.bound c.requires.workers state c.turns.delays c.turns.tried c.args.next.now c.turns.next c.turns.next i.had found finds t is
    (record { place = t.place; next = t.next; left = c.in-Some.left }) refl in
    record { script = c.in_ok-script-2.ensures.script ∙ there.at.script; ends = i.ends; had = had }

pub returns-clause-goes_on : goal.returns-clause-goes_on
returns-clause-goes_on c =
    let none : c.args.state.now.left < c.turns.delays = omega arith in
    let some : 0 < c.turns.delays = omega arith in
    λ n key ms s.
    let P = c.args.policy.now in
    let i = c.turns.invariant in
    subst (λ (e : Ends). GoesOn P c.args.script c.args.workers c.args.bound n ms c.args.ends.now e c.args.next.now c.turns.next) (sym i.ends)
    (enough_had P c.args.script c.args.workers c.args.bound c.args.state.now c.turns.delays c.turns.tried c.args.next.now c.turns.next i.had c.args.ends.now n key ms s some none)
