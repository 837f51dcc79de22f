use Rattle.std.proofs.Common.{◌+◌, drop, sym, ◌∙◌, arith}
use Rattle.std.proofs.lemmas.List.{append_assoc, append-nil, drop_more, drop_all}
use Rattle.history_frames.specs.Ordinals.{task_name_of}
use Rattle.tasks.proofs.table.Tasks.find.Goals as goal

pub loop-number-init : goal.loop-number-init
loop-number-init c S K h =
    let r = c.in_ok-task.ensures.some S K h in
    let s = c.in_ok-first.ensures.cases in
    (r.0, rw r.1 (sym s.0))

pub loop-number-preserved : goal.loop-number-preserved
loop-number-preserved c S K h =
    let i = c.loop-number.invariant S K h in
    let r = c.in_ok-task-2.ensures.some S K h i.0 in
    let d = drop_more c.in_ok-first.children.now c.loop-number.number-index 0 (omega (arith, c.loop-number-test.true)) in
    (r.0, rw (r.1, append_assoc) (rw d at i.1))

pub returns-in_err-task-2-clause-none : goal.returns-in_err-task-2-clause-none
returns-in_err-task-2-clause-none c = rw c.from_residual-in_err-task-2.ensures (λ S K h.
    let i = c.loop-number.invariant S K h in
    let d = drop_more c.in_ok-first.children.now c.loop-number.number-index 0 (omega (arith, c.loop-number-test.true)) in
    let n = c.in_err-task-2.ensures.none S K (drop (c.loop-number.number-index + 1) c.in_ok-first.children.now) h i.0 in
    rw (← i.1, d) n)

pub returns-clause-some : goal.returns-clause-some
returns-clause-some c S K h =
    let i = c.loop-number.invariant S K h in
    let d = drop_all c.loop-number.number-index c.in_ok-first.children.now (omega (arith, c.loop-number-test.false)) in
    (i.0, sym (append-nil (task_name_of K c.loop-number.task)) ∙ (rw d at i.1))
