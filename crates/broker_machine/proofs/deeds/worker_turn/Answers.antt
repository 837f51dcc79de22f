-- The deed that is due is tried, and where it was done the worker takes the answer that the history has of it.
-- By `has-tried` and the lemmas beside it, since the room that was made leaves the kernel the same.
use Rattle.std.proofs.Common.{◌≡◌, ◌<◌, ◌^◌, Bool, true, false, length, subst, ap, ◌∙◌, arith}
use Rattle.hist_model.specs.Legal.{rules_of}
use Rattle.hist_model.specs.Sessions.{deed, session}
use Rattle.hist_model.specs.Steps.{deed_step}
use Rattle.broker_core.specs.Answers.{answer_of, told}
use Rattle.model_kernel.specs.Kernels.{past, system}
use Rattle.broker_machine.proofs.Answered.{has-tried, newest-step, some-step, step-fits, step-remembered, tries-step, waits-on}
use Rattle.broker_machine.proofs.Rooms.{readied}
use Rattle.broker_machine.specs.Workers.{HasTried, TriesDeed, next_of}
use Rattle.broker_machine.proofs.deeds.worker_turn.Goals as goal
use Rattle.broker_machine.proofs.deeds.worker_turn.Goals.{After-took-arg-2-1, In_ok-do_deed}

pub returns-in_err-ready-clause-remembers : goal.returns-in_err-ready-clause-remembers
returns-in_err-ready-clause-remembers c = c.in_err-ready.ensures.known _ c.requires.remembers

pub returns-in_err-ready_event-clause-remembers : goal.returns-in_err-ready_event-clause-remembers
returns-in_err-ready_event-clause-remembers c = rw c.in_err-ready_event.ensures.past (c.in_ok-ready.ensures.known _ c.requires.remembers)

pub do_deed-requires-clause-allows : goal.do_deed-requires-clause-allows
do_deed-requires-clause-allows c =
    let old = c.args.kernel.now in
    let P = c.args.policy.now in
    let r = c.in_ok-ready.ensures.known _ c.requires.remembers in
    let next = rw (c.in_ok-ready.ensures.figures ∙ c.requires.figures) at (c.next-next.ensures.deed P _ r) in
    let few : length (past old) < 2 ^ 64 = omega (arith, c.has_few_events.ensures) in
    rw (c.in_ok-ready_event.ensures.past, next) (c.requires.allowed few)

pub returns-in_err-do_deed-clause-remembers : goal.returns-in_err-do_deed-clause-remembers
returns-in_err-do_deed-clause-remembers c =
    rw (c.in_err-do_deed.ensures.same.past_is ∙ c.in_ok-ready_event.ensures.past) (c.in_err-do_deed.ensures.keeps.known c.args.policy.now _ (c.in_ok-ready.ensures.known _ c.requires.remembers))

-- what was due was tried
tried : (c : In_ok-do_deed) (b : Bool) → c.in_ok-do_deed.field-0 ≡ b → HasTried c.args.policy.now c.args.kernel.now c.args.number c.next-next.result b c.do_deed.new.kernel c.do_deed.new.worker
tried c b is =
    let old = c.args.kernel.now in
    let mid = c.ready_event.new.self in
    let new = c.do_deed.new.kernel in
    let P = c.args.policy.now in
    let n = c.args.number in
    let r = c.in_ok-ready.ensures.known _ c.requires.remembers in
    let e = c.next-next.ensures.deed P _ r in
    let room = readied old mid c.requires.kernel c.in_ok-ready_event.ensures.past c.in_ok-ready_event.ensures.same in
    has-tried P old n mid new c.ready.new.self c.do_deed.new.worker c.next-next.result b room r (c.in_ok-ready.ensures.figures ∙ c.requires.figures) c.next-next.ensures.due e c.in_ok-do_deed.ensures.keeps
    (subst (λ x. TriesDeed mid n (deed (rules_of P c.ready.new.self.figures) (session (past old) n)) x new) is (c.in_ok-do_deed.ensures.done P _ r e))

pub returns-then-not-branch-clause-step : goal.returns-then-not-branch-clause-step
returns-then-not-branch-clause-step c =
    tries-step c.args.policy.now c.args.kernel.now c.args.number c.do_deed.new.kernel c.next-next.result false c.do_deed.new.worker
    (tried (goal.at.returns-then-not-branch-clause-step c).In_ok-do_deed false c.if-not-branch.true)

pub returns-then-not-branch-clause-remembers : goal.returns-then-not-branch-clause-remembers
returns-then-not-branch-clause-remembers c =
    waits-on c.args.policy.now c.args.kernel.now c.args.number c.do_deed.new.kernel c.next-next.result c.do_deed.new.worker
    (tried (goal.at.returns-then-not-branch-clause-remembers c).In_ok-do_deed false c.if-not-branch.true)

pub newest-step-requires : goal.newest-step-requires
newest-step-requires c =
    some-step c.args.policy.now c.args.kernel.now c.args.number c.do_deed.new.kernel c.next-next.result c.do_deed.new.worker
    (tried (goal.at.newest-step-requires c).In_ok-do_deed true c.if-not-branch.false)

-- the answer is that of the kernel's step for the deed
told-step : (c : After-took-arg-2-1) → HasTried c.args.policy.now c.args.kernel.now c.args.number c.next-next.result true c.do_deed.new.kernel c.do_deed.new.worker
    → told c.answer_of.result ≡ answer_of (deed_step (system c.args.kernel.now) (past c.args.kernel.now) c.args.number (next_of c.args.policy.now c.args.kernel.now c.args.number))
told-step c h =
    c.answer_of.ensures
    ∙ ap answer_of (newest-step c.args.policy.now c.args.kernel.now c.args.number c.do_deed.new.kernel c.next-next.result c.do_deed.new.worker c.newest-step.result.now h c.newest-step.ensures)

pub took-requires-clause-fits : goal.took-requires-clause-fits
took-requires-clause-fits c =
    let h = tried (goal.at.took-requires-clause-fits c).In_ok-do_deed true c.if-not-branch.false in
    step-fits c.args.policy.now c.args.kernel.now c.args.number c.do_deed.new.kernel c.next-next.result c.do_deed.new.worker (told c.answer_of.result) h (told-step c h)

pub returns-clause-step : goal.returns-clause-step
returns-clause-step c =
    rw c.step_taken.ensures
    (tries-step c.args.policy.now c.args.kernel.now c.args.number c.do_deed.new.kernel c.next-next.result true c.do_deed.new.worker
    (tried (goal.at.returns-clause-step c).In_ok-do_deed true c.if-not-branch.false))

pub returns-clause-remembers : goal.returns-clause-remembers
returns-clause-remembers c =
    let h = tried (goal.at.returns-clause-remembers c).In_ok-do_deed true c.if-not-branch.false in
    step-remembered c.args.policy.now c.args.kernel.now c.args.number c.do_deed.new.kernel c.next-next.result c.do_deed.new.worker c.took.new.self (told c.answer_of.result) h
    (told-step (goal.at.returns-clause-remembers c).After-took-arg-2-1 h) c.took.ensures.known
