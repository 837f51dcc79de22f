-- The events before the call, and its task, are those of the history.
use Rattle.std.proofs.Common.{arith}
use Rattle.judge_pass.proofs.EnteredAnew.{before-past, caller-past}
use Rattle.judge_pass.proofs.entered_again.first_entered.Goals as goal

pub returns-in-Some : goal.returns-in-Some
returns-in-Some c low d =
    rw (before-past c.args.events.now c.args.place (omega (arith, low)), caller-past c.args.events.now c.in-Some.event.now c.args.place low, ← c.in-Some.ensures.lookup.1)
    (rw c.name_of.ensures at (c.first_passed.ensures d))
