-- The event at the place that is kept of the effect is what it did.
use Rattle.std.proofs.Common.{◌<◌, reverse, length, sym, ◌∙◌, arith}
use Rattle.judge_pass.specs.Stands.{IsDone}
use Rattle.judge_pass.proofs.CameOf.{outcome_there, what_there}
use Rattle.judge_pass.proofs.outcomes.outcome.Goals as goal

pub returns : goal.returns
returns c = λ P S h.
    let done = c.index-done.result.now in
    let e = c.index-before-done.result in
    let kept = c.index-done.ensures in
    let inside : done.place < length c.args.before.now = rw (← kept) at (c.requires.among c.args.effect done c.requires.effect) in
    let is : IsDone (reverse c.args.before.now) c.args.effect done = rw (← kept) at (h.done c.args.effect done (omega (arith, h.done_are, c.requires.effect))) in
    c.outcome_of.ensures P S (reverse c.args.before.now) c.args.effect h is (what_there c.args.before.now e done.place inside)
    ∙ sym (outcome_there P S c.args.before.now c.args.judge.now c.args.effect done e h c.requires.effect kept inside)
