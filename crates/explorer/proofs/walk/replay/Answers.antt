use Rattle.std.proofs.Common.{◌∙◌, refl, arith}
use Rattle.explorer.specs.Runs.{story}
use Rattle.explorer.proofs.Walked.{next_after, next_turns, replayed, run_here}
use Rattle.explorer.proofs.walk.replay.Goals as goal

pub loop-frame-init : goal.loop-frame-init
loop-frame-init c =
    let begun = c.in_ok-run.ensures c.args.policy.now in
    record { at = run_here c.args.policy.now c.args.script c.args.workers _ c.in_ok-run.run' begun; turns = rw begun.at.events c.requires.turns; to = rw begun.at.events refl }

pub turn-requires-clause-inside : goal.turn-requires-clause-inside
turn-requires-clause-inside c =
    let next = next_turns c.args.policy.now c.args.script c.args.workers (story c.loop-frame.run) c.args.frames.now c.loop-frame.frame-index (record { place = 0; next = 0; left = 0 }) c.loop-frame-test.true c.loop-frame.invariant.turns in
    let inside = next.0 in
    omega (arith, inside, c.requires.workers)

pub turn-requires-clause-able : goal.turn-requires-clause-able
turn-requires-clause-able c =
    let next = next_turns c.args.policy.now c.args.script c.args.workers (story c.loop-frame.run) c.args.frames.now c.loop-frame.frame-index (record { place = 0; next = 0; left = 0 }) c.loop-frame-test.true c.loop-frame.invariant.turns in
    rw c.loop-frame.invariant.at.at.script next.1

pub loop-frame-preserved : goal.loop-frame-preserved
loop-frame-preserved c =
    let P = c.args.policy.now in
    let S = c.args.script in
    let W = c.args.workers in
    let K = story c.loop-frame.run in
    let fs = c.args.frames.now in
    let i = c.loop-frame.frame-index in
    let next = next_turns P S W K fs i (record { place = 0; next = 0; left = 0 }) c.loop-frame-test.true c.loop-frame.invariant.turns in
    let came = rw c.loop-frame.invariant.at.at.script at c.in_ok-turn.ensures in
    record {
      at = run_here P S W _ c.turn.new.self came;
      turns = rw came.at.events next.2;
      to = rw came.at.events (next_after P S W K fs i (record { place = 0; next = 0; left = 0 }) c.loop-frame-test.true ∙ c.loop-frame.invariant.to);
    }

pub returns : goal.returns
returns c = replayed c.args.policy.now c.args.script c.args.workers c.loop-frame.run c.args.frames.now c.loop-frame.frame-index (omega arith) c.loop-frame.invariant.at c.loop-frame.invariant.to c.requires.turns
