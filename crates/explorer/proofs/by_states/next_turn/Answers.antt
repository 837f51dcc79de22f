use Rattle.explorer.proofs.AbleRuns.{still_going}
use Rattle.explorer.proofs.StateTurns.{found_next}
use Rattle.explorer.proofs.Walked.{last_in}
use Rattle.explorer.proofs.by_states.next_turn.Goals as goal

pub end_of_able-end-requires-clause-going : goal.end_of_able-end-requires-clause-going
end_of_able-end-requires-clause-going c = (c.args.policy.now, still_going c.args.policy.now c.args.script _ c.in_ok-run.run' c.in_ok-run.ensures.run)

pub end_of_able-end-requires-clause-inside : goal.end_of_able-end-requires-clause-inside
end_of_able-end-requires-clause-inside c =
    last_in c.args.policy.now c.args.script c.args.workers c.args.frames.now c.in_ok-run.run' c.in_ok-run.ensures c.last_place-last.result c.last_place-last.ensures

pub next_turn-requires-clause-inside : goal.next_turn-requires-clause-inside
next_turn-requires-clause-inside c =
    last_in c.args.policy.now c.args.script c.args.workers c.args.frames.now c.in_ok-run.run' c.in_ok-run.ensures c.last_place-last.result c.last_place-last.ensures

pub returns : goal.returns
returns c =
    let going = still_going c.args.policy.now c.args.script _ c.in_ok-run.run' c.in_ok-run.ensures.run in
    found_next c.args.policy.now c.args.script c.args.workers c.args.bound c.args.frames.now c.in_ok-run.run' c.in_ok-run.ensures c.last_place-last.result c.args.tried c.last_place-last.ensures c.has_few_events.ensures _
    c.in_ok-turn.ensures (c.end_of_able-end.ensures c.args.policy.now going)
