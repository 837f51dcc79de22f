use Rattle.std.proofs.Common.{◌≡◌, Some, None, refl, ◌∙◌}
use Rattle.explorer.specs.Frames.{last_place}
use Rattle.explorer.specs.Runs.{script_in}
use Rattle.explorer.proofs.Walked.{at_end, come_more, last_in, more_walks}
use Rattle.explorer.proofs.walk.walk_on.Goals as goal

pub next_turn-requires-clause-inside : goal.next_turn-requires-clause-inside
next_turn-requires-clause-inside c =
    let last : c.last_place-last.result ≡ last_place 0 c.turns.frames.items = cc in
    last_in c.args.policy.now (script_in c.args.run.now) c.args.workers c.turns.frames.items c.turns.run c.turns.invariant.come c.last_place-last.result last

pub returns-in_default : goal.returns-in_default
returns-in_default c =
    let last : c.last_place-last.result ≡ last_place 0 c.turns.frames.items = cc in
    let none : c.in_ok-turn.field-0 ≡ None = cc in
    at_end c.args.policy.now (script_in c.args.run.now) c.args.workers c.turns.frames.items c.turns.run c.next_turn.new.self c.turns.invariant.come c.last_place-last.result 0 last c.in_ok-turn.field-0 c.in_ok-turn.ensures
    c.has_few_events.ensures refl none _ c.args.left c.turns.invariant.rest

pub turns-preserved : goal.turns-preserved
turns-preserved c =
    let last : c.last_place-last.result ≡ last_place 0 c.turns.frames.items = cc in
    let some : c.in_ok-turn.field-0 ≡ Some c.in-Some.turn = cc in
    let P = c.args.policy.now in
    let S = script_in c.args.run.now in
    let W = c.args.workers in
    let fs = c.turns.frames.items in
    let h = c.turns.invariant.come in
    record {
      come = come_more P S W fs c.turns.run c.next_turn.new.self h c.last_place-last.result 0 last c.in_ok-turn.field-0 c.in_ok-turn.ensures c.in-Some.turn some c.args.left c.push.new.self.items c.in_ok-push.ensures.items;
      rest = c.turns.invariant.rest ∙ more_walks P S W fs c.turns.run c.next_turn.new.self h c.last_place-last.result 0 last c.in_ok-turn.field-0 c.in_ok-turn.ensures c.has_few_events.ensures refl c.in-Some.turn some c.args.left c.push.new.self.items c.in_ok-push.ensures.items;
    }
