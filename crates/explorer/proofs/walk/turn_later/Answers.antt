use Rattle.std.proofs.Common.{◌≡◌, Some}
use Rattle.explorer.specs.Frames.{last_place}
use Rattle.explorer.proofs.Walked.{come_more, last_in, later_walks, same_turns}
use Rattle.explorer.proofs.walk.turn_later.Goals as goal

pub next_turn-requires-clause-inside : goal.next_turn-requires-clause-inside
next_turn-requires-clause-inside c =
    let P = c.args.policy.now in
    let fs = c.args.frames.now.items in
    let same : c.deref.result.now ≡ fs = cc in
    let last : c.last_place-last.result ≡ last_place 0 fs = cc in
    last_in P c.args.script c.args.workers fs c.in_ok-run.run' (same_turns P c.args.script c.args.workers c.deref.result.now fs c.in_ok-run.run' same c.in_ok-run.ensures) c.last_place-last.result last

pub returns : goal.returns
returns c =
    let P = c.args.policy.now in
    let S = c.args.script in
    let W = c.args.workers in
    let fs = c.args.frames.now.items in
    let same : c.deref.result.now ≡ fs = cc in
    let last : c.last_place-last.result ≡ last_place 0 fs = cc in
    let some : c.in_ok-turn.field-0 ≡ Some c.in-Some.turn = cc in
    let h = same_turns P S W c.deref.result.now fs c.in_ok-run.run' same c.in_ok-run.ensures in (
      come_more P S W fs c.in_ok-run.run' c.next_turn.new.self h c.last_place-last.result c.args.tried last c.in_ok-turn.field-0 c.in_ok-turn.ensures c.in-Some.turn some c.args.left c.push.new.self.items c.in_ok-push.ensures.items,
      later_walks P S W fs c.in_ok-run.run' c.next_turn.new.self h c.last_place-last.result c.args.tried last c.in_ok-turn.field-0 c.in_ok-turn.ensures c.in-Some.turn some c.args.left c.push.new.self.items c.in_ok-push.ensures.items,
    )
