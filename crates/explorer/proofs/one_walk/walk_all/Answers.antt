use Rattle.std.proofs.Common.{subst, arith, ◌∙◌}
use Rattle.delay_bounded.specs.Explored.{explored}
use Rattle.explorer.specs.Telling.{TellsOf}
use Rattle.explorer.specs.Walking.{EndsFirst}
use Rattle.explorer.proofs.OneWalk.{none_done, one_done, whole, within}
use Rattle.explorer.proofs.PassByPass.{has_events, has_room}
use Rattle.explorer.proofs.Walkers.{fewer_left}
use Rattle.explorer.proofs.one_walk.walk_all.Goals as goal

pub walks-init : goal.walks-init
walks-init c =
    let P = c.args.policy.now in
    none_done P c.args.script c.args.workers c.args.bound c.none-found.result c.in_ok-walker.walker (c.in_ok-walker.ensures P c.args.workers) (c.none-found.ensures.tells P c.args.script) c.none-found.ensures.bound c.none-found.ensures.events

pub next-requires-clause-going : goal.next-requires-clause-going
next-requires-clause-going c = c.walks.invariant.goes_on.going

pub joined-requires-clause-told : goal.joined-requires-clause-told
joined-requires-clause-told c = (c.args.policy.now, c.args.script, c.walks.invariant.done, c.walks.invariant.tells)

pub returns-in-All : goal.returns-in-All
returns-in-All c =
    let P = c.args.policy.now in
    let S = c.args.script in
    let W = c.args.workers in
    let part = c.walks.invariant in
    let ended = rw c.in-All.is at c.in_ok-_script.ensures S part.more part.goes_on in
    let told = c.in_ok-all-in-All.ensures.tells P S W (whole P S W c.args.bound c.walks.found c.walks.walker part ended.1) in
    (subst (λ n. TellsOf P S (explored P S W n) c.in_ok-all-in-All.all) part.bound_is told, omega (arith, c.in_ok-all-in-All.ensures.events, part.few))

pub note-requires-clause-told : goal.note-requires-clause-told
note-requires-clause-told c = (c.args.script, c.walks.invariant.done, c.walks.invariant.tells)

pub note-requires-clause-within : goal.note-requires-clause-within
note-requires-clause-within c =
    let part = c.walks.invariant in
    let ended : EndsFirst c.args.policy.now c.args.script c.args.workers part.more c.in-Ended.left c.in-Ended.history.events c.in-Ended.hidden.items c.in-Ended.rest = rw c.in-Ended.is at c.in_ok-_script.ensures c.args.script part.more part.goes_on in
    within c.args.policy.now c.args.script c.args.workers c.args.bound c.walks.found c.walks.walker part _ _ _ _ ended

pub note-requires-clause-begun : goal.note-requires-clause-begun
note-requires-clause-begun c =
    let part = c.walks.invariant in
    let ended : EndsFirst c.args.policy.now c.args.script c.args.workers part.more c.in-Ended.left c.in-Ended.history.events c.in-Ended.hidden.items c.in-Ended.rest = rw c.in-Ended.is at c.in_ok-_script.ensures c.args.script part.more part.goes_on in
    has_events c.args.policy.now c.args.script c.args.workers _ _ _ _ _ ended

pub note-requires-clause-few : goal.note-requires-clause-few
note-requires-clause-few c =
    let part = c.walks.invariant in
    let ended : EndsFirst c.args.policy.now c.args.script c.args.workers part.more c.in-Ended.left c.in-Ended.history.events c.in-Ended.hidden.items c.in-Ended.rest = rw c.in-Ended.is at c.in_ok-_script.ensures c.args.script part.more part.goes_on in
    ended.few

pub returns-then-is_full : goal.returns-then-is_full
returns-then-is_full c =
    let part = c.walks.invariant in
    let ended : EndsFirst c.args.policy.now c.args.script c.args.workers part.more c.in-Ended.left c.in-Ended.history.events c.in-Ended.hidden.items c.in-Ended.rest = rw c.in-Ended.is at c.in_ok-_script.ensures c.args.script part.more part.goes_on in
    c.in_ok-into_script-in-Ended.ensures ∙ ended.goes_on.script_is

pub walks-preserved : goal.walks-preserved
walks-preserved c =
    let P = c.args.policy.now in
    let S = c.args.script in
    let W = c.args.workers in
    let part = c.walks.invariant in
    let ended : EndsFirst P S W part.more c.in-Ended.left c.in-Ended.history.events c.in-Ended.hidden.items c.in-Ended.rest = rw c.in-Ended.is at c.in_ok-_script.ensures S part.more part.goes_on in
    one_done P S W c.args.bound c.walks.found c.walks.walker part _ _ _ _ ended c.note.new.self
    (c.in_ok-note-in-Ended.ensures.tells S part.done ended.walk ended.left_is ended.history_is (c.as_slice.ensures.value ∙ ended.hidden_is) part.tells) c.in_ok-note-in-Ended.ensures.bound (has_room _ _ c.is_full.ensures c.if-is_full.false)

pub walks-smaller : goal.walks-smaller
walks-smaller c =
    let P = c.args.policy.now in
    let S = c.args.script in
    let W = c.args.workers in
    let part = c.walks.invariant in
    let ended : EndsFirst P S W part.more c.in-Ended.left c.in-Ended.history.events c.in-Ended.hidden.items c.in-Ended.rest = rw c.in-Ended.is at c.in_ok-_script.ensures S part.more part.goes_on in
    fewer_left P S W part.more c.walks.walker c.in-Ended.rest _ _ _ part.goes_on ended
