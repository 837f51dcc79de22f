use Rattle.std.proofs.Common.{refl, ◌∙◌}
use Rattle.explorer.specs.Walking.{EndsFirst, walks_in}
use Rattle.explorer.proofs.PassByPass.{all_done, begun, has_events, stopped, went_on}
use Rattle.explorer.proofs.Walkers.{fewer_left}
use Rattle.explorer.proofs.passes.pass.Goals as goal

pub walks-init : goal.walks-init
walks-init c =
    let P = c.args.policy.now in
    let g = c.in_ok-walker.ensures P c.args.workers in
    record {
      told = c.requires.told;
      goes_on = record { script_is = g.script_is; going = g.going; left = refl };
      under_way = begun P c.args.script c.args.workers c.args.delays c.args.found.now c.in_ok-walker.walker g;
    }

pub next-requires-clause-going : goal.next-requires-clause-going
next-requires-clause-going c = c.walks.invariant.goes_on.going

pub returns-in-All-clause-script : goal.returns-in-All-clause-script
returns-in-All-clause-script c =
    let i = c.walks.invariant in
    let over = rw c.in-All.is at c.in_ok-script.ensures c.args.script _ i.goes_on in over.0

pub returns-in-All-clause-explored : goal.returns-in-All-clause-explored
returns-in-All-clause-explored c =
    let i = c.walks.invariant in
    let over = rw c.in-All.is at c.in_ok-script.ensures c.args.script _ i.goes_on in
    all_done c.args.policy.now c.args.script c.args.workers c.args.delays c.args.found.now c.walks.found c.walks.walker i.under_way over.1

pub note_spent-requires-clause-begun : goal.note_spent-requires-clause-begun
note_spent-requires-clause-begun c =
    let i = c.walks.invariant in
    let ended : EndsFirst c.args.policy.now c.args.script c.args.workers (walks_in c.args.policy.now c.args.workers c.walks.walker) c.in-Ended.left c.in-Ended.history.events c.in-Ended.hidden.items c.in-Ended.rest = rw c.in-Ended.is at c.in_ok-script.ensures c.args.script _ i.goes_on in
    has_events c.args.policy.now c.args.script c.args.workers _ _ _ _ _ ended

pub note_spent-requires-clause-few : goal.note_spent-requires-clause-few
note_spent-requires-clause-few c =
    let i = c.walks.invariant in
    let ended : EndsFirst c.args.policy.now c.args.script c.args.workers (walks_in c.args.policy.now c.args.workers c.walks.walker) c.in-Ended.left c.in-Ended.history.events c.in-Ended.hidden.items c.in-Ended.rest = rw c.in-Ended.is at c.in_ok-script.ensures c.args.script _ i.goes_on in
    ended.few

pub returns-then-not-goes_on-clause-script : goal.returns-then-not-goes_on-clause-script
returns-then-not-goes_on-clause-script c =
    let i = c.walks.invariant in
    let ended : EndsFirst c.args.policy.now c.args.script c.args.workers (walks_in c.args.policy.now c.args.workers c.walks.walker) c.in-Ended.left c.in-Ended.history.events c.in-Ended.hidden.items c.in-Ended.rest = rw c.in-Ended.is at c.in_ok-script.ensures c.args.script _ i.goes_on in
    c.in_ok-into_script-in-Ended.ensures ∙ ended.goes_on.script_is

pub returns-then-not-goes_on-clause-explored : goal.returns-then-not-goes_on-clause-explored
returns-then-not-goes_on-clause-explored c =
    let P = c.args.policy.now in
    let S = c.args.script in
    let W = c.args.workers in
    let i = c.walks.invariant in
    let ended : EndsFirst P S W (walks_in P W c.walks.walker) c.in-Ended.left c.in-Ended.history.events c.in-Ended.hidden.items c.in-Ended.rest = rw c.in-Ended.is at c.in_ok-script.ensures S _ i.goes_on in
    stopped P S W c.args.delays c.args.found.now c.walks.found c.walks.walker i.under_way _ _ _ _ ended c.note_spent.new.found _ (c.in_ok-goes_on-in-Ended.ensures.notes S ended.walk ended.left_is ended.history_is (c.as_slice.ensures.value ∙ ended.hidden_is)) c.if-not-goes_on.true

pub walks-preserved : goal.walks-preserved
walks-preserved c =
    let P = c.args.policy.now in
    let S = c.args.script in
    let W = c.args.workers in
    let i = c.walks.invariant in
    let ended : EndsFirst P S W (walks_in P W c.walks.walker) c.in-Ended.left c.in-Ended.history.events c.in-Ended.hidden.items c.in-Ended.rest = rw c.in-Ended.is at c.in_ok-script.ensures S _ i.goes_on in
    record {
      told = c.in_ok-goes_on-in-Ended.ensures.told S i.told.0 (c.as_slice.ensures.value ∙ ended.hidden_is) i.told.1;
      goes_on = record { script_is = ended.goes_on.script_is; going = ended.goes_on.going; left = refl };
      under_way = went_on P S W c.args.delays c.args.found.now c.walks.found c.walks.walker i.under_way _ _ _ _ ended c.note_spent.new.found _ (c.in_ok-goes_on-in-Ended.ensures.notes S ended.walk ended.left_is ended.history_is (c.as_slice.ensures.value ∙ ended.hidden_is)) c.if-not-goes_on.false;
    }

pub walks-smaller : goal.walks-smaller
walks-smaller c =
    let P = c.args.policy.now in
    let S = c.args.script in
    let W = c.args.workers in
    let i = c.walks.invariant in
    let ended : EndsFirst P S W (walks_in P W c.walks.walker) c.in-Ended.left c.in-Ended.history.events c.in-Ended.hidden.items c.in-Ended.rest = rw c.in-Ended.is at c.in_ok-script.ensures S _ i.goes_on in
    fewer_left P S W _ c.walks.walker c.in-Ended.rest _ _ _ i.goes_on ended

pub note_spent-requires-clause-told : goal.note_spent-requires-clause-told
note_spent-requires-clause-told c = (c.args.script, c.walks.invariant.told.0, c.walks.invariant.told.1)
