use Rattle.std.proofs.Common.{◌≡◌, true, false, ◌∙◌, refl, sym, subst, arith, rules}
use Rattle.hist_model.specs.declared.script.Script.{Script}
use Rattle.explorer.specs.Telling.{TellsOf, with_fewer}
use Rattle.explorer.proofs.PassByPass.{ends_left, ends_none, ends_whole, next_pass, none_before}
use Rattle.explorer.proofs.passes.explore_by_passes.Goals as goal

pub loop-delays-init : goal.loop-delays-init
loop-delays-init c = record { script = refl; so_far = none_before c.args.policy.now c.args.script c.args.workers c.none-found.result (c.none-found.ensures c.args.policy.now c.args.script) }

pub pass-requires-clause-told : goal.pass-requires-clause-told
pass-requires-clause-told c =
    let P = c.args.policy.now in
    let fewer = with_fewer P c.args.script c.args.workers c.loop-delays.delays in
    (fewer, subst (λ (S : Script). TellsOf P S fewer c.loop-delays.found) (sym c.loop-delays.invariant.script) c.loop-delays.invariant.so_far.tells)

pub returns-then-not-whole : goal.returns-then-not-whole
returns-then-not-whole c =
    let i = c.loop-delays.invariant in
    let pass = rw i.script at c.in_ok-back.ensures.explored in
    let left : c.in_ok-back.whole ≡ false = search rules in
    let same : c.told.result.whole ≡ c.in_ok-back.whole = cc in
    ends_left c.args.policy.now c.args.script c.args.workers c.loop-delays.delays c.loop-delays.found c.pass.new.found i.so_far c.in_ok-back.whole pass c.told.result c.told.ensures.histories c.told.ensures.events c.told.ensures.longest c.told.ensures.outcomes same c.args.bound (omega arith) left

pub returns-then-histories-before : goal.returns-then-histories-before
returns-then-histories-before c =
    let i = c.loop-delays.invariant in
    let pass = rw i.script at c.in_ok-back.ensures.explored in
    let told = c.told-then-histories-before in
    let none : c.in_ok-back.whole ≡ true = search rules in
    let same : told.result.whole ≡ c.in_ok-back.whole = cc in
    ends_none c.args.policy.now c.args.script c.args.workers c.loop-delays.delays c.loop-delays.found c.pass.new.found i.so_far c.in_ok-back.whole pass told.result told.ensures.histories told.ensures.events told.ensures.longest told.ensures.outcomes same c.args.bound (omega arith) none (omega arith)

pub loop-delays-preserved : goal.loop-delays-preserved
loop-delays-preserved c =
    let i = c.loop-delays.invariant in
    let pass = rw i.script at c.in_ok-back.ensures.explored in
    let none : c.in_ok-back.whole ≡ true = search rules in
    record {
      script = c.in_ok-back.ensures.script ∙ i.script;
      so_far = next_pass c.args.policy.now c.args.script c.args.workers c.loop-delays.delays c.loop-delays.found c.pass.new.found i.so_far c.in_ok-back.whole pass none;
    }

pub returns : goal.returns
returns c =
    let told = c.told-2 in
    ends_whole c.args.policy.now c.args.script c.args.workers c.loop-delays.delays c.args.bound (omega arith) c.loop-delays.found c.loop-delays.invariant.so_far told.result told.ensures.histories told.ensures.events told.ensures.longest told.ensures.outcomes told.ensures.whole
