-- An effect that can't be told is passed over, and the first that can is found.
use Rattle.std.proofs.Common.{◌≡◌, ◌<◌, ◌∷◌, reverse, true, sym, ◌∙◌}
use Rattle.std.specs.List.{AllByRecursion}
use Rattle.judge_pass.specs.Told.{can_be_told, effect_is_for}
use Rattle.judge_pass.specs.Within.{effects_kept}
use Rattle.judge_pass.proofs.Telling.{found_first, none_left, passed_over}
use Rattle.judge_pass.proofs.told.first_told.Goals as goal

pub loop-effect-preserved : goal.loop-effect-preserved
loop-effect-preserved c =
    let first = c.in-Some.ensures.cases.0 in
    let K = reverse c.args.before.now in
    let low : AllByRecursion (λ n. n < effects_kept c.args.judge.now) (c.in-Some.effect.now ∷ c.in-Some.later.now) = rw first at c.loop-effect.invariant.low in
    record {
      low = low.1;
      own = λ at all. (rw first at (c.loop-effect.invariant.own at all)).1;
      found = λ P S w at h c_is all_is start own.
          let for : effect_is_for K at c.in-Some.effect.now ≡ true = (rw first at (c.loop-effect.invariant.own at own)).0 in
          passed_over (can_be_told K w at) c.loop-effect.rest.now c.in-Some.later.now c.in-Some.effect.now _ first
          (sym (c.in_ok-can_be_told.ensures P S w at h c_is all_is start for) ∙ c.if-branch.false) (c.loop-effect.invariant.found P S w at h c_is all_is start own);
    }

pub returns-then-branch-clause-first : goal.returns-then-branch-clause-first
returns-then-branch-clause-first c = λ P S w at h c_is all_is start own.
    let K = reverse c.args.before.now in
    let first = c.in-Some.ensures.cases.0 in
    let for : effect_is_for K at c.in-Some.effect.now ≡ true = (rw first at (c.loop-effect.invariant.own at own)).0 in
    found_first (can_be_told K w at) c.loop-effect.rest.now c.in-Some.later.now c.in-Some.effect.now _ first
    (sym (c.in_ok-can_be_told.ensures P S w at h c_is all_is start for) ∙ c.if-branch.true) (c.loop-effect.invariant.found P S w at h c_is all_is start own)

pub returns-then-branch-clause-kept : goal.returns-then-branch-clause-kept
returns-then-branch-clause-kept c =
    let low : AllByRecursion (λ n. n < effects_kept c.args.judge.now) (c.in-Some.effect.now ∷ c.in-Some.later.now) = rw c.in-Some.ensures.cases.0 at c.loop-effect.invariant.low in
    low.0

pub returns-clause-first : goal.returns-clause-first
returns-clause-first c = λ P S w at h c_is all_is start own.
    let K = reverse c.args.before.now in
    none_left (can_be_told K w at) c.loop-effect.rest.now _ c.in_default.ensures.cases (c.loop-effect.invariant.found P S w at h c_is all_is start own)
