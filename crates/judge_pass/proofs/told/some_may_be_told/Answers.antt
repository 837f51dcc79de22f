-- An effect that may not be told is passed over.
use Rattle.std.proofs.Common.{◌<◌, ◌∷◌, reverse, sym}
use Rattle.std.specs.List.{AllByRecursion}
use Rattle.judge_pass.specs.Told.{can_be_told}
use Rattle.judge_pass.specs.Within.{effects_kept}
use Rattle.judge_pass.proofs.Remembered.{can_not_be}
use Rattle.judge_pass.proofs.Telling.{effect_hand, none_left, passed_over}
use Rattle.judge_pass.proofs.told.some_may_be_told.Goals as goal

pub loop-effect-preserved : goal.loop-effect-preserved
loop-effect-preserved c =
    let first = c.in-Some.ensures.cases.0 in
    let low : AllByRecursion (λ n. n < effects_kept c.args.judge.now) (c.in-Some.effect.now ∷ c.in-Some.later.now) = rw first at c.loop-effect.invariant.low in
    record {
      low = low.1;
      found = λ P S w at h c_is.
          let K = reverse c.args.before.now in
          let hand = effect_hand P S K c.args.judge.now c.in-Some.effect.now h low.0 in
          passed_over (can_be_told K w at) c.loop-effect.rest.now c.in-Some.later.now c.in-Some.effect.now _ first
          (can_not_be K w at hand.call c.in-Some.effect.now hand.place hand.place_is hand.hand_is
          (sym (c.if-may_be_told.ensures P S at hand.call hand.place h hand.place_is c_is hand.hand_is)))
          (c.loop-effect.invariant.found P S w at h c_is);
    }

pub returns : goal.returns
returns c = λ P S w at h c_is no.
    let K = reverse c.args.before.now in
    sym (none_left (can_be_told K w at) c.loop-effect.rest.now _ c.in_default.ensures.cases (c.loop-effect.invariant.found P S w at h c_is))
