use Rattle.std.proofs.Common.{◌≡◌, ◌∷◌, ◌++◌, ◌∙◌, ◌==◌, ℕ, Bool, true, [], Some, List, length, refl, ap, sym, arith}
use Rattle.std.proofs.lemmas.Bool.Decides.{nat_tests}
use Rattle.explorer.specs.declared.state.State.{State}
use Rattle.explorer.proofs.ByLevels.{all_over, come_first, level_came, level_there}
use Rattle.explorer.proofs.by_states.explore_by_states.Goals as goal

none_in : (states : List State) (n : ℕ) (empty : Bool) → length states ≡ n → empty ≡ (n == 0) → empty ≡ true → states ≡ []
none_in [] n empty l e t = refl
none_in (s ∷ states) n empty l e t =
    let zero : (n == 0) ≡ true = sym e ∙ t in
    let none : n ≡ 0 = grind (arith, nat_tests) in
    absurd (omega arith)

pub levels-init : goal.levels-init
levels-init c =
    let s = c.in_ok-start.field-0 in
    let one : c.push.new.self.items ≡ s ∷ [] = c.in_ok-push.ensures.items ∙ ap (λ (xs : List State). xs ++ s ∷ []) c.new-states.ensures.items in
    record {
      script = refl;
      come = come_first c.args.policy.now c.args.script c.args.workers c.of-bound.result c.none-ends.result s c.push.new.self.items one
          (c.none-ends.ensures c.args.policy.now c.args.script c.args.workers c.of-bound.result) c.in_ok-start.ensures.counts c.in_ok-start.ensures.frames c.in_ok-start.ensures.left c.in_ok-start.ensures.least;
    }

pub next_level-requires-clause-states : goal.next_level-requires-clause-states
next_level-requires-clause-states c =
    let i = c.levels.invariant in
    rw i.script (level_there c.args.policy.now c.args.script c.args.workers c.of-bound.result c.levels.ends c.levels.states.items c.as_slice.result.now c.as_slice.ensures.value i.come)

pub levels-preserved : goal.levels-preserved
levels-preserved c =
    let i = c.levels.invariant in
    let some : c.in_ok-back.next ≡ Some c.in-Some.next = cc in
    record {
      script = c.in_ok-back.ensures.script ∙ i.script;
      come = level_came c.args.policy.now c.args.script c.args.workers c.of-bound.result c.levels.ends c.next_level.new.ends c.levels.states.items c.as_slice.result.now c.as_slice.ensures.value i.come
          c.in_ok-back.next (rw i.script at c.in_ok-back.ensures.goes_on) c.in-Some.next some c.into_states-states.result.items c.into_states-states.ensures;
    }

pub returns : goal.returns
returns c =
    let none : c.levels.states.items ≡ [] = none_in c.levels.states.items _ c.is_empty.result (sym c.levels.states.ok.0) c.is_empty.ensures c.levels-test.false in
    let over = all_over c.args.policy.now c.args.script c.args.workers c.of-bound.result c.levels.ends c.levels.states.items c.levels.invariant.come none in
    let here = rw c.of-bound.ensures at over in
    c.in_ok-told.ensures c.args.policy.now c.args.script c.args.workers c.args.delays here.0 here.1 here.2
