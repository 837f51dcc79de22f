-- The effects that are kept of the task are gone through.
use Rattle.std.proofs.Common.{◌≡◌, ℕ, ◌<◌, reverse, Some, true, ap, sym, ◌∙◌, arith, length}
use Rattle.std.specs.Prelude.{find, nat_le}
use Rattle.std.specs.List.{AllByRecursion}
use Rattle.std.proofs.lemmas.List.{length-reverse}
use Rattle.std.proofs.lemmas.List.Elements.{recursion_from_All}
use Rattle.std.proofs.lemmas.Result.{IfOk-weaker}
use Rattle.hist_model.specs.Calls.{caller}
use Rattle.hist_model.specs.Kinds.{notifies}
use Rattle.hist_model.specs.Look.{before}
use Rattle.history_frames.proofs.Ordinals.{place-below}
use Rattle.broker_verdict.specs.Answers.{only_enters_again, valid_texts}
use Rattle.broker_judge.specs.Called.{IsCalled}
use Rattle.judge_pass.specs.Stands.{effects_for, IsCall, place_of_effect}
use Rattle.judge_pass.specs.Told.{can_be_told, effect_is_for, IsFirst}
use Rattle.judge_pass.specs.Within.{effects_kept, IsCallWithin, IsTaskWithin}
use Rattle.judge_pass.proofs.Remembered.{effects_are_for, oldest_told}
use Rattle.judge_pass.proofs.Telling.{untold_is}
use Rattle.judge_pass.proofs.told.remembered_for.Goals as goal

pub returns-then-not-some_may_be_told-clause-place : goal.returns-then-not-some_may_be_told-clause-place
returns-then-not-some_may_be_told-clause-place c = λ P S w at h reads_is c_is.
    let K = reverse c.args.before.now in
    let own : c.as_slice-untold.result.now ≡ effects_for K (caller K at) = c.as_slice-untold.ensures.value
    ∙ untold_is P S K c.args.judge.now c.args.call at c.index-row.result.now c.index.result.now h c.requires.call c.index-row.ensures c.index.ensures c_is in
    sym (oldest_told K w at ∙ ap (λ l. place_of_effect K (find (can_be_told K w at) l)) (sym own)
    ∙ ap (place_of_effect K) (c.some_may_be_told.ensures P S w at h c_is c.if-not-some_may_be_told.true))

pub first_told-requires-clause-effects : goal.first_told-requires-clause-effects
first_told-requires-clause-effects c =
    let j = c.args.judge.now in
    let row : IsCallWithin j c.index-row.result.now = rw (← c.index-row.ensures) at (c.requires.within.calls c.args.call c.index-row.result.now c.requires.call) in
    let task : IsTaskWithin j c.index.result.now = rw (← c.index.ensures) at (c.requires.within.tasks c.index-row.result.now.caller c.index.result.now row.caller) in
    rw c.as_slice-untold.ensures.value (recursion_from_All (λ n. n < effects_kept j) c.index.result.now.untold.items task.untold)

pub returns-clause-place : goal.returns-clause-place
returns-clause-place c = IfOk-weaker c.first_told.result _ _ (λ found e P S w at h reads_is c_is.
    let K = reverse c.args.before.now in
    let j = c.args.judge.now in
    let row = c.index-row.result.now in
    let is : IsCall S K c.args.call row = rw (← c.index-row.ensures) at (h.calls c.args.call row (omega (arith, h.calls_are, c.requires.call))) in
    let there : Some row.place ≡ Some at = sym is.place_is ∙ c_is in
    let place : row.place ≡ at = cc in
    let called : IsCalled K at row.called = rw place at is.called in
    let texts : c.as_slice.result.now ≡ valid_texts K w at = c.as_slice.ensures.value ∙ c.in_ok-all.ensures K w at called reads_is in
    let own : c.as_slice-untold.result.now ≡ effects_for K (caller K at) = c.as_slice-untold.ensures.value
    ∙ untold_is P S K j c.args.call at row c.index.result.now h c.requires.call c.index-row.ensures c.index.ensures c_is in
    let for : AllByRecursion (λ n. effect_is_for K at n ≡ true) c.as_slice-untold.result.now = rw own (effects_are_for K at) in
    let low : row.place < length c.args.before.now = rw length-reverse at (place-below notifies K c.args.call row.place is.place_is).1 in
    let entered : (d : ℕ) → only_enters_again (before K row.place) d (caller K row.place) row.called.nr row.called.args ≡ nat_le c.first_entered-first.result d =
    c.first_entered-first.ensures low in
    let there-first : IsFirst K row.place c.first_entered-first.result = λ d. rw (is.called.nr_is, is.called.args_are) (entered d) in
    let first : IsFirst K at c.first_entered-first.result = rw place at there-first in
    ap (place_of_effect K) (e P S w at h c_is texts first for ∙ ap (find (can_be_told K w at)) own) ∙ sym (oldest_told K w at)) c.first_told.ensures.first
