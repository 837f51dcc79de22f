-- It may be told, and was done for the texts that are kept.
use Rattle.std.proofs.Common.{◌≡◌, ℕ, ◌<◌, List, length, get_or, reverse, Some, true, ap, sym, ◌∙◌, arith}
use Rattle.std.proofs.lemmas.Result.{IfOk-weaker}
use Rattle.broker_verdict.specs.Answers.{is_entered_anew, may_share_texts, valid_texts}
use Rattle.broker_verdict.specs.Effects.{texts_done}
use Rattle.hist_model.specs.Look.{before}
use Rattle.hist_model.specs.declared.event.What.{What}
use Rattle.judge_pass.specs.Stands.{IsDone, seat_at, what_at}
use Rattle.judge_pass.specs.Told.{may_be_told, texts_kept}
use Rattle.judge_pass.proofs.CameOf.{what_there}
use Rattle.judge_pass.proofs.MayBeTold.{calls_at}
use Rattle.judge_pass.proofs.Remembered.{again_if, can_if, can_not_again, can_not_be, may_be_given, texts_are_kept}
use Rattle.judge_pass.proofs.Telling.{effect_hand}
use Rattle.judge_pass.proofs.told.can_be_told.Goals as goal

pub returns-then-not-may_be_told : goal.returns-then-not-may_be_told
returns-then-not-may_be_told c = λ P S w at h c_is all_is first own.
    let K = reverse c.args.before.now in
    let hand = effect_hand P S K c.args.judge.now c.args.effect h c.requires.effect in
    sym (can_not_be K w at hand.call c.args.effect hand.place hand.place_is hand.hand_is (sym (c.if-not-may_be_told.ensures P S at hand.call hand.place h hand.place_is c_is hand.hand_is)))

-- where the effect was done for another call of the task, between which and this one it took other steps
pub returns-then-not-is_entered_anew : goal.returns-then-not-is_entered_anew
returns-then-not-is_entered_anew c = λ P S w at h c_is all_is first own.
    let K = reverse c.args.before.now in
    let hand = effect_hand P S K c.args.judge.now c.args.effect h c.requires.effect in
    let calls = calls_at P S K c.args.judge.now c.args.effect c.args.call at hand.place hand.call c.index-done.result.now c.index-earlier.result.now c.index.result.now h c.requires.effect
    c.requires.call c.index-done.ensures c.index-earlier.ensures c.index.ensures hand.place_is hand.hand_is c_is in
    sym (can_not_again K w at hand.call c.args.effect hand.place hand.place_is hand.hand_is
    (sym (again_if K at hand.call c.args.first first)
    ∙ rw (← calls.later_at, ← calls.earlier_at) (sym c.if-not-is_entered_anew.ensures)))

pub returns : goal.returns
returns c = IfOk-weaker c.shares_texts.result _ _ (λ b e P S w at h c_is all_is first own.
    let K = reverse c.args.before.now in
    let done = c.index-done.result.now in
    let hand = effect_hand P S K c.args.judge.now c.args.effect h c.requires.effect in
    let may : may_be_told K at hand.call hand.place ≡ true = sym (c.if-not-may_be_told.ensures P S at hand.call hand.place h hand.place_is c_is hand.hand_is) in
    let kept = c.index-done.ensures in
    let inside : done.place < length c.args.before.now = rw (← kept) at (c.requires.among c.args.effect done c.requires.effect) in
    let is : IsDone K c.args.effect done = rw (← kept) at (h.done c.args.effect done (omega (arith, h.done_are, c.requires.effect))) in
    let there : Some done.place ≡ Some hand.place = sym is.place_is ∙ hand.place_is in
    let place : done.place ≡ hand.place = cc in
    let calls = calls_at P S K c.args.judge.now c.args.effect c.args.call at hand.place hand.call done c.index-earlier.result.now c.index.result.now h c.requires.effect
    c.requires.call kept c.index-earlier.ensures c.index.ensures hand.place_is hand.hand_is c_is in
    let again : is_entered_anew K at hand.call ≡ true =
    sym (again_if K at hand.call c.args.first first) ∙ rw (← calls.later_at, ← calls.earlier_at) (sym c.if-not-is_entered_anew.ensures) in
    let what = (get_or c.args.before.now done.place c.index-before-done.result).what in
    let texts : texts_kept what done.put ≡ texts_done (before K hand.place) (seat_at K hand.place) hand.call (what_at K hand.place) =
    ap (λ (x : What). texts_kept x done.put) (sym (what_there c.args.before.now c.index-before-done.result done.place inside))
    ∙ ap (λ (t : ℕ). texts_kept (what_at K t) done.put) place
    ∙ texts_are_kept K c.args.effect hand.place hand.call done is hand.place_is (may_be_given K at hand.call hand.place may) hand.hand_is in
    e ∙ ap (λ (x : List (List (List ℕ))). may_share_texts x (texts_kept what done.put)) all_is ∙ ap (may_share_texts (valid_texts K w at)) texts
    ∙ sym (can_if K w at hand.call c.args.effect hand.place hand.place_is hand.hand_is may again own)) c.shares_texts.ensures
