-- The seat's effect stands at the place of the kept one.
use Rattle.std.proofs.Common.{◌≡◌, true, false, reverse, refl, ap, sym, ◌∙◌}
use Rattle.std.specs.Prelude.{is_some}
use Rattle.history_frames.specs.Ordinals.{nth_of}
use Rattle.broker_verdict.specs.Answers.{gave_at}
use Rattle.broker_verdict.specs.Seats.{effect_of, is_effect}
use Rattle.judge_pass.specs.Stands.{IsSeat, place_of_effect}
use Rattle.judge_pass.proofs.told.own_told.Goals as goal

pub returns-then-is_some-clause-place : goal.returns-then-is_some-clause-place
returns-then-is_some-clause-place c = λ P S h.
    let K = reverse c.args.before.now in
    let seat = c.index.result.now in
    let is : IsSeat S K c.args.worker seat = rw (← c.index.ensures) at (h.seats c.args.worker seat c.requires.worker) in
    let at : effect_of K c.args.worker ≡ nth_of is_effect K c.in_ok-own.own = is.effect_is ∙ ap (place_of_effect K) c.in_ok-own.was in
    let given : is_some (gave_at K (nth_of is_effect K c.in_ok-own.own)) ≡ true = ap is_some (sym (c.gave.ensures P S h)) ∙ sym c.is_some.ensures ∙ c.if-is_some.true in
    rw (at, given) refl

pub returns-else-is_some-clause-place : goal.returns-else-is_some-clause-place
returns-else-is_some-clause-place c = λ P S h.
    let K = reverse c.args.before.now in
    let seat = c.index.result.now in
    let is : IsSeat S K c.args.worker seat = rw (← c.index.ensures) at (h.seats c.args.worker seat c.requires.worker) in
    let at : effect_of K c.args.worker ≡ nth_of is_effect K c.in_ok-own.own = is.effect_is ∙ ap (place_of_effect K) c.in_ok-own.was in
    let given : is_some (gave_at K (nth_of is_effect K c.in_ok-own.own)) ≡ false = ap is_some (sym (c.gave.ensures P S h)) ∙ sym c.is_some.ensures ∙ c.if-is_some.false in
    rw (at, given) refl
