-- By the outcome of the seat's effect, and what it did.
use Rattle.std.proofs.Common.{◌≡◌, ◌<◌, reverse, length, get_or, Some, ap, sym, ◌∙◌}
use Rattle.broker_verdict.specs.Answers.{is_answering, outcome_at}
use Rattle.broker_verdict.specs.Seats.{effect_of}
use Rattle.judge_pass.specs.Within.{effects_kept}
use Rattle.judge_pass.proofs.CameOf.{own_outcome, own_place, own_what}
use Rattle.judge_pass.proofs.answers.is_answering.Goals as goal

pub returns-in-Some : goal.returns-in-Some
returns-in-Some c = λ P S w h is.
    let K = reverse c.args.before.now in
    let n = c.in-Some.effect in
    let seat = c.args.seat.now in
    let done = c.index.result.now in
    let low : n < effects_kept c.args.judge.now = rw c.in-Some.is at c.requires.seat.effect in
    let inside : done.place < length c.args.before.now = rw (← c.index.ensures) at (c.requires.among n done low) in
    let at : effect_of K w ≡ Some done.place = own_place P S K c.args.judge.now w n seat done h is c.in-Some.is low c.index.ensures in
    let out : c.outcome.result ≡ outcome_at K (effect_of K w) = c.outcome.ensures P S h ∙ own_outcome P S K w n seat is c.in-Some.is in
    let what = own_what c.args.before.now w c.index-before-index.result done at inside in
    c.answers_call.ensures ∙ ap (λ o. is_answering (get_or c.args.before.now done.place c.index-before-index.result).what o) out ∙ ap (λ x. is_answering x (outcome_at K (effect_of K w))) (sym what)
