-- What is told is told of what the play has found.
use Rattle.std.proofs.Common.{ap, refl, subst, ◌∙◌}
use Rattle.judge_pass.specs.Counted.{AreCounted}
use Rattle.judge_pass.specs.Finding.{finding}
use Rattle.turn_player.specs.Turns.{turned}
use Rattle.step_words.specs.Judgements.{judged_history}
use Rattle.step_words.proofs.Judged.{told_of_either}
use Rattle.step_words.proofs.judging.judged.Goals as goal

pub play_judged-requires-clause-turns : goal.play_judged-requires-clause-turns
play_judged-requires-clause-turns c = rw c.items.ensures c.in_ok-lines.ensures.turns

pub play_judged-requires-clause-apart : goal.play_judged-requires-clause-apart
play_judged-requires-clause-apart c = rw c.items.ensures c.in_ok-lines.ensures.apart

pub returns : goal.returns
returns c =
    let P = c.args.policy.now in
    let S = c.args.file.script in
    let K = judged_history P c.args.file in
    let judgement = c.in_ok-judgement.judgement in
    let play = c.in_ok-judgement.ensures in
    let tells = c.in_ok-told.ensures in
    let same = c.items.ensures ∙ c.in_ok-lines.ensures.are in
    told_of_either judgement.found (finding P S K) K c.in_ok-told.told (play.found ∙ ap (λ turns. finding P S (turned P S turns)) same)
    (λ it is. tells.broken K it is)
    (λ none. tells.mediated K none refl (play.events none ∙ ap (λ turns. turned P S turns) same) (subst (λ turns. AreCounted (turned P S turns) judgement.counts) same (play.counts none)))
