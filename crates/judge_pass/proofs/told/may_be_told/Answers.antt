-- The tests of what is kept, one after another.
use Rattle.std.proofs.Common.{◌≡◌, Some, reverse, refl, ap, sym, ◌∙◌}
use Rattle.std.specs.Prelude.{is_some}
use Rattle.judge_pass.proofs.MayBeTold.{may_be}
use Rattle.broker_verdict.specs.Answers.{gave_at}
use Rattle.judge_pass.proofs.told.may_be_told.Goals as goal

pub returns : goal.returns
returns c = λ P S at d p h p_is c_is d_is.
    let K = reverse c.args.before.now in
    let given : c.is_some.result ≡ is_some (gave_at K (Some p)) = c.is_some.ensures ∙ ap is_some (c.gave.ensures P S h ∙ ap (gave_at K) p_is) in
    sym (may_be P S K c.args.judge.now c.args.effect c.args.call at d p c.index-done.result.now c.index-earlier.result.now c.index-later.result.now c.is_some.result h
    c.requires.effect c.requires.call c.index-done.ensures c.index-earlier.ensures c.index-later.ensures p_is c_is d_is given
    ∙ rw (sym c.if-not-is_open.ensures, sym c.if-not-have_same_registers.ensures) refl)
