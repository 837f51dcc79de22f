-- The call is the one that the id names, and nothing is installed yet.
use Rattle.std.proofs.Common.{◌<◌, ◌^◌, refl, ◌∙◌, arith}
use Rattle.judge_pass.proofs.EffectEvents.{named-within, put-kept}
use Rattle.judge_pass.proofs.judge.Judge.put_of.Goals as goal

pub returns-in_ok-texts_put-in-AddfdPut-clause-put : goal.returns-in_ok-texts_put-in-AddfdPut-clause-put
returns-in_ok-texts_put-in-AddfdPut-clause-put c P S K w s is =
    let fits : c.in-AddfdPut.asked.id < 2 ^ 64 = omega arith in
    rw c.in-AddfdPut.is (put-kept P S K w c.args.self.now s c.in-AddfdPut.asked c.in-AddfdPut.answer fits _ c.named.ensures refl
    (λ n ok at. c.in_ok-texts_put-in-AddfdPut.ensures P S K w n s is (c.is_ok.ensures.value ∙ ok) at))

pub returns-in_ok-texts_put-in-AddfdPut-clause-within : goal.returns-in_ok-texts_put-in-AddfdPut-clause-within
returns-in_ok-texts_put-in-AddfdPut-clause-within c = rw c.named.ensures (named-within c.args.self.now.calls.first c.args.self.now.calls.rows.items c.in-AddfdPut.asked.id)
