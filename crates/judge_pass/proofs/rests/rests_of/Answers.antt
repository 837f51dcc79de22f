-- By each kind of effect.
use Rattle.std.proofs.lemmas.Result.{IfOk-weaker}
use Rattle.judge_pass.proofs.rests.rests_of.Goals as goal

pub returns-in-Act : goal.returns-in-Act
returns-in-Act c = IfOk-weaker c.rests_on_texts.result _ _ (λ rests e K w at is same.
    rw (c.in-Act.is, ← c.get.ensures) (e c.args.policy.now K w at c.in-Act.cap c.in-Act.answer is same)) c.rests_on_texts.ensures

pub returns-in-AddfdPut : goal.returns-in-AddfdPut
returns-in-AddfdPut c = IfOk-weaker c.rests_on_copies.result _ _ (λ rests e K w at is same.
    rw c.in-AddfdPut.is (e K w at c.in-AddfdPut.asked c.in-AddfdPut.answer is same)) c.rests_on_copies.ensures
