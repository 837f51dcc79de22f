-- An act's texts are those of its request.
use Rattle.std.proofs.lemmas.Result.{IfOk-weaker}
use Rattle.judge_pass.proofs.effects.is_torn.Goals as goal

pub returns-in-Act : goal.returns-in-Act
returns-in-Act c = IfOk-weaker c.are_torn.result _ _ (λ b e K w at is same.
    rw (c.in-Act.is, ← c.get.ensures) (e K w at c.in-Act.cap c.in-Act.answer is same)) c.are_torn.ensures
