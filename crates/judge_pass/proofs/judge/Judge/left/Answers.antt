use Rattle.std.proofs.Common.{sym, ◌∙◌}
use Rattle.judge_pass.proofs.LeftCalls.{left-some}
use Rattle.judge_pass.proofs.judge.Judge.left.Goals as goal

pub returns-then-is_left : goal.returns-then-is_left
returns-then-is_left c P S K s = sym c.if-is_left.true ∙ left-some P S K c.args.self.now c.args.call c.in-Some.call c.is_left.result s c.in-Some.is c.requires.call (λ p at. c.is_left.ensures P S K p s at)

pub returns-else-is_left : goal.returns-else-is_left
returns-else-is_left c P S K s = sym c.if-is_left.false ∙ left-some P S K c.args.self.now c.args.call c.in-Some.call c.is_left.result s c.in-Some.is c.requires.call (λ p at. c.is_left.ensures P S K p s at)
