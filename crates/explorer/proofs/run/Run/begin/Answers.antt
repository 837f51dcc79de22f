use Rattle.outcome_text.specs.Sight.{marks}
use Rattle.explorer.proofs.run.Run.begin.Goals as goal

pub returns : goal.returns
unfolding marks
returns c = λ P. record { at = c.in_ok-new.ensures P; hands = c.empty.ensures c.args.script; marks_are = c.in_ok-none.ensures }
