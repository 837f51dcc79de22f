-- Few lines are all told.
use Rattle.std.proofs.Common.{sym, arith}
use Rattle.std.proofs.lemmas.List.{take_all}
use Rattle.policy_compare.specs.Lines.{most_lines}
use Rattle.policy_compare.proofs.told.told_lines.Goals as goal

pub returns-then-lines-lt-MOST_LINES : goal.returns-then-lines-lt-MOST_LINES
returns-then-lines-lt-MOST_LINES c = sym (take_all most_lines c.args.lines.now (omega arith))
