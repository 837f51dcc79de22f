use Rattle.outcome_lines.proofs.KeyParts.{lines_end}
use Rattle.outcome_lines.proofs.laws.keys_tell_lines.Goals as goal

pub returns : goal.returns
returns c = lines_end
