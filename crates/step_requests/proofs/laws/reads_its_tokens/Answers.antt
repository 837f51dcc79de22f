-- By the proof for each line.
use Rattle.step_requests.proofs.Alone.{reads_alone}
use Rattle.step_requests.proofs.laws.reads_its_tokens.Goals as goal

pub returns : goal.returns
returns c = reads_alone
