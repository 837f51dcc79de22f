-- By the proof for each answer.
use Rattle.step_requests.proofs.Structures.{send_alike}
use Rattle.step_requests.proofs.laws.sends_the_fields.Goals as goal

pub returns : goal.returns
returns c = send_alike
