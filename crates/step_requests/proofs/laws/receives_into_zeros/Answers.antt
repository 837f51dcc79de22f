-- By the proof for each buffer.
use Rattle.step_requests.proofs.Structures.{recv_alike}
use Rattle.step_requests.proofs.laws.receives_into_zeros.Goals as goal

pub returns : goal.returns
returns c = recv_alike
