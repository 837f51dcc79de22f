-- By the proof for each request.
use Rattle.step_requests.proofs.Structures.{addfd_alike}
use Rattle.step_requests.proofs.laws.puts_the_fields.Goals as goal

pub returns : goal.returns
returns c = addfd_alike
