use Rattle.listener.proofs.Sent.{parsed-back}
use Rattle.listener.proofs.laws.a_response_is_parsed.Goals as goal

pub returns : goal.returns
returns c id back l h = parsed-back id back l h
