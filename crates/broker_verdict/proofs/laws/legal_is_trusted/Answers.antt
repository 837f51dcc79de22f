use Rattle.broker_verdict.proofs.LegalTrusted.{legal_trusted}
use Rattle.broker_verdict.proofs.laws.legal_is_trusted.Goals as goal

pub returns : goal.returns
returns c = legal_trusted
