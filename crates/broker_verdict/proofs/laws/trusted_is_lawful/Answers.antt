use Rattle.broker_verdict.proofs.Lawful.{lawful}
use Rattle.broker_verdict.proofs.laws.trusted_is_lawful.Goals as goal

pub returns : goal.returns
returns c P S K history trusted = lawful P S K history (c.kernel_keeps.ensures S K history) trusted
