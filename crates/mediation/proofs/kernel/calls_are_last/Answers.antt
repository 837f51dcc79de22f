use Rattle.mediation.proofs.KernelTasks as lemma
use Rattle.mediation.proofs.kernel.calls_are_last.Goals as goal

pub returns : goal.returns
returns c = lemma.calls_are_last
