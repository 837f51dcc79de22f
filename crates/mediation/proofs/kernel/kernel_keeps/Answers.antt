use Rattle.mediation.proofs.KernelClauses as lemma
use Rattle.mediation.proofs.kernel.kernel_keeps.Goals as goal

pub returns : goal.returns
returns c = lemma.keeps
