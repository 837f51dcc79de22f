use Rattle.model_kernel.proofs.KeyParts.{kernels_end}
use Rattle.model_kernel.proofs.laws.keys_tell_kernels.Goals as goal

pub returns : goal.returns
returns c = kernels_end
