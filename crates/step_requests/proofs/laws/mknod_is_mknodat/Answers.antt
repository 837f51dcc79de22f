-- By the proof for each path, mode and device.
use Rattle.step_requests.proofs.Acts.{mknod_alike}
use Rattle.step_requests.proofs.laws.mknod_is_mknodat.Goals as goal

pub returns : goal.returns
returns c = mknod_alike
