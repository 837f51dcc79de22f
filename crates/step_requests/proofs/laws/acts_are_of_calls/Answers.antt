-- By the proof for each call.
use Rattle.step_requests.proofs.Acts.{mknod_of_call, mknodat_of_call, mount_of_call, setxattr_of_call}
use Rattle.step_requests.proofs.laws.acts_are_of_calls.Goals as goal

pub returns : goal.returns
returns c = λ line. record { mknod = mknod_of_call line; mknodat = mknodat_of_call line; mount = mount_of_call line; setxattr = setxattr_of_call line }
