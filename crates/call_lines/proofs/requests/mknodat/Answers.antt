-- The descriptor stands before the operands of mknod.
use Rattle.std.proofs.Common.{SFits, w32, rules}
use Rattle.std.proofs.lemmas.Int.{to_z-of_z}
use Rattle.call_lines.proofs.Descriptors.{descriptor_first}
use Rattle.call_lines.proofs.requests.mknodat.Goals as goal

pub returns-in_ok-dirfd-in-len1-up : goal.returns-in_ok-dirfd-in-len1-up
returns-in_ok-dirfd-in-len1-up c =
    let fits : SFits w32 c.in_ok-dirfd-in-len1-up.dirfd = search rules in
    let read = rw (to_z-of_z w32 c.in_ok-dirfd-in-len1-up.dirfd fits) at c.mknod.ensures in
    descriptor_first c.args.tokens.now c.dirfd-item.result c.in_ok-dirfd-in-len1-up.dirfd c.mknod.result c.in-len1-up.len_at_least c.dirfd-item.is c.in_ok-dirfd-in-len1-up.ensures read
