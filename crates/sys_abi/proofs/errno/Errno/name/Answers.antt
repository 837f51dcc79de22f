use Rattle.std.proofs.Common.{refl, rules}
use Rattle.sys_abi.specs.Errnos.{errnos}
use Rattle.sys_abi.proofs.Tables.{if_named}
use Rattle.sys_abi.proofs.errno.Errno.name.Goals as goal

pub returns-clause-back : goal.returns-clause-back
returns-clause-back c = if_named errnos c.name_of.result c.args.self refl (search rules)
