use Rattle.std.proofs.Common.{rules}
use Rattle.sys_abi.proofs.CallLemmas.{if_call_named}
use Rattle.sys_abi.proofs.calls.call_name.Goals as goal

pub returns-in-Ok-clause-back : goal.returns-in-Ok-clause-back
returns-in-Ok-clause-back c = if_call_named c.name_of.result c.args.nr (search rules)
