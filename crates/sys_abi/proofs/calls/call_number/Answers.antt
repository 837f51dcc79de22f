use Rattle.std.proofs.Common.{rules, to_z, of_z, w32}
use Rattle.sys_abi.proofs.CallLemmas.{name_of_call_number}
use Rattle.sys_abi.proofs.calls.call_number.Goals as goal

pub returns-clause-back : goal.returns-clause-back
returns-clause-back c = name_of_call_number (to_z w32 (of_z w32 c.from.result)) c.args.name.now (search rules)
