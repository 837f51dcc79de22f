use Rattle.std.proofs.Common.{rules, ◌∙◌, ap}
use Rattle.sys_abi.specs.Wire.{seccomp_data_bytes}
use Rattle.sys_abi.proofs.Structures.{seccomp_data_back}
use Rattle.sys_abi.proofs.wire.SeccompData.from_bytes.Goals as goal

pub returns-clause-fields : goal.returns-clause-fields
returns-clause-fields c = search rules

pub returns-clause-back : goal.returns-clause-back
returns-clause-back c = ap seccomp_data_bytes (returns-clause-fields c) ∙ seccomp_data_back c.args.bytes.now (search rules) (search rules)
