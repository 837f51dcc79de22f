use Rattle.std.proofs.Common.{rules, ◌∙◌, ap}
use Rattle.sys_abi.specs.Wire.{addfd_of, addfd_bytes}
use Rattle.sys_abi.proofs.Structures.{addfd_back}
use Rattle.sys_abi.proofs.wire.Addfd.from_bytes.Goals as goal

pub returns-clause-fields : goal.returns-clause-fields
unfolding addfd_of
returns-clause-fields c = search rules

pub returns-clause-back : goal.returns-clause-back
returns-clause-back c = ap addfd_bytes (returns-clause-fields c) ∙ addfd_back c.args.bytes.now (search rules) (search rules)
