use Rattle.std.proofs.Common.{rules, ◌∙◌, ap}
use Rattle.sys_abi.specs.Wire.{addfd_of, addfd_bytes}
use Rattle.sys_abi.proofs.Structures.{addfd_of_bytes}
use Rattle.sys_abi.proofs.wire.Addfd.to_bytes.Goals as goal

pub returns-clause-bytes : goal.returns-clause-bytes
unfolding addfd_bytes
returns-clause-bytes c = search rules

pub returns-clause-back : goal.returns-clause-back
returns-clause-back c = ap addfd_of (returns-clause-bytes c) ∙ addfd_of_bytes c.args.self.now (search rules) (search rules) (search rules) (search rules) (search rules)
