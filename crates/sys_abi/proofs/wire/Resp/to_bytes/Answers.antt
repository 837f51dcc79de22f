use Rattle.std.proofs.Common.{rules, ◌∙◌, ap}
use Rattle.sys_abi.specs.Wire.{resp_of, resp_bytes}
use Rattle.sys_abi.proofs.Structures.{resp_of_bytes}
use Rattle.sys_abi.proofs.wire.Resp.to_bytes.Goals as goal

pub returns-clause-bytes : goal.returns-clause-bytes
unfolding resp_bytes
returns-clause-bytes c = search rules

pub returns-clause-back : goal.returns-clause-back
returns-clause-back c = ap resp_of (returns-clause-bytes c) ∙ resp_of_bytes c.args.self.now (search rules) (search rules) (search rules) (search rules)
