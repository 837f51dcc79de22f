use Rattle.std.proofs.Common.{rules, ◌∙◌, ap}
use Rattle.sys_abi.specs.Wire.{resp_of, resp_bytes}
use Rattle.sys_abi.proofs.Structures.{resp_back}
use Rattle.sys_abi.proofs.wire.Resp.from_bytes.Goals as goal

pub returns-clause-fields : goal.returns-clause-fields
unfolding resp_of
returns-clause-fields c = search rules

pub returns-clause-back : goal.returns-clause-back
returns-clause-back c = ap resp_bytes (returns-clause-fields c) ∙ resp_back c.args.bytes.now (search rules) (search rules)
