use Rattle.std.proofs.Common.{rules, ◌∙◌, ap}
use Rattle.sys_abi.specs.Wire.{notif_of, notif_bytes}
use Rattle.sys_abi.proofs.Structures.{notif_of_bytes}
use Rattle.sys_abi.proofs.wire.Notif.to_bytes.Goals as goal

pub returns-clause-bytes : goal.returns-clause-bytes
unfolding notif_bytes
returns-clause-bytes c = search rules

pub returns-clause-back : goal.returns-clause-back
returns-clause-back c = ap notif_of (returns-clause-bytes c) ∙ notif_of_bytes c.args.self.now (search rules) (search rules) (search rules) (search rules)
