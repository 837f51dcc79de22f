use Rattle.std.proofs.Common.{rules, ◌∙◌, ap}
use Rattle.sys_abi.specs.Wire.{seccomp_data_of, notif_of, notif_bytes}
use Rattle.sys_abi.proofs.Fields.{last_part}
use Rattle.sys_abi.proofs.Structures.{notif_back}
use Rattle.sys_abi.proofs.wire.Notif.from_bytes.Goals as goal

pub returns-clause-fields : goal.returns-clause-fields
unfolding notif_of
returns-clause-fields c =
    let rest = last_part 16 64 c.args.bytes.now (search rules) in
    let call = c.seccomp_data.ensures ∙ ap seccomp_data_of rest in
    cc

pub returns-clause-back : goal.returns-clause-back
returns-clause-back c = ap notif_bytes (returns-clause-fields c) ∙ notif_back c.args.bytes.now (search rules) (search rules)
