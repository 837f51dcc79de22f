-- The policy of generated input: mknod and sysinfo are intercepted, and one rule of its own stands before.
use Rattle.std.specs.Prelude.{ℕ, true, false, List, [], ◌∷◌, ◌++◌, codes, pos}
use Rattle.hist_model.specs.Decisions.{Switches, all_rules, plain_rule}
use Rattle.hist_model.specs.Records.{PolicyRecord}
use Rattle.hist_model.specs.declared.policy.Calls.TheVariants.{Named}
use Rattle.hist_model.specs.declared.policy.Cond.TheVariants.{Dev}
use Rattle.hist_model.specs.declared.policy.Profile.TheVariants.{Plain}
use Rattle.hist_model.specs.declared.policy.Rule.{Rule}
use Rattle.hist_model.specs.declared.policy.Verdict.TheVariants.{Deny}
use Rattle.sys_abi.specs.Calls.{nr_mknod}
use Rattle.sys_abi.specs.Errnos.{eperm}

-- as a file has it
abbrev pub policy_text : List ℕ
policy_text =
    codes "{\"config\":{\"security.syscalls.intercept.mknod\":\"true\",\"security.syscalls.intercept.sysinfo\":\"true\"},"
    ++ codes "\"rules\":[{\"name\":\"no-mem\",\"call\":\"mknod\",\"when\":{\"dev\":\"1:1\"},\"then\":{\"deny\":\"EPERM\"}}]}"

-- the rules of mknod and sysinfo are made
abbrev pub generated_switches : Switches
generated_switches =
    record { profile = Plain; mknod = true; mount = false; shift = false; setxattr = false; sysinfo = true; fuse = []; allowed = [] }

-- the rule that denies mknod of 1:1, the memory (mem(4))
abbrev pub memory_rule : Rule
memory_rule = plain_rule (codes "no-mem") (Named (pos nr_mknod ∷ [])) (Dev 1 1 ∷ []) (Deny eperm)

-- its own rule comes first, and the defaults come last
abbrev pub generated_policy : PolicyRecord
generated_policy = record { rules = all_rules (memory_rule ∷ []) generated_switches }
