-- Worked examples of explanations, computed by the definitions.
-- By computing, with the definitions unfolded.
use Rattle.std.proofs.Common.{◌≡◌, ℕ, List, [], ◌∷◌, ◌++◌, Ok, None, refl}
use Rattle.std.specs.Prelude.{codes, pos, negsuc}
use Rattle.std.specs.Fmt.{digits}
use Rattle.hist_model.specs.Decisions.{decide, decide_from, default_rules, fits, lxd_mknod_rule, plain_rule}
use Rattle.hist_model.specs.Words.{number_after}
use Rattle.hist_model.specs.declared.policy.Calls.TheVariants.{Named}
use Rattle.hist_model.specs.declared.policy.Cond.TheVariants as cond
use Rattle.hist_model.specs.declared.policy.Flag.TheVariants as flag
use Rattle.hist_model.specs.declared.policy.Profile.TheVariants.{Plain}
use Rattle.hist_model.specs.declared.policy.Rule.{Rule}
use Rattle.hist_model.specs.declared.policy.Verdict.TheVariants.{Deny, Inject}
use Rattle.hist_model.specs.declared.request.Kind.TheVariants.{Blk}
use Rattle.lex_core.specs.Lexical.{tokens}
use Rattle.lex_core.specs.Lines.{split, without_return, is_skipped, numbered}
use Rattle.lex_core.specs.Numbers.{digits_value}
use Rattle.call_lines.specs.Calls.{calls_behind}
use Rattle.call_lines.specs.Operands.{bits_with}
use Rattle.policy_explain.specs.Blocks.{explanation}
use Rattle.policy_explain.specs.Reasons.{reason_of}
use Rattle.policy_explain.specs.Words.{flag_name, set_names}

-- the lines of a text, each ended by byte 10
text : List (List ℕ) → List ℕ
text [] = []
text (line ∷ more) = line ++ 10 ∷ text more

-- block devices are denied, a path is, and one device is granted
devices : List Rule
devices =
    plain_rule (codes "no-disks") (Named (pos 133 ∷ pos 259 ∷ [])) (cond.Kind Blk ∷ []) (Deny 1)
    ∷ plain_rule (codes "no-zero") (Named (pos 133 ∷ [])) (cond.Path (codes "/dev/zero") ∷ []) (Deny 13)
    ∷ lxd_mknod_rule Plain (1, 3) ∷ default_rules

granted_device :
    explanation devices (codes "mknod \"/dev/null\" chr 1:3\n")
    ≡ Ok (text (codes "1 mknod \"/dev/null\" chr 1:3 rule=lxd.mknod.1:3 verdict=grant"
    ∷ codes "  no-disks misses kind: chr is not blk"
    ∷ codes "  no-zero misses path: \"/dev/null\" is not \"/dev/zero\"" ∷ []))
unfolding devices text tokens split without_return is_skipped numbered calls_behind digits_value number_after fits decide decide_from digits reason_of
granted_device = refl

-- what is decided at once has one line, and each call its own block
two_calls :
    explanation devices (codes "# disks\nmknodat 3 \"sda\" blk 8:0\n\nclose\n")
    ≡ Ok (text (codes "2 mknodat 3 \"sda\" blk 8:0 rule=no-disks verdict=deny error=EPERM"
    ∷ codes "4 close rule=default.close verdict=pass reason=\"no other rule fits\""
    ∷ codes "  no-disks misses call: close is not mknod or mknodat"
    ∷ codes "  no-zero misses call: close is not mknod"
    ∷ codes "  lxd.mknod.1:3 misses call: close is not mknod or mknodat" ∷ []))
unfolding devices text tokens split without_return is_skipped numbered calls_behind digits_value number_after fits decide decide_from digits reason_of
two_calls = refl

-- flags are told by their names
mounts : List Rule
mounts =
    plain_rule (codes "read-only") (Named (pos 165 ∷ [])) (cond.Flags (flag.Mount 1 ∷ flag.Mount 8 ∷ []) [] ∷ []) (Deny 1)
    ∷ plain_rule (codes "devices") (Named (pos 165 ∷ [])) (cond.Flags [] (flag.Mount 4 ∷ []) ∷ []) (Deny 1)
    ∷ plain_rule (codes "plain") (Named (pos 165 ∷ [])) (cond.Fstype (codes "ext4") ∷ cond.PlainFlags ∷ []) (Deny 1)
    ∷ plain_rule (codes "old-logs") (Named (pos 257 ∷ [])) (cond.Under (codes "/old") ∷ cond.Dirfd (negsuc 99) ∷ []) (Inject 5 None)
    ∷ default_rules

missed_flags :
    explanation mounts (codes "mount \"/a\" \"/b\" \"ext4\" RDONLY,NODEV,BIND \"ro\"")
    ≡ Ok (text (codes "1 mount \"/a\" \"/b\" \"ext4\" RDONLY,NODEV,BIND \"ro\" rule=default.mount verdict=pass reason=\"no other rule fits\""
    ∷ codes "  read-only misses flags: NOEXEC is not set"
    ∷ codes "  devices misses flags: NODEV is set"
    ∷ codes "  plain misses flags: REMOUNT, BIND or MOVE is set"
    ∷ codes "  old-logs misses call: mount is not openat"
    ∷ codes "  default.close misses call: mount is not close"
    ∷ codes "  default.getpid misses call: mount is not getpid"
    ∷ codes "  default.sysinfo misses call: mount is not sysinfo"
    ∷ codes "  default.mknod misses call: mount is not mknod" ∷ []))
unfolding mounts text tokens split without_return is_skipped numbered calls_behind digits_value number_after bits_with fits decide decide_from digits reason_of flag_name set_names
missed_flags = refl
