-- The rules before stand behind the one that decides.
use Rattle.std.proofs.Common.{append_assoc}
use Rattle.std.specs.Prelude.{slice_get}
use Rattle.policy_explain.specs.Blocks.{head_text}
use Rattle.policy_explain.proofs.Places.{rule_got}
use Rattle.policy_explain.proofs.blocks.push_block_at.Goals as goal

pub returns : goal.returns
returns c =
    let told = rw (c.in_ok-push_head.ensures, rule_got c.args.rules.now c.args.place c.get.result c.get.ensures.lookup) at c.push_misses.ensures in
    rw (append_assoc c.args.line.now (head_text c.args.call.now (slice_get c.args.rules.now c.args.place)) _) at told
