use Rattle.std.proofs.Common.{◌<◌, ◌≤◌, length, sym, ◌∙◌, arith}
use Rattle.std.proofs.lemmas.List.{at_drop_more, at_drop_all}
use Rattle.mount_tree.specs.Chains.{hash}
use Rattle.mount_tree.proofs.keys.hash.Goals as goal

pub loop-byte-preserved : goal.loop-byte-preserved
unfolding hash
loop-byte-preserved c =
    let within : c.loop-byte.byte-index < length c.args.name.now = omega arith in
    sym (at_drop_more (hash c.loop-byte.hash) c.args.name.now c.loop-byte.byte-index 0 within) ∙ c.loop-byte.invariant

pub returns : goal.returns
unfolding hash
returns c =
    let past : length c.args.name.now ≤ c.loop-byte.byte-index = omega arith in
    sym (at_drop_all (hash c.loop-byte.hash) c.args.name.now c.loop-byte.byte-index past) ∙ c.loop-byte.invariant
