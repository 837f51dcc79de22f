use Rattle.std.proofs.Common.{◌≡◌, ◌+◌, ◌<◌, ◌≤◌, length, drop, get_or, sym, ◌∙◌, arith}
use Rattle.std.proofs.lemmas.List.{at_drop_more, at_drop_all}
use Rattle.hist_model.specs.Trees.{with_lines, with_line, stated}
use Rattle.mount_tree.proofs.tree.Tree.stated.Goals as goal

pub loop-line-preserved : goal.loop-line-preserved
unfolding with_lines
loop-line-preserved c =
    let lines = c.args.lines.now in
    let i = c.loop-line.line-index in
    let tree = c.loop-line.tree.tree in
    let within : i < length lines = omega arith in
    let step = at_drop_more (with_lines tree) lines i c.line-item.result within in
    let e : with_lines (with_line tree (get_or lines i c.line-item.result)) (drop (i + 1) lines) ≡ stated lines = sym step ∙ c.loop-line.invariant in
    rw c.in_ok-add_line.ensures (rw (← c.line-item.is) at e)

pub returns : goal.returns
unfolding with_lines
returns c =
    let past : length c.args.lines.now ≤ c.loop-line.line-index = omega arith in
    sym (at_drop_all (with_lines c.loop-line.tree.tree) c.args.lines.now c.loop-line.line-index past) ∙ c.loop-line.invariant
