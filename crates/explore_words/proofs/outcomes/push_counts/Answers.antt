-- Four words with their numbers stand behind the line.
use Rattle.std.proofs.Common.{arith, codes, length}
use Rattle.explore_words.proofs.Explored.{counts_behind}
use Rattle.explore_words.proofs.outcomes.push_counts.Goals as goal

pub returns : goal.returns
returns c =
    let found = c.args.found.now in
    counts_behind c.args.line.now c.push_long_count.new.line c.push_long_count-2.new.line c.push_count.new.line c.push_count-2.new.line
    (codes " histories=") (codes " events=") (codes " longest=") (codes " outcomes=") found.histories found.events found.longest _ (length found.outcomes.items)
    c.push_count-2.result c.in_ok-push_long_count.ensures c.in_ok-push_long_count-2.ensures c.in_ok-push_count.ensures (omega (arith, c.len.ensures, found.outcomes.ok.0)) c.push_count-2.ensures
