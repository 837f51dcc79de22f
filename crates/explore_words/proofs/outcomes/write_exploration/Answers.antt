-- The counts are written, and then the outcomes.
use Rattle.std.proofs.Common.{rules, ◌≡◌, List, Err, length, subst}
use Rattle.audit_log.proofs.Writing.{wrote_more, wrote_stopped}
use Rattle.audit_log.specs.Written.{Wrote}
use Rattle.explorer.specs.Printed.{blocks, counts_line}
use Rattle.explorer.specs.Tallies.{CountedOutcome}
use Rattle.explore_words.proofs.outcomes.write_exploration.Goals as goal

pub returns-in_err-write_counts : goal.returns-in_err-write_counts
returns-in_err-write_counts g c =
    let found = c.args.found.now in
    let stopped : c.from_residual.result ≡ Err c.in_err-write_counts.field-0.0 = search rules in
    wrote_stopped _ _ (counts_line c.args.workers c.args.delays found.histories found.events found.longest (length found.outcomes.items) found.whole) (blocks 1 found.outcomes.items) _ _ stopped c.in_err-write_counts.ensures

pub returns : goal.returns
returns g c =
    let found = c.args.found.now in
    wrote_more _ _ _ (counts_line c.args.workers c.args.delays found.histories found.events found.longest (length found.outcomes.items) found.whole) (blocks 1 found.outcomes.items) _ c.in_ok-write_counts.ensures
    (subst (λ (outcomes : List CountedOutcome). Wrote (g.O.Sink.state c.write_counts.new.out) (blocks 1 outcomes) c.write_outcomes.result (g.O.Sink.state c.write_outcomes.new.out))
    c.as_slice.ensures.value c.write_outcomes.ensures)
