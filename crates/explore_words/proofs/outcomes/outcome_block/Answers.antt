use Rattle.std.proofs.Common.{append_assoc}
use Rattle.explore_words.proofs.outcomes.outcome_block.Goals as goal

pub returns : goal.returns
returns c =
    rw (c.in_ok-push_schedule.ensures, c.schedule.ensures, c.in_ok-push_or_none.ensures, c.text.ensures, c.in_ok-push.ensures, c.in_ok-push_long_count.ensures, c.histories.ensures, c.in_ok-push_count.ensures, c.new-line.ensures)
    (simp append_assoc)
