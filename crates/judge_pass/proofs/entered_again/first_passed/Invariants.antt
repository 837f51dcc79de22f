-- Whether only such steps were taken from a place on is for the events to say that are left.
use Rattle.std.proofs.Common.{◌≡◌, ℕ, ◌≤◌, reverse, take}
use Rattle.std.specs.Prelude.{◌||◌, nat_le}
use Rattle.broker_verdict.specs.Answers.{only_enters_again}
use Rattle.judge_pass.proofs.entered_again.first_passed.Given as goal

abbrev pub invariant-events : goal.invariant-events
invariant-events l = record {
  within : l.first ≤ l.place;
  left : (d : ℕ) → only_enters_again (reverse (take l.place l.events)) d l.name l.called.nr l.called.args
      ≡ (nat_le l.first d || only_enters_again (reverse (take l.first l.events)) d l.name l.called.nr l.called.args);
}

abbrev pub decreases-events : goal.decreases-events
decreases-events l = l.first
