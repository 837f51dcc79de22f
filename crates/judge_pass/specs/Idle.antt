-- What is found of a broker that does nothing more by itself.
use Rattle.std.specs.Prelude.{ℕ, ◌-◌, if◌then◌else◌, List, length, Option, Some, None}
use Rattle.hist_model.specs.declared.event.Event.{Event}
use Rattle.hist_model.specs.declared.policy.Policy.{Policy}
use Rattle.hist_model.specs.declared.script.Script.{Script}
use Rattle.broker_verdict.specs.Trusted.{left_waiting}
use Rattle.broker_verdict.specs.declared.clause.Class.TheVariants.{Answer}
use Rattle.broker_verdict.specs.declared.clause.Clause.TheVariants.{Unanswered}
use Rattle.judge_pass.specs.Closed.{is_closed}
use Rattle.judge_pass.specs.Finding.{Finding, finding, or_here}

-- that a call isn't answered, found at the event with this place
abbrev pub unanswered_at : ℕ → Option ℕ → Option Finding
unanswered_at place (Some c) = Some (record { place = place; class = Answer; clause = Unanswered })
unanswered_at place None = None

-- at the newest event: a call that was received and waits, where the listener is open
abbrev pub found_left : List Event → Option Finding
found_left K = if is_closed K then None else unanswered_at (length K - 1) (left_waiting K)

-- what is found first, where the broker does nothing more by itself
abbrev pub finding_idle : Policy → Script → List Event → Option Finding
finding_idle P S K = or_here (finding P S K) (found_left K)
