-- The call that a seat has in hand, as the code keeps it.
use Rattle.std.specs.Prelude.{◌≡◌, ℕ, ◌<◌, List, length, get_or}
use Rattle.hist_model.specs.Calls.{id}
use Rattle.hist_model.specs.declared.event.Event.{Event}
use Rattle.hist_model.specs.declared.policy.Policy.{Policy}
use Rattle.hist_model.specs.declared.policy.Verdict.{Verdict}
use Rattle.broker_verdict.specs.Effects.{done_by}
use Rattle.broker_verdict.specs.Seats.{args_of, nr_of}
use Rattle.broker_judge.specs.declared.called.Called.{Called}
use Rattle.broker_judge.specs.declared.called.Decided.{Decided}

-- it is the call that was entered at this place
pub record IsCalled (K : List Event) (c : ℕ) (called : Called) : Type 0 where
  pub id_is : id K c ≡ called.id
  pub nr_is : nr_of K c ≡ called.nr
  pub args_are : args_of K c ≡ called.args

-- the rule and its verdict
abbrev pub decided_by : Decided → ℕ × Verdict
decided_by d = (d.rule, d.verdict)

-- effects of each rule were done so often
abbrev pub Counts : Policy → List Event → List ℕ → Type 0
Counts P K times = (i : ℕ) → i < length times → get_or times i 0 ≡ done_by P K i
