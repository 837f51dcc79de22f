-- What the policy says of a call, as the code keeps it.
use Rattle.std.specs.Prelude.{◌≡◌, ℕ, ◌+◌, List, [], length, reverse}
use Rattle.hist_model.specs.declared.event.Event.{Event}
use Rattle.hist_model.specs.declared.policy.Policy.{Policy}
use Rattle.hist_model.specs.declared.script.Script.{Script}
use Rattle.broker_verdict.specs.Choices.{by_registers}
use Rattle.broker_verdict.specs.SeatCopies.{newest_copy, plan_of, planned_from, worth_least}
use Rattle.broker_verdict.specs.Seats.{is_base_refused, reads, Valid}
use Rattle.broker_judge.specs.Called.{Counts}
use Rattle.broker_judge.specs.Copied.{Comes}
use Rattle.broker_judge.specs.declared.said.Grounds.{Grounds}
use Rattle.broker_judge.specs.declared.said.Said.{Said}

-- it is said of the call that a seat has in hand, by its reads that a good check follows
pub record IsSaid (P : Policy) (K : List Event) (w c : ℕ) (said : Said) : Type 0 where
  pub by_registers : by_registers P K c ≡ said.registers
  pub newest : Comes (newest_copy (worth_least Valid (reads K w)) (plan_of K c)) said.made.newest
  pub planned : Comes (planned_from (plan_of K c) [] (reverse (worth_least Valid (reads K w)))) said.made.planned

-- there is a number of times for each rule, and for none
abbrev pub HasTimes : Grounds → Type 0
HasTimes g = length g.times.now ≡ length g.policy.now.rules + 1

-- the grounds are those of a seat after a history
pub record AreGrounds (S : Script) (K : List Event) (w : ℕ) (g : Grounds) : Type 0 where
  pub counts : Counts g.policy.now K g.times.now
  pub refused : is_base_refused S K w ≡ g.is_base_refused
