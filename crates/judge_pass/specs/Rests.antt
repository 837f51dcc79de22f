-- How far an effect rests on reads, as the code has it.
use Rattle.std.specs.Prelude.{◌≡◌, ℕ, true, ◌&&◌, List}
use Rattle.hist_model.specs.declared.event.Event.{Event}
use Rattle.hist_model.specs.declared.event.What.{What}
use Rattle.hist_model.specs.declared.policy.Policy.{Policy}
use Rattle.broker_verdict.specs.Effects.{can_have, rests_on}
use Rattle.broker_verdict.specs.Seats.{Foreign, Stale, Fresh, Valid}
use Rattle.judge_pass.specs.declared.rests.Rests.{Rests}

-- it is so of an effect for a call; of texts that the call can't have nothing more is said
pub record AreRests (P : Policy) (K : List Event) (w c : ℕ) (what : What) (rests : Rests) : Type 0 where
  pub any : rests.any ≡ (can_have K c what && rests_on P Foreign K w c what)
  pub of_caller : can_have K c what ≡ true → rests.of_caller ≡ rests_on P Stale K w c what
  pub in_time : can_have K c what ≡ true → rests.in_time ≡ rests_on P Fresh K w c what
  pub checked : can_have K c what ≡ true → rests.checked ≡ rests_on P Valid K w c what
