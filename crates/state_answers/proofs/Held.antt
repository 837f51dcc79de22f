-- A task waits in a call that was received, by how far the call has come.
-- By cases on that.
use Rattle.std.proofs.Common.{◌≡◌, ℕ, Bool, true, false, not, if◌then◌else◌, List, Option, Some, None, refl}
use Rattle.hist_model.specs.Calls.{answered, fetched, state_at}
use Rattle.hist_model.specs.Signals.{is_fetched_call}
use Rattle.hist_model.specs.declared.event.Event.{Event}
use Rattle.hist_model.specs.declared.notification.State.TheVariants.{Unfetched, Fetched, Answered}
use Rattle.state_answers.specs.Looks.{is_received}

far : (f a : Bool) → is_received (Some (if not f then Unfetched else (if a then Answered else Fetched))) ≡ f
far true true = refl
far true false = refl
far false a = refl

pub received_is : (K : List Event) (call : Option ℕ) → is_received (state_at K call) ≡ is_fetched_call K call
received_is K None = refl
received_is K (Some c) = far (fetched K c) (answered K c)
