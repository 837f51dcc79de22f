-- What a request that was to be done came to.
use Rattle.std.specs.Prelude.{◌≡◌, ℕ, false, List, Some, None, Result, Err}
use Rattle.hist_model.specs.Deeds.{Deed}
use Rattle.hist_model.specs.Kinds.{skips}
use Rattle.hist_model.specs.Steps.{deed_step}
use Rattle.hist_model.specs.declared.event.Event.{Event}
use Rattle.hist_model.specs.declared.event.What.TheVariants.{Skip}
use Rattle.listener.specs.declared.listener.TakeError.{TakeError}
use Rattle.listener.specs.declared.listener.TakeError.TheVariants.{Pending}
use Rattle.listener.specs.declared.queue.FetchError.{FetchError}
use Rattle.listener.specs.declared.queue.FetchError.TheVariants.{Empty}
use Rattle.model_kernel.specs.Kernels.{DoesDeed, IsKernel, past, system}
use Rattle.model_kernel.specs.Ready.{IsSame}
use Rattle.model_kernel.specs.declared.kernel.Kernel.{Kernel}
use Rattle.step_requests.specs.declared.request.Asked.{Asked}
use Rattle.sys_abi.specs.declared.wire.Notif.{Notif}
use Rattle.asked_steps.specs.Asking.{deed_of, refused}
use Rattle.asked_steps.specs.declared.asking.Came.{Came}
use Rattle.asked_steps.specs.declared.asking.Came.TheVariants as came

-- what a worker's request came to
abbrev pub Comes : Kernel → ℕ → Asked → Came → Kernel → Type 0
Comes old w asked (came.Refused why) new = (refused (past old) w asked ≡ Some why) × IsSame old new
Comes old w asked came.Invalid new = (refused (past old) w asked ≡ None) × (deed_of asked ≡ None) × IsSame old new
Comes old w asked came.Waits new =
    (refused (past old) w asked ≡ None)
    × ((d : Deed) × (deed_of asked ≡ Some d) × (deed_step (system old) (past old) w d ≡ Skip) × IsSame old new)
Comes old w asked came.Stepped new =
    (refused (past old) w asked ≡ None)
    × ((d : Deed) × (deed_of asked ≡ Some d) × (skips (deed_step (system old) (past old) w d) ≡ false) × DoesDeed old w d new)

-- the kernel came to this history
pub record CameTo (old : Kernel) (K : List Event) (new : Kernel) : Type 0 where
  pub kernel : IsKernel new
  pub script : new.script ≡ old.script
  pub past : past new ≡ K

-- what a receive, and the taking of what came of a request, come to
abbrev pub receipt : Result Notif FetchError → Came
receipt (Err Empty) = came.Waits
receipt _ = came.Stepped

abbrev pub taking : Result ℕ TakeError → Came
taking (Err Pending) = came.Waits
taking _ = came.Stepped
