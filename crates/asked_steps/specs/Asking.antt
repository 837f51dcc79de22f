-- What a worker's request makes of a history: the deed that it is, and why it may be none (seccomp_unotify(2)).
use Rattle.std.specs.Prelude.{ℕ, Bool, not, if◌then◌else◌, List, Option, Some, None, is_some}
use Rattle.hist_model.specs.Deeds.{Deed}
use Rattle.hist_model.specs.Deeds as deed
use Rattle.hist_model.specs.Steps.{mem, request_of}
use Rattle.hist_model.specs.declared.event.Event.{Event}
use Rattle.listener.specs.Answers.{may_be_sent}
use Rattle.listener.specs.Puts.{may_be_put}
use Rattle.model_kernel.specs.Wire.{are_zeros, send_of}
use Rattle.step_requests.specs.declared.request.Asked.{Asked}
use Rattle.step_requests.specs.declared.request.Asked.TheVariants as asks
use Rattle.sys_abi.specs.Wire.{addfd_of, resp_of}
use Rattle.asked_steps.specs.declared.refusal.Refusal.{Refusal}
use Rattle.asked_steps.specs.declared.refusal.Refusal.TheVariants as refusal

abbrev pub if_so : Bool → Refusal → Option Refusal
if_so b why = if b then Some why else None

-- what a worker has to have open, or put, for what it asks
abbrev pub refused : List Event → ℕ → Asked → Option Refusal
refused K w (asks.Plant addr bytes) = if_so (not (is_some (mem K w))) refusal.NoMemoryIsOpen
refused K w (asks.Addfd bytes) = if_so (is_some (request_of K w)) refusal.RequestIsPut
refused K w asks.AddfdResult = if_so (not (is_some (request_of K w))) refusal.NoRequest
refused K w asked = None

-- the deed that is asked for; none where the listener refuses the structure with EINVAL. No effect has a limit of times:
-- to keep one is for the broker that asks.
abbrev pub deed_of : Asked → Option Deed
deed_of (asks.Recv buf) = if are_zeros buf then Some deed.Recv else None
deed_of (asks.OpenMem pid) = Some (deed.OpenMem pid)
deed_of (asks.OpenBase pid dirfd) = Some (deed.OpenBase pid dirfd)
deed_of (asks.Check id) = Some (deed.Check id)
deed_of (asks.Read addr len) = Some (deed.Read addr len)
deed_of (asks.Act request) = Some (deed.Act request None)
deed_of (asks.Plant addr bytes) = Some (deed.Plant addr bytes None)
deed_of (asks.Addfd bytes) = if may_be_put (addfd_of bytes) then Some (deed.AddfdPut (addfd_of bytes)) else None
deed_of asks.AddfdResult = Some deed.AddfdTake
deed_of (asks.Send bytes) = if may_be_sent (resp_of bytes) then Some (send_of (resp_of bytes)) else None
deed_of asks.LetGo = Some deed.LetGo
