-- What a worker of the broker does next (seccomp_unotify(2)). Each deed has the name of the step that answers it.
use Rattle.std.specs.Prelude.{ℕ, List, Option, ℤ}
use Rattle.hist_model.specs.declared.event.Back.{Back}
use Rattle.hist_model.specs.declared.policy.Cap.{Cap}
use Rattle.hist_model.specs.declared.request.Request.{Request}
use Rattle.sys_abi.specs.declared.wire.Addfd.{Addfd}

-- receive a notification, open a memory and a base, ask whether an id is valid, read, act, plant the answer of sysinfo, put and take
-- a descriptor, send an answer, let go
pub data Deed : Type 0 where
  Recv : Deed
  OpenMem : ℕ → Deed
  OpenBase : ℕ → ℤ → Deed
  Check : ℕ → Deed
  Read : ℕ → ℕ → Deed
  Act : Request → Option Cap → Deed
  Plant : ℕ → List ℕ → Option Cap → Deed
  AddfdPut : Addfd → Deed
  AddfdTake : Deed
  Send : ℕ → Back → Deed
  LetGo : Deed
