-- What a native call whose arguments were read stands for.
use Rattle.std.specs.Prelude.{◌≡◌, ℕ, if◌then◌else◌, List, Option, Some, None, Result, Ok, Err, ℤ}
use Rattle.hist_model.specs.Look.{Name}
use Rattle.hist_model.specs.Steps.{pid_named}
use Rattle.hist_model.specs.Memory.{all_mapped, sysinfo_size, stored_by_call}
use Rattle.hist_model.specs.Natives.{Files, NativeStep, Fails, Gives, Writes, base_of, close_natively, request_natively, call_natively}
use Rattle.hist_model.specs.Requests as requests
use Rattle.hist_model.specs.Sysinfo.{host_sysinfo}
use Rattle.hist_model.specs.declared.event.Entered.{Entered}
use Rattle.hist_model.specs.declared.event.Event.{Event}
use Rattle.hist_model.specs.declared.event.What.TheVariants.{Enter}
use Rattle.hist_model.specs.declared.request.Request as the_request
use Rattle.hist_model.specs.declared.script.Script.{Script}
use Rattle.native_calls.specs.declared.call.NativeCall.{NativeCall}
use Rattle.native_calls.specs.declared.call.NativeCall.TheVariants.{Close, GetPid, Sysinfo, Request, Unknown}
use Rattle.sys_abi.specs.Errnos.{efault, enosys}

-- the request of a call, or the fault of the copy of its arguments
abbrev pub requested : ℤ → List ℕ → Result (List (List ℕ)) ℕ → Result the_request.Request ℕ
requested nr args (Ok texts) = Ok (requests.request nr args texts)
requested nr args (Err e) = Err e

-- what it does after a history with these files, as the call of the task of this name in a group
abbrev pub step_of : Script → List Event → Files → Name → ℕ → NativeCall → NativeStep
step_of S K F n g (Close number) = close_natively number (F.slot g number)
step_of S K F n g GetPid = Gives (pid_named K n)
step_of S K F n g (Sysinfo addr) = if all_mapped S.map addr sysinfo_size then Writes else Fails efault
step_of S K F n g (Request dirfd (Ok q)) = request_natively S F g (base_of S F g dirfd) q
step_of S K F n g (Request dirfd (Err e)) = Fails e
step_of S K F n g Unknown = Fails enosys

-- what it stores, and where, if it succeeds
abbrev pub stored_by : Script → NativeCall → Option (ℕ × List ℕ)
stored_by S (Sysinfo addr) = Some (addr, host_sysinfo S.figures)
stored_by S _ = None

-- it is the call of this number with these arguments, made in a group after a history
pub record IsPrepared (S : Script) (K : List Event) (g : ℕ) (nr : ℤ) (args : List ℕ) (call : NativeCall) : Type 0 where
  pub step : (F : Files) (n : Name) (v : Entered) → call_natively S K F n g (Enter nr args v) ≡ step_of S K F n g call
  pub stores : (v : Entered) → stored_by_call S (Enter nr args v) ≡ stored_by S call
