-- What the requests of ioctl(2) on a listener answer (seccomp_unotify(2)).
use Rattle.std.specs.Prelude.{◌≡◌, ℕ, ◌≤◌, false, Bool, ◌&&◌, ◌||◌, if◌then◌else◌, ◌==◌, List, Result, Ok, Err, ℤ}
use Rattle.std.specs.Prelude.{pos, neg_ℤ, nat_abs, FitsSigned}
use Rattle.std.specs.Int.{w64}
use Rattle.std.specs.Int.Signed.{le_z}
use Rattle.std.specs.Ordering.{int_eq}
use Rattle.sys_abi.specs.Errnos.{einval}
use Rattle.sys_abi.specs.Wire.{resp_of}
use Rattle.sys_abi.specs.declared.wire.Resp.{Resp}
use Rattle.hist_model.specs.declared.event.Back.{Back}
use Rattle.hist_model.specs.declared.event.Back.TheVariants.{Value, Fail, Continue}

-- no error, or one from 1 to 4095, negated
abbrev pub is_error : ℤ → Bool
is_error error = le_z (neg_ℤ (pos 4095)) error && le_z error (pos 0)

-- the call is let go, with no value and no error; or it returns a value, or an error
abbrev pub may_be_sent : Resp → Bool
may_be_sent resp =
    ((resp.flags == 1) && (int_eq resp.val (pos 0) && int_eq resp.error (pos 0))) || ((resp.flags == 0) && is_error resp.error)

-- the structure that the bytes of an answer stand for, where it may be sent; else EINVAL
abbrev pub reading : List ℕ → Result Resp ℕ
reading bytes = if may_be_sent (resp_of bytes) then Ok (resp_of bytes) else Err einval

-- the structure that has the call of an id return so
abbrev pub response : ℕ → Back → Resp
response id (Value n) = record { id = id; val = n; error = pos 0; flags = 0 }
response id (Fail errno) = record { id = id; val = pos 0; error = neg_ℤ (pos errno); flags = 0 }
response id Continue = record { id = id; val = pos 0; error = pos 0; flags = 1 }

-- how a call returns that is answered by this structure: natively where the flag is set; else with the error, if there is one
abbrev pub back_of : Resp → Back
back_of resp = if resp.flags == 1 then Continue else (if int_eq resp.error (pos 0) then Value resp.val else Fail (nat_abs resp.error))

-- an error comes without a value
abbrev pub IsPlain : Resp → Type 0
IsPlain resp = (int_eq resp.error (pos 0) ≡ false) → resp.val ≡ pos 0

-- a value of 64 bits, or an error of a number from 1 to 4095
abbrev pub IsBack : Back → Type 0
IsBack (Value n) = FitsSigned w64 n
IsBack (Fail errno) = (1 ≤ errno) × (errno ≤ 4095)
IsBack Continue = Unit {0}
