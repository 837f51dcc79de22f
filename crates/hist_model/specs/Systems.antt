-- What a step needs of a container's script, as a record: the laws of histories hold for every such record. A script's own is `system_of`.
use Rattle.std.specs.Prelude.{ℕ, ℤ, Bool, List, Result}
use Rattle.hist_model.specs.Look.{Name}
use Rattle.hist_model.specs.declared.event.Event.{Event}
use Rattle.hist_model.specs.declared.event.Entered.{Entered}
use Rattle.hist_model.specs.declared.request.Request.{Request}
use Rattle.hist_model.specs.declared.script.Instr.{Instr}

-- where a descriptor goes: to a number, or nowhere below the limit, or past the table's end
pub data Slot : Type 0 where
  Number : ℕ → Slot
  Full : Slot
  Over : Slot

pub record System : Type 0 where
  -- PIDs go from pidbase + 1 to pidbase + pidmax
  pub pidbase : ℕ
  pub pidmax : ℕ
  pub firstid : ℕ
  pub killable : Bool
  pub program : Name → List Instr
  -- what the filters say, with any id in a notification
  pub verdict : ℤ → List ℕ → Entered
  -- the answer of a task's native call
  pub native : List Event → Name → Result ℕ ℕ
  -- where the request at a place, put for a call, is installed
  pub slot : List Event → ℕ → ℕ → Slot
  -- the number is open in the broker
  pub source : ℕ → Bool
  -- a group's descriptor leads to a directory, or stands for the container's root
  pub directory : List Event → ℕ → ℤ → Bool
  -- the answer of a read of a group's memory, and whether the answer of sysinfo fits at an address
  pub bytes : List Event → ℕ → ℕ → ℕ → Result (List ℕ) ℕ
  pub writable : ℕ → Bool
  -- the outcome of a request of a worker in the tree
  pub outcome : List Event → ℕ → Request → Result (Unit {0}) ℕ
