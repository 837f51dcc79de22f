-- Who may serve, and who does all kinds of work.
use Rattle.std.specs.Prelude.{◌≡◌, ℕ, ◌≤◌, All, Option, Some, None, ⊤}
use Rattle.crew.specs.declared.duty.Crew.{Crew}
use Rattle.crew.specs.declared.duty.Duty.{Duty}
use Rattle.crew.specs.declared.work.Work.{Work}
use Rattle.hist_model.specs.declared.history.Setup.{Setup}

-- a worker may be served under a limit, if it is one; a thread without a worker may always
abbrev pub MayServe : Option ℕ → Option ℕ → Type 0
MayServe limit None = ⊤
MayServe None (Some w) = w ≤ 16
MayServe (Some limit) (Some w) = (w ≤ limit) × (w ≤ 16)

-- so may each thread of a crew
abbrev pub MayServeAll : Option ℕ → Crew → Type 0
MayServeAll limit crew = MayServe limit crew.calling.worker × All (λ (d : Duty). MayServe limit d.worker) crew.others.items

-- under the limit of a container
abbrev pub Takes : Crew → Setup → Type 0
Takes crew made = MayServeAll made.limit crew

-- a set with a byte for each of the eight kinds of work
abbrev pub IsAll : Work → Type 0
IsAll work = work.bytes ≡ 72340172838076673

-- a thread does all kinds of work
abbrev pub DoesAll : Duty → Type 0
DoesAll d = IsAll d.does
