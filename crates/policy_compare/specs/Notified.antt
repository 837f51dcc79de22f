-- Whether a script's filters notify a call.
use Rattle.std.specs.Prelude.{ℕ, Bool, true, false, List, [], ◌∷◌, length, Option, Some, None, ℤ}
use Rattle.std.specs.Int.{w32, cast_unsigned}
use Rattle.hist_model.specs.Filters.{verdict}
use Rattle.hist_model.specs.Requests.{call_of_request}
use Rattle.hist_model.specs.declared.event.Entered.{Entered}
use Rattle.hist_model.specs.declared.event.Entered.TheVariants.{Notify}
use Rattle.hist_model.specs.declared.request.Request.{Request}
use Rattle.hist_model.specs.declared.request.Request.TheVariants.{Mknod, Mount, SetXattr, OpenAt, Sysinfo, Other}
use Rattle.hist_model.specs.declared.script.FilterLine.{FilterLine}

-- the number of a directory descriptor, as a register has it
abbrev pub register_of : ℤ → ℕ
register_of fd = cast_unsigned w32 fd

-- the arguments of a call that asks for this, each address 0
abbrev pub registers : Request → List ℕ
registers (Mknod None path mode dev) = 0 ∷ mode ∷ dev ∷ 0 ∷ 0 ∷ 0 ∷ []
registers (Mknod (Some fd) path mode dev) = register_of fd ∷ 0 ∷ mode ∷ dev ∷ 0 ∷ 0 ∷ []
registers (Mount source target fstype options via flags shift) = 0 ∷ 0 ∷ 0 ∷ flags ∷ 0 ∷ 0 ∷ []
registers (SetXattr path name value flags) = 0 ∷ 0 ∷ 0 ∷ length value ∷ flags ∷ 0 ∷ []
registers (OpenAt fd path flags) = register_of fd ∷ 0 ∷ flags ∷ 0 ∷ 0 ∷ 0 ∷ []
registers (Sysinfo addr) = addr ∷ 0 ∷ 0 ∷ 0 ∷ 0 ∷ 0 ∷ []
registers (Other nr) = 0 ∷ 0 ∷ 0 ∷ 0 ∷ 0 ∷ 0 ∷ []

-- what the filters say is that the call be notified
abbrev pub is_notify : Entered → Bool
is_notify (Notify id) = true
is_notify _ = false

-- the filters notify the call with these registers; where there are no filters, nothing says that they don't
abbrev pub is_notified : Option (List FilterLine) → Request → Bool
is_notified (Some filters) q = is_notify (verdict filters (call_of_request q) (registers q))
is_notified None q = true
