-- The programs that lines state.
use Rattle.std.specs.Prelude.{ℕ, Bool, true, false, not, if◌then◌else◌, List, [], ◌∷◌, ◌++◌, length, Option, Some}
use Rattle.std.specs.Prelude.{None, is_some, unwrap_or, bytes_eq}
use Rattle.lex_core.specs.declared.reason.Reason.TheVariants as reason
use Rattle.hist_model.specs.declared.script.Instr.{Instr}
use Rattle.hist_model.specs.declared.script.Instr.TheVariants as instr
use Rattle.hist_model.specs.declared.script.MapRange.{MapRange}
use Rattle.hist_model.specs.declared.script.Totals.{Totals}
use Rattle.hist_model.specs.ScriptRules.{stores_mapped}
use Rattle.hist_model.specs.Totals.{totals_of, with_end, are_too_many}
use Rattle.script_reader.specs.declared.error.Fault.{Fault}
use Rattle.script_reader.specs.Faults.{wrong_if, too_large_if, or_else, duplicate, full}
use Rattle.script_reader.specs.Ranges.{in_force}

pub record ProgramsState : Type 0 where
  -- the place of the closed program with this name
  pub place : List ℕ → Option ℕ
  -- the closed programs, and what each comes to with all that it starts
  pub bodies : List (List Instr)
  pub totals : List Totals
  -- the program that is open: its name and its instructions
  pub name : List ℕ
  pub body : List Instr

abbrev pub no_programs : ProgramsState
no_programs = record { place = λ name. None; bodies = []; totals = []; name = []; body = [] }

abbrev pub open_program : List ℕ → ProgramsState → ProgramsState
open_program name P = record P { name = name; body = [] }

abbrev pub with_instr : Instr → ProgramsState → ProgramsState
with_instr i P = record P { body = P.body ++ i ∷ [] }

abbrev pub starting : Bool → ℕ → Instr
starting true place = instr.Thread place
starting false place = instr.Spawn place

-- an instruction that starts the program of this name
abbrev pub with_start : Bool → List ℕ → ProgramsState → ProgramsState
with_start thread name P = with_instr (starting thread (unwrap_or (P.place name) 0)) P

-- what the program that is open comes to
abbrev pub open_totals : Bool → ProgramsState → Totals
open_totals exited P = with_end exited (totals_of P.totals P.body)

-- one name stands for this place, and every other one for what it stood
abbrev pub standing : List ℕ → ℕ → (List ℕ → Option ℕ) → List ℕ → Option ℕ
standing name place others q = if bytes_eq name q then Some place else others q

-- the name of the program that was open stands for this place
abbrev pub with_name : ℕ → ProgramsState → ProgramsState
with_name place P = record P { place = standing P.name place P.place; name = [] }

abbrev pub with_program : Totals → ProgramsState → ProgramsState
with_program totals P = record P { bodies = P.bodies ++ P.body ∷ []; totals = P.totals ++ totals ∷ []; body = [] }

-- it has the place after the programs that were closed before it
abbrev pub close_program : Bool → ProgramsState → ProgramsState
close_program exited P = with_name (length P.bodies) (with_program (open_totals exited P) P)

-- ---- faults

-- at most 4096 programs, of different names
abbrev pub prog_fault : ProgramsState → List ℕ → Option Fault
prog_fault P name = or_else (duplicate (is_some (P.place name))) (full 4096 (length P.bodies))

-- the name is that of a program above, whose block is closed
abbrev pub start_fault : ProgramsState → List ℕ → Option Fault
start_fault P name = wrong_if (not (is_some (P.place name))) reason.UnknownName

-- every byte that is stored is mapped, where lines map these ranges
abbrev pub instr_fault : List MapRange → Instr → Option Fault
instr_fault ranges i = wrong_if (not (stores_mapped (in_force ranges) i)) reason.Unmapped

-- the program that is open comes to too much
abbrev pub totals_fault : Bool → ProgramsState → Option Fault
totals_fault exited P = too_large_if (are_too_many (open_totals exited P))
