-- The program of a task.
use Rattle.std.specs.Prelude.{ℕ, List, [], ◌∷◌, slice_get, length, ◌-◌, ◌==◌, if◌then◌else◌, Option, Some, None}
use Rattle.hist_model.specs.Look.{Name}
use Rattle.hist_model.specs.Tasks.{is_none}
use Rattle.hist_model.specs.declared.script.Script.{Script}
use Rattle.hist_model.specs.declared.script.Instr.{Instr}
use Rattle.hist_model.specs.declared.script.Instr.TheVariants.{Spawn, Thread}

-- the program that an instruction starts
abbrev pub started : Instr → Option ℕ
started (Spawn p) = Some p
started (Thread p) = Some p
started _ = None

-- the program that the k-th of the instructions spawn and thread starts, k from 1
abbrev pub nth_started : List Instr → ℕ → Option ℕ
nth_started [] k = None
nth_started (i ∷ more) k = if is_none (started i) then nth_started more k else (if k == 1 then started i else nth_started more (k - 1))

abbrev pub instructions_of : Option (List Instr) → List Instr
instructions_of None = []
instructions_of (Some p) = p

-- the program at a place of the script; none where there is no place
abbrev pub program_at : List (List Instr) → Option ℕ → List Instr
program_at programs None = []
program_at programs (Some i) = instructions_of (slice_get programs i)

-- the program of the task that these numbers lead to, from a task of the given program
abbrev pub program_from : List (List Instr) → Name → List Instr → List Instr
program_from programs [] own = own
program_from programs (k ∷ n) own = program_from programs n (program_at programs (nth_started own k))

-- the program of a task: the first task's is the last one of the script, a child's is what its parent's spawn starts
unfoldable pub program : Script → Name → List Instr
program S [] = []
program S (k ∷ n) = program_from S.programs n (program_at S.programs (Some (length S.programs - 1)))
