-- A plain line that joins those above is a line that states its steps.
-- By cases on what it came to: no line of a schedule opens a block.
use Rattle.std.proofs.Common.{◌≡◌, ℕ, refl, sym, ap, ◌∙◌}
use Rattle.std.specs.Prelude.{Ok, Err, OnOk, Result, is_some}
use Rattle.sys_abi.specs.declared.memory.OrNoMemory.{OrNoMemory}
use Rattle.sys_abi.specs.declared.memory.OrNoMemory.TheVariants.{Refused, NoMemory}
use Rattle.script_reader.specs.declared.error.Fault.{Fault}
use Rattle.script_reader.specs.declared.plain.PlainTurn.{PlainTurn}
use Rattle.script_reader.specs.declared.plain.PlainTurn.TheVariants as plain
use Rattle.script_reader.specs.declared.statement.Statement.{Statement}
use Rattle.script_reader.specs.Above.{Above, statement_fault, with_line, with_statement}
use Rattle.script_reader.specs.Faults.{Admits}
use Rattle.script_reader.specs.Lines.{unless_faulty}
use Rattle.script_reader.specs.Outcomes.{Becomes, with_reading}
use Rattle.script_reader.specs.Plain.{AreSound, stated}
use Rattle.script_reader.specs.Rules.{IsKept}
use Rattle.script_reader.proofs.KeptLines.{line_kept}

opens-nothing : (n : ℕ) (turn : PlainTurn) (A : Above) → with_line n (stated turn) A ≡ with_statement (stated turn) A
opens-nothing n (plain.Task name count) A = refl
opens-nothing n (plain.Worker worker count) A = refl

joins : (n : ℕ) (s : Statement) (A B : Above) (r : Result (Unit {0}) (OrNoMemory Fault)) → with_line n s A ≡ with_statement s A
    → Admits (statement_fault s A) (with_statement s A) r B → Becomes (with_reading n (unless_faulty (statement_fault s A) s) A) r B
joins n s A B (Ok u) l h = ap (λ fault. with_reading n (unless_faulty fault s) A) h.0 ∙ ap Ok (l ∙ sym h.1)
joins n s A B (Err (Refused fault)) l h = ap (λ fault. with_reading n (unless_faulty fault s) A) h
joins n s A B (Err NoMemory) l h = tt

pub turn_joins : (n : ℕ) (turn : PlainTurn) (A B : Above) (r : Result (Unit {0}) (OrNoMemory Fault)) → Admits (statement_fault (stated turn) A) (with_statement (stated turn) A) r B
    → Becomes (with_reading n (unless_faulty (statement_fault (stated turn) A) (stated turn)) A) r B
turn_joins n turn A B r h = joins n (stated turn) A B r (opens-nothing n turn A) h

pub turn_kept : (turn : PlainTurn) (A B : Above) (r : Result (Unit {0}) (OrNoMemory Fault)) → Admits (statement_fault (stated turn) A) (with_statement (stated turn) A) r B → AreSound turn
    → OnOk r (IsKept A → IsKept B)
turn_kept turn A B (Ok u) h sound = λ kept. line_kept B.opened (stated turn) A B h.0 h.1 (sound A.section (is_some A.settings.pidbase)) kept
turn_kept turn A B (Err e) h sound = tt
