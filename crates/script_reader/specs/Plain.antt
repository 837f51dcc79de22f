-- Plain lines of a schedule: the steps of a task or a worker, with nothing that could be wrong.
use Rattle.std.specs.Prelude.{◌≡◌, ℕ, ◌<◌, ◌≤◌, Bool, true, List, [], ◌∷◌, Some, Ok, pos, codes}
use Rattle.lex_core.specs.Numbers.{number}
use Rattle.lex_core.specs.declared.line.Token.{Token}
use Rattle.lex_core.specs.declared.line.Token.TheVariants.{Bare}
use Rattle.script_reader.specs.declared.plain.PlainTurn.{PlainTurn}
use Rattle.script_reader.specs.declared.plain.PlainTurn.TheVariants as plain
use Rattle.script_reader.specs.declared.statement.Statement.{Statement}
use Rattle.script_reader.specs.declared.statement.Statement.TheVariants as states
use Rattle.script_reader.specs.declared.word.Section.{Section}
use Rattle.script_reader.specs.Lines.{tokens_statement}
use Rattle.script_reader.specs.Paths.{is_task_text, task_numbers}
use Rattle.script_reader.specs.Rules.{IsSound}

-- what a plain line states
abbrev pub stated : PlainTurn → Statement
stated (plain.Task name count) = states.Steps (task_numbers name.now) count
stated (plain.Worker worker count) = states.Counts worker count

abbrev pub count_in : PlainTurn → ℕ
count_in (plain.Task name count) = count
count_in (plain.Worker worker count) = count

-- the word of a line and what stands after it name the one that steps
abbrev pub Names : List ℕ → List ℕ → PlainTurn → Type 0
Names word who (plain.Task name count) = (word ≡ codes "t") × (name.now ≡ who) × (is_task_text who ≡ true)
Names word who (plain.Worker worker count) = (word ≡ codes "w") × (number who ≡ Some (pos worker)) × (worker < 16)

-- the word is a number of steps
abbrev pub IsCount : List ℕ → ℕ → Type 0
IsCount word n = (number word ≡ Some (pos n)) × (1 ≤ n) × (n ≤ 200000)

-- these tokens say how many steps, or nothing where it is one
abbrev pub Counts : List Token → ℕ → Type 0
Counts [] n = n ≡ 1
Counts (Bare word ∷ []) n = IsCount word n
Counts _ n = ⊥

-- the tokens of a line in this section state this, wherever the line stands there
abbrev pub AreStated : Section → List Token → PlainTurn → Type 0
AreStated section tokens turn = (base_is_stated : Bool) → tokens_statement section base_is_stated tokens ≡ Ok (stated turn)

abbrev pub AreSound : PlainTurn → Type 0
AreSound turn = (section : Section) (base_is_stated : Bool) → IsSound section base_is_stated (stated turn)
