-- The actor that a line of a journal names.
use Rattle.std.specs.Prelude.{ℕ, if◌then◌else◌, ◌==◌, List, [], ◌∷◌, Option, Some, None, map, get_or, bytes_eq, codes}
use Rattle.std.specs.List.{slice_split}
use Rattle.hist_model.specs.Look.{Name}
use Rattle.hist_model.specs.Names.{is_task_name}
use Rattle.hist_model.specs.ReportCalls.{or_zero}
use Rattle.hist_model.specs.Words.{number_between}
use Rattle.hist_model.specs.declared.event.Actor.{Actor}
use Rattle.hist_model.specs.declared.event.Actor.TheVariants.{Start, Task, Worker, Listener}

-- the number that a word is, as one of a task's name has it; 0 where it is none
abbrev pub number_in : List ℕ → ℕ
number_in word = or_zero (number_between 0 100000 word)

-- the numbers between the points of a word
abbrev pub numbers_in : List ℕ → Name
numbers_in word = map number_in (slice_split (λ b. b == 46) word)

-- the task of this name, if it is one that tasks may have
abbrev pub task_of : Name → Option Actor
task_of n = if is_task_name n then Some (Task n) else None

abbrev pub worker_of : Option ℕ → Option Actor
worker_of (Some w) = Some (Worker w)
worker_of None = None

-- the actor that a word names: `t` and a task's name, `w` and a worker's number, `-` for the start, `listener`
abbrev pub actor_of : List ℕ → Option Actor
actor_of [] = None
actor_of (b ∷ word) =
    if b == 116 then task_of (numbers_in word)
    else if b == 119 then worker_of (number_between 0 16 word)
    else if bytes_eq (b ∷ word) (codes "-") then Some Start
    else if bytes_eq (b ∷ word) (codes "listener") then Some Listener
    else None

-- the actor that a line names, by its second word
unfoldable pub actor_in : List ℕ → Option Actor
actor_in line = actor_of (get_or (slice_split (λ b. b == 32) line) 1 [])
