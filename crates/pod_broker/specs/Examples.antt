-- Two small containers whose ranges of PIDs lie side by side, and a third whose range overlaps the first.
use Rattle.std.specs.Prelude.{◌≡◌, ℕ, true, false, [], ◌∷◌, Ok, Err}
use Rattle.hist_model.specs.Decisions.{default_rules}
use Rattle.hist_model.specs.Legal.{played}
use Rattle.hist_model.specs.Look.{ev}
use Rattle.hist_model.specs.WorkedExample.{script_making}
use Rattle.hist_model.specs.declared.event.Actor.TheVariants.{Listener, Start, Task}
use Rattle.hist_model.specs.declared.event.Delivered.TheVariants.{End}
use Rattle.hist_model.specs.declared.event.SpawnKind.TheVariants.{New}
use Rattle.hist_model.specs.declared.event.What.TheVariants.{Close, Deliver, Exit, Signal, Spawn}
use Rattle.hist_model.specs.declared.policy.Policy.{Policy}
use Rattle.hist_model.specs.declared.script.Instr.TheVariants.{Kill}
use Rattle.hist_model.specs.declared.script.Script.{Script}
use Rattle.hist_model.specs.declared.script.Whom.TheVariants.{Pid}
use Rattle.sys_abi.specs.Errnos.{esrch}
use Rattle.sys_abi.specs.Signals.{sigkill}
use Rattle.pod_broker.specs.Pods.{Apart, overlap, own, was_given}

abbrev pub passing : Policy
passing = record { rules = default_rules }

-- ten PIDs above the base; the one task sends SIGKILL to the number 11, and takes one more step
abbrev pub container : ℕ → Script
container base = record (script_making [] 0 []) {
  pidbase = base;
  pidmax = 10;
  programs = (Kill (Pid 11) sigkill ∷ []) ∷ [];
  schedule = record { who = Task (0 ∷ []); count = 2 } ∷ [];
}

-- 1 to 10, 11 to 20, and 10 to 19
abbrev pub first : Script
first = container 0

abbrev pub second : Script
second = container 10

abbrev pub between : Script
between = container 9

abbrev pub Separate : Type 0
Separate = (overlap first second ≡ false) × (overlap second first ≡ false)

abbrev pub Overlapping : Type 0
Overlapping = (overlap first between ≡ true) × (overlap between second ≡ true) × (overlap first first ≡ true)

-- the first container's task signals nobody, though the second's has this number, and goes on
abbrev pub SignalsNobody : Type 0
SignalsNobody = played passing first
    ≡ ev Listener Close ∷ ev (Task (0 ∷ [])) Exit ∷ ev (Task (0 ∷ [])) (Signal 11 sigkill (Err esrch))
    ∷ ev Start (Spawn (0 ∷ []) (Ok (1, New))) ∷ []

-- the second container's task is the one with this number, and ends
abbrev pub SignalsItself : Type 0
SignalsItself = played passing second
    ≡ ev Listener Close ∷ ev (Task (0 ∷ [])) (Deliver sigkill End) ∷ ev (Task (0 ∷ [])) (Signal 11 sigkill (Ok tt))
    ∷ ev Start (Spawn (0 ∷ []) (Ok (11, New))) ∷ []

-- both have the same own steps: where policies or scripts differ, these don't fix a history
abbrev pub OwnSteps : Type 0
OwnSteps = (own (played passing first) ≡ Task (0 ∷ []) ∷ Task (0 ∷ []) ∷ Listener ∷ [])
    × (own (played passing second) ≡ own (played passing first))

abbrev pub GivesItsNumbers : Type 0
GivesItsNumbers = (was_given (played passing first) 1 ≡ true)
    × (was_given (played passing first) 11 ≡ false) × (was_given (played passing second) 11 ≡ true)

-- two containers with one range aren't apart
abbrev pub SharesNumbers : Type 0
SharesNumbers = Apart (played passing first) (played passing first) → ⊥
