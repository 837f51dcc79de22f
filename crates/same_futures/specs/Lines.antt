-- Histories whose calls came to the same so far, and what the walks on from them come to.
use Rattle.std.specs.Prelude.{◌≡◌, ◌≤◌, ℕ, List, map}
use Rattle.hist_model.specs.Look.{Name}
use Rattle.hist_model.specs.ReportAudit.{Judging}
use Rattle.hist_model.specs.declared.event.Event.{Event}
use Rattle.hist_model.specs.declared.policy.Policy.{Policy}
use Rattle.hist_model.specs.declared.script.Script.{Script}
use Rattle.delay_bounded.specs.Explored.{Walk, closed, walks_on}
use Rattle.delay_bounded.specs.Laws.{IsWalked}
use Rattle.listener.specs.State as call_state
use Rattle.tasks.specs.State.{State}
use Rattle.outcome_text.specs.Outcomes.{result_of, task_names}
use Rattle.outcome_text.specs.Sight.{marks}
use Rattle.outcome_lines.specs.Lines.{gathered, line_at}
use Rattle.outcome_lines.specs.declared.line.Line.{Line}
use Rattle.same_futures.specs.Same.{Same}

-- the lines of a task's calls, the oldest first
abbrev pub lines_of : Script → Judging → List Event → Name → List Line
lines_of S J K n = gathered (line_at J (marks S K) K n) K

-- both histories have tasks of the same names, and of each name the same lines
pub record SameLines (S : Script) (J : Judging) (K L : List Event) : Type 0 where
  pub names_are : task_names L ≡ task_names K
  pub lines_are : (n : Name) → lines_of S J L n ≡ lines_of S J K n

-- what a walk comes to, where the listener is closed at its end
abbrev pub result_at : Policy → Script → Judging → Walk → List ℕ
result_at P S J w = result_of S J (closed P S w)

-- where all goes on alike after two histories with the same lines, the walks on from the one come to what those on from the other
-- come to, one by one
abbrev pub ComeToTheSame : Policy → Script → ℕ → Judging → Type 0
ComeToTheSame P S W J = W ≤ 16 → (tasks : State) (calls : call_state.State) (K L : List Event)
    → IsWalked P S W K → Same S tasks calls K L → SameLines S J K L
    → (p d : ℕ) → map (result_at P S J) (walks_on P S W L p d) ≡ map (result_at P S J) (walks_on P S W K p d)
