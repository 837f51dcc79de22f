-- The key of what has happened in a run, and the states that its kernel is.
use Rattle.std.specs.Prelude.{◌≡◌, ℕ, ◌≤◌, Bool, true, false, List, ◌++◌, length}
use Rattle.std.specs.List.{flat_map, range_with_len}
use Rattle.hist_model.specs.Legal.{is_open_session}
use Rattle.hist_model.specs.ReportAudit.{judging_by}
use Rattle.hist_model.specs.Sessions.{session}
use Rattle.hist_model.specs.declared.event.Event.{Event}
use Rattle.hist_model.specs.declared.event.What.{What}
use Rattle.hist_model.specs.declared.policy.Policy.{Policy}
use Rattle.hist_model.specs.declared.script.Script.{Script}
use Rattle.delay_bounded.specs.Laws.{IsWalked}
use Rattle.key_bytes.specs.Parts.{flag_part, number_part}
use Rattle.model_kernel.specs.Keys.{kernel_part}
use Rattle.outcome_lines.specs.Keys.{lines_part}
use Rattle.outcome_lines.specs.Lines.{lines_in}
use Rattle.same_futures.specs.Kernels.{HasStatesOf, calls_of, tasks_of}
use Rattle.same_futures.specs.Lines.{SameLines}
use Rattle.same_futures.specs.Same.{Same}
use Rattle.explorer.specs.Runs.{IsRun, script_in, story}
use Rattle.explorer.specs.SessionKeys.{steps_part}
use Rattle.explorer.specs.declared.run.Run.{Run}

-- what a worker was told in its session, if it has a notification in hand
abbrev pub session_if : Bool → List What → List ℕ
session_if true own = flag_part true ++ steps_part own
session_if false own = flag_part false

abbrev pub session_part : List Event → ℕ → List ℕ
session_part K w = session_if (is_open_session (session K w)) (session K w)

-- of the workers 0 to 15
abbrev pub sessions_part : List Event → List ℕ
sessions_part K = flat_map (session_part K) (range_with_len 0 16)

-- what has happened, where the actor at a place stepped last
abbrev pub key_of : Policy → ℕ → Run → List ℕ
key_of P p r =
    number_part p ++ (kernel_part r.machine.kernel
    ++ (sessions_part (story r) ++ lines_part (lines_in (script_in r) (judging_by P.rules) (story r))))

-- ---- What equal keys tell

-- all goes on alike after what has happened in a run and after another history, with the states of the run's kernel, and they have the
-- same lines
pub record GoesAlike (P : Policy) (S : Script) (r : Run) (K : List Event) : Type 0 where
  pub same : Same S (tasks_of r.machine.kernel) (calls_of r.machine.kernel) (story r) K
  pub lines : SameLines S (judging_by P.rules) (story r) K

-- the second run has the states of the first, the actor at the same place stepped last, and all goes on alike
pub record AreJoined (P : Policy) (S : Script) (a b : Run) (p q : ℕ) : Type 0 where
  pub place_is : q ≡ p
  pub states : HasStatesOf a.machine.kernel b.machine.kernel
  pub alike : GoesAlike P S a (story b)

-- so it is of two runs of a script that have come as far, and have equal keys
abbrev pub KeysJoin : Policy → Script → ℕ → Type 0
KeysJoin P S W = (a b : Run) (p q : ℕ) → IsRun P S (story a) a → IsRun P S (story b) b → IsWalked P S W (story a) → IsWalked P S W (story b)
    → W ≤ 15 → length (story b) ≡ length (story a) → key_of P p a ≡ key_of P q b → AreJoined P S a b p q
