-- What the workers of this project remember while a schedule is played.
use Rattle.std.specs.Prelude.{◌≡◌, ◌<◌, ℕ, true, false, List, length, get_or}
use Rattle.std.specs.List.{list_any}
use Rattle.broker_core.specs.Remembered.{Remembers}
use Rattle.broker_core.specs.declared.worker.Worker.{Worker}
use Rattle.hist_model.specs.Sessions.{session}
use Rattle.hist_model.specs.declared.policy.Policy.{Policy}
use Rattle.model_kernel.specs.Kernels.{past}
use Rattle.model_kernel.specs.declared.kernel.Kernel.{Kernel}
use Rattle.step_requests.specs.Turns.{serves}
use Rattle.step_requests.specs.declared.request.Turn.{Turn}

-- the worker of this number remembers its session, and knows the container's figures
pub record Knows (P : Policy) (k : Kernel) (w : ℕ) (worker : Worker) : Type 0 where
  pub remembers : Remembers P (session (past k) w) worker
  pub figures : worker.figures ≡ k.script.figures

-- each worker that steps in these lines does
abbrev pub ServersKnow : Policy → Kernel → List Turn → List Worker → Type 0
ServersKnow P k turns workers =
    (w : ℕ) (d : Worker) → w < length workers → list_any (serves w) turns ≡ true → Knows P k w (get_or workers w d)

-- the worker that steps in this line does
abbrev pub ServerKnows : Policy → Kernel → Turn → List Worker → Type 0
ServerKnows P k turn workers = (w : ℕ) (d : Worker) → serves w turn ≡ true → Knows P k w (get_or workers w d)

-- the workers that don't step in this line are as they were
abbrev pub OthersAsBefore : Turn → List Worker → List Worker → Type 0
OthersAsBefore turn old new = (w : ℕ) (d : Worker) → serves w turn ≡ false → get_or new w d ≡ get_or old w d
