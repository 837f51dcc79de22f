-- Which history a container stands for, and what a request comes to.
use Rattle.std.specs.Prelude.{◌≡◌, ℕ, false, true, List, ◌++◌}
use Rattle.hist_model.specs.declared.event.Event.{Event}
use Rattle.step_session.specs.declared.origin.Origin.{Origin}
use Rattle.hist_model.specs.declared.script.Script.{Script}
use Rattle.asked_steps.specs.Steps.{is_closed}
use Rattle.model_kernel.specs.Kernels.{IsKernel, past}
use Rattle.model_kernel.specs.declared.kernel.Kernel.{Kernel}
use Rattle.step_requests.specs.declared.request.StepRequest.{StepRequest}
use Rattle.step_session.specs.Answers.{answered}
use Rattle.step_session.specs.declared.container.Container.{Container}
use Rattle.step_session.specs.declared.container.State.{State}
use Rattle.step_session.specs.declared.container.State.TheVariants.{Open, Closed}

-- a kernel with this history of a script, whose listener isn't closed
pub record IsOpen (S : Script) (K : List Event) (k : Kernel) : Type 0 where
  pub kernel : IsKernel k
  pub script : k.script ≡ S
  pub past : past k ≡ K
  pub open_still : is_closed K ≡ false

abbrev pub StateStands : Script → List Event → State → Type 0
StateStands S K (Open k) = IsOpen S K k
StateStands S K (Closed h) = (h.events ≡ K) × (is_closed K ≡ true)

-- the container is one of this script, with this history
abbrev pub Stands : Script → List Event → Container → Type 0
Stands S K c = StateStands S K c.state

-- a kernel that is asked has its tables in order
abbrev pub IsInOrder : State → Type 0
IsInOrder (Open k) = IsKernel k
IsInOrder (Closed h) = Unit {0}

-- the kernel came to this history, and this text was added to a line
pub record Answers (old : Kernel) (answer : List Event × List ℕ) (before after : List ℕ) (new : Kernel) : Type 0 where
  pub kernel : IsKernel new
  pub script : new.script ≡ old.script
  pub past : past new ≡ answer.0
  pub line : after ≡ before ++ answer.1

-- the request was done, and its answer added to a line
abbrev pub IsAnswered : Origin → StepRequest → Container → List ℕ → List ℕ → Container → Type 0
IsAnswered P r old before after new =
    (S : Script) (K : List Event) → Stands S K old → Stands S (answered P S K r).0 new × (after ≡ before ++ (answered P S K r).1)
