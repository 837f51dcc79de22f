-- A container and the judge that hears it: which history they stand for, and what a request comes to.
use Rattle.std.specs.Prelude.{◌≡◌, ℕ, false, List, [], ◌∷◌, ◌++◌, length, if◌then◌else◌, ◌⊎◌}
use Rattle.hist_model.specs.Kinds.{closes}
use Rattle.hist_model.specs.declared.event.Event.{Event}
use Rattle.hist_model.specs.declared.script.Script.{Script}
use Rattle.asked_steps.specs.Steps.{IsBegun, is_closed}
use Rattle.judge_pass.specs.Finding.{Watches}
use Rattle.step_requests.specs.declared.request.StepRequest.{StepRequest}
use Rattle.step_session.specs.Answers.{answered}
use Rattle.step_session.specs.Stands.{Stands}
use Rattle.step_session.specs.declared.judged.JudgedContainer.{JudgedContainer}
use Rattle.step_session.specs.declared.origin.Origin.{Origin}

-- what a judge hears of a history: all but that the listener was closed
abbrev pub heard : List Event → List Event
heard [] = []
heard (e ∷ K) = if closes e.what then K else e ∷ K

-- the container is one of this script, with this history of the kernel, which the judge has heard
pub record IsJudged (P : Origin) (S : Script) (K : List Event) (c : JudgedContainer) : Type 0 where
  pub stands : Stands S K c.container
  pub begun : IsBegun S K
  pub watches : Watches P.policy S (heard K) c.watch

-- it is one of some script, with some history
abbrev pub IsStanding : Origin → JudgedContainer → Type 0
IsStanding P c = (S : Script) × ((K : List Event) × IsJudged P S K c)

-- the history has one event more than K, whose listener is open, or none
abbrev pub IsOneMore : List Event → List Event → Type 0
IsOneMore K H = (H ≡ K) ⊎ ((is_closed K ≡ false) × ((e : Event) × (H ≡ e ∷ K)))

-- the container has the history H, of which the judge has heard K
pub record IsAhead (P : Origin) (S : Script) (K H : List Event) (c : JudgedContainer) : Type 0 where
  pub stands : Stands S H c.container
  pub begun : IsBegun S H
  pub more : IsOneMore K H
  pub watches : Watches P.policy S (heard K) c.watch

-- the judge of the container has heard so many events, with the listener's closing
abbrev pub HasHeard : Origin → ℕ → JudgedContainer → Type 0
HasHeard P before c = (S : Script) × ((K H : List Event) × (IsAhead P S K H c × (length K ≡ before)))

-- the request was done, and its answer added to a line
abbrev pub IsServed : Origin → StepRequest → JudgedContainer → List ℕ → List ℕ → JudgedContainer → Type 0
IsServed P r old before after new =
    (S : Script) (K : List Event) → IsJudged P S K old
    → IsJudged P S (answered P S K r).0 new × (after ≡ before ++ (answered P S K r).1)
