-- What is left of each container once a crew has served it to its end.
use Rattle.std.specs.Prelude.{◌≡◌, ℕ, true, List, map, Option, Some, ⊤}
use Rattle.std.specs.List.{AllZip}
use Rattle.hist_model.specs.declared.event.Event.{Event}
use Rattle.hist_model.specs.declared.history.Setup.{Setup}
use Rattle.hist_model.specs.declared.script.Script.{Script}
use Rattle.worker_gate.specs.Endings.{HasEnded}
use Rattle.worker_gate.specs.Replacing.{handed_if, handed_in}
use Rattle.worker_gate.specs.declared.served.Played.{Played}
use Rattle.pod_broker.specs.Pods.{GivesInRange, in_range, was_given}
use Rattle.pod_broker.specs.declared.container.Container.{Container}

-- the container was served to its end by workers up to this one, by a history of its own policy and script, which come back as they were;
-- the history keeps what is asked of it besides, each PID that it gave lies in its script's range, and the ledgers from which its workers
-- were replaced are its own
pub record IsServedTo (workers : ℕ) (every : Option ℕ) (Keeps : List Event → Type 0) (c : Container) (p : Played) : Type 0 where
  pub policy : p.policy ≡ c.policy
  pub script : p.script ≡ c.script
  pub ended : HasEnded c.policy c.script workers p.history.events
  pub keeps : Keeps p.history.events
  pub inside : (n : ℕ) → was_given p.history.events n ≡ true → in_range c.script n ≡ true
  pub handed : handed_in p.handed ≡ handed_if every p.history.events

-- so was each, in order
abbrev pub AreServed : ℕ → Option ℕ → (List Event → Type 0) → List Container → List Played → Type 0
AreServed workers every Keeps = AllZip (IsServedTo workers every Keeps)

-- nothing is asked of the history besides
abbrev pub Any : List Event → Type 0
Any H = ⊤

-- the scripts of containers, in order
abbrev pub scripts : List Container → List Script
scripts cs = map (λ (c : Container). c.script) cs

-- the histories of containers, in order
abbrev pub histories : List Played → List (List Event)
histories ps = map (λ (p : Played). p.history.events) ps

-- ---- on the way

-- a container that workers up to this one may serve, which are replaced after each so many of their steps, if a number is given
abbrev pub set_up_for : ℕ → Option ℕ → Container → Setup
set_up_for workers every c = record { policy = c.policy; script = c.script; limit = Some workers; every = every }

-- there is a last worker
abbrev pub IsLimited : Setup → Type 0
IsLimited made = (workers : ℕ) × (made.limit ≡ Some workers)

-- so the history ended, with the last worker that there is
abbrev pub HasEndedAs : Setup → List Event → Type 0
HasEndedAs made H = (workers : ℕ) → made.limit ≡ Some workers → HasEnded made.policy made.script workers H

-- what was set up so was closed so
pub record IsClosedAs (Keeps : List Event → Type 0) (made : Setup) (p : Played) : Type 0 where
  pub policy : p.policy ≡ made.policy
  pub script : p.script ≡ made.script
  pub ended : HasEndedAs made p.history.events
  pub keeps : Keeps p.history.events
  pub inside : GivesInRange p.policy p.script
  pub handed : handed_in p.handed ≡ handed_if made.every p.history.events
