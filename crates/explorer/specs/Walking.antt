-- How far the explorer has come: the turns with which its run began, and the walks that are left.
use Rattle.std.specs.Prelude.{◌≡◌, ℕ, ◌<◌, ◌^◌, List, [], ◌∷◌, ◌++◌, length}
use Rattle.hist_model.specs.declared.event.Event.{Event}
use Rattle.hist_model.specs.Legal.{started}
use Rattle.hist_model.specs.declared.policy.Policy.{Policy}
use Rattle.hist_model.specs.declared.script.Script.{Script}
use Rattle.delay_bounded.specs.Explored.{Walk, closed, walks_of}
use Rattle.outcome_text.specs.Sight.{hidden}
use Rattle.explorer.specs.Frames.{AreTurns, after, behind, later_from, left_from}
use Rattle.explorer.specs.Runs.{IsRun, script_in, story}
use Rattle.explorer.specs.Taken.{event_limit}
use Rattle.explorer.specs.Telling.{TellsBy}
use Rattle.explorer.specs.declared.by_delays.ByDelays.{ByDelays}
use Rattle.explorer.specs.declared.frames.Frame.{Frame}
use Rattle.explorer.specs.declared.run.Run.{Run}
use Rattle.explorer.specs.declared.walk.Next.{Next}
use Rattle.explorer.specs.declared.walk.Next.TheVariants.{Over, Walks}
use Rattle.explorer.specs.declared.walker.Walked.{Walked}
use Rattle.explorer.specs.declared.walker.Walked.TheVariants.{All, Ended}
use Rattle.explorer.specs.declared.walker.Walker.{Walker}

-- the run began with these turns, and has had no other
pub record HasCome (P : Policy) (S : Script) (W : ℕ) (fs : List Frame) (r : Run) : Type 0 where
  pub run : IsRun P S (after P S (started S) fs) r
  pub turns : AreTurns P S W (started S) fs

-- the run is at the end of the next walk, and the others are left
pub record IsAtEnd (P : Policy) (S : Script) (W : ℕ) (walks : List Walk) (d : ℕ) (fs : List Frame) (r : Run) : Type 0 where
  pub come : HasCome P S W fs r
  pub left : walks ≡ record { left = d; events = story r } ∷ behind P S W fs

-- a run has come to where these walks begin; or there are none
abbrev pub LeadsTo : Policy → Script → ℕ → List Walk → List Frame → Next → Type 0
LeadsTo P S W walks fs (Walks r d) = HasCome P S W fs r × (walks ≡ left_from P S W fs d)
LeadsTo P S W walks fs (Over script) = (script ≡ S) × (walks ≡ [])

-- a run has come to where these walks begin; or there are none, and the turns are as they were
abbrev pub TurnsLater : Policy → Script → ℕ → List Frame → ℕ → ℕ → List Frame → Next → Type 0
TurnsLater P S W old q d new (Walks r left) =
    HasCome P S W new r × (later_from P S W old q d ++ behind P S W old ≡ left_from P S W new left)
TurnsLater P S W old q d new (Over script) = (script ≡ S) × (new ≡ old) × (later_from P S W old q d ≡ [])

-- the run is at the end of this walk, which gives its history, the places of what is out of sight, and the script; the others are left
pub record EndsWalk (P : Policy) (S : Script) (W : ℕ) (walks : List Walk) (d : ℕ)
    (fs : List Frame) (script : Script) (history : List Event) (places : List ℕ) : Type 0 where
  pub walk : Walk
  pub left_is : walk.left ≡ d
  pub history_is : closed P S walk ≡ history
  pub hidden_is : places ≡ hidden S history
  pub few : length history < 2 ^ 63
  pub walks_are : walks ≡ walk ∷ behind P S W fs
  pub turns : AreTurns P S W (started S) fs
  pub script_is : script ≡ S

-- ---- One walk after another

-- the run of the next walk has come to where it begins
abbrev pub IsNext : Policy → Script → ℕ → List Frame → Next → Type 0
IsNext P S W fs (Walks r d) = HasCome P S W fs r
IsNext P S W fs (Over script) = script ≡ S

-- the walks that are left
abbrev pub walks_left : Policy → Script → ℕ → List Frame → Next → List Walk
walks_left P S W fs (Walks r d) = left_from P S W fs d
walks_left P S W fs (Over script) = []

-- the script of the run, or the one that is back
abbrev pub script_at : Next → Script
script_at (Walks r d) = script_in r
script_at (Over script) = script

-- ---- The same of a walker

abbrev pub script_of : Walker → Script
script_of w = script_at w.next

abbrev pub IsGoing : Policy → ℕ → Walker → Type 0
IsGoing P W w = IsNext P (script_of w) W w.frames.items w.next

abbrev pub walks_in : Policy → ℕ → Walker → List Walk
walks_in P W w = walks_left P (script_of w) W w.frames.items w.next

-- these walks of the script are left to it
pub record GoesThrough (P : Policy) (S : Script) (W : ℕ) (walks : List Walk) (w : Walker) : Type 0 where
  pub script_is : script_of w ≡ S
  pub going : IsGoing P W w
  pub left : walks ≡ walks_in P W w

-- the first of these walks has so many delays left, this history, and these places of what is out of sight; the others are left
pub record EndsFirst (P : Policy) (S : Script) (W : ℕ) (walks : List Walk)
    (left : ℕ) (history : List Event) (places : List ℕ) (rest : Walker) : Type 0 where
  pub walk : Walk
  pub more : List Walk
  pub walks_are : walks ≡ walk ∷ more
  pub left_is : walk.left ≡ left
  pub history_is : closed P S walk ≡ history
  pub hidden_is : places ≡ hidden S history
  pub few : length history < 2 ^ 63
  pub goes_on : GoesThrough P S W more rest

-- the next of these walks has ended, or there is none
abbrev pub WalksNext : Policy → Script → ℕ → List Walk → Walked → Type 0
WalksNext P S W walks (Ended left history hidden rest) = EndsFirst P S W walks left history.events hidden.items rest
WalksNext P S W walks (All script) = (script ≡ S) × (walks ≡ [])

-- of all walks within a bound some have ended, of which is told; and the others are left
pub record IsPartDone (P : Policy) (S : Script) (W d : ℕ) (b : ByDelays) (w : Walker) : Type 0 where
  pub done : List Walk
  pub more : List Walk
  pub walks_are : walks_of P S W d ≡ done ++ more
  pub tells : TellsBy P S done b
  pub goes_on : GoesThrough P S W more w
  pub bound_is : b.bound ≡ d
  pub few : b.events < event_limit
