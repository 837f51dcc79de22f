-- The event that breaks a clause first, with the clause and how grave that is; and what a judge has that heard a history.
use Rattle.std.specs.Prelude.{◌≡◌, ℕ, List, [], ◌∷◌, ◌++◌, length, Option, Some, None}
use Rattle.std.specs.Option.{option_map}
use Rattle.hist_model.specs.Look.{ev}
use Rattle.hist_model.specs.declared.event.Actor.TheVariants.{Listener}
use Rattle.hist_model.specs.declared.event.Event.{Event}
use Rattle.hist_model.specs.declared.event.What.TheVariants.{Close}
use Rattle.hist_model.specs.declared.policy.Policy.{Policy}
use Rattle.hist_model.specs.declared.script.Script.{Script}
use Rattle.broker_verdict.specs.Trusted.{broken_at, class_at, first_fault}
use Rattle.broker_verdict.specs.declared.clause.Class.{Class}
use Rattle.broker_verdict.specs.declared.clause.Clause.{Clause}
use Rattle.judge_pass.specs.Stands.{Stands}
use Rattle.judge_pass.specs.declared.watch.FirstFault.{FirstFault}
use Rattle.judge_pass.specs.declared.watch.Watch.{Watch}

-- an event, by its place, that breaks a clause
pub record Finding : Type 0 where
  pub place : ℕ
  pub class : Class
  pub clause : Clause

-- what the event after K is found to break
abbrev pub found_here : Policy → Script → List Event → Event → Option Clause → Option Finding
found_here P S K e (Some clause) = Some (record { place = length K; class = class_at P S K e clause; clause = clause })
found_here P S K e None = None

abbrev pub or_here : Option Finding → Option Finding → Option Finding
or_here (Some finding) here = Some finding
or_here None here = here

-- what is found first
unfoldable pub finding : Policy → Script → List Event → Option Finding
finding P S [] = None
finding P S (e ∷ K) = or_here (finding P S K) (found_here P S K e (broken_at P S K e))

-- it is the first fault, with its class
abbrev pub FindsTheFirst : Policy → Script → List Event → Type 0
FindsTheFirst P S K = option_map (λ (f : Finding). (f.place, f.clause)) (finding P S K) ≡ first_fault P S K

-- and it stays that, whatever comes later
abbrev pub StaysFound : Policy → Script → List Event → Type 0
StaysFound P S K = (later : List Event) (f : Finding) → finding P S K ≡ Some f → finding P S (later ++ K) ≡ Some f

-- that the listener is closed breaks no clause
abbrev pub ClosesFaultless : Policy → Script → List Event → Type 0
ClosesFaultless P S K = finding P S (ev Listener Close ∷ K) ≡ finding P S K

-- ---- a judge that has heard a history

abbrev pub as_finding : FirstFault → Finding
as_finding found = record { place = found.place; class = found.fault.class; clause = found.fault.clause }

-- it has found what is to be found, and where that is nothing its tables stand for the history
pub record Watches (P : Policy) (S : Script) (K : List Event) (w : Watch) : Type 0 where
  pub found_is : option_map as_finding w.found ≡ finding P S K
  pub stands : w.found ≡ None → Stands P S K w.judge
