-- Schedules whose actors may take steps, and histories that go on by them.
use Rattle.std.specs.Prelude.{◌≡◌, ◌≤◌, true, false, List, [], ◌∷◌}
use Rattle.hist_model.specs.Kinds.{closes}
use Rattle.hist_model.specs.Legal.{system_of, rules_of}
use Rattle.hist_model.specs.Names.{is_task_name}
use Rattle.hist_model.specs.Steps.{IsLegal}
use Rattle.hist_model.specs.declared.event.Actor.{Actor}
use Rattle.hist_model.specs.declared.event.Actor.TheVariants.{Task, Worker}
use Rattle.hist_model.specs.declared.event.Event.{Event}
use Rattle.hist_model.specs.declared.policy.Policy.{Policy}
use Rattle.hist_model.specs.declared.script.Script.{Script}
use Rattle.hist_model.specs.declared.script.Step.{Step}

-- a schedule names tasks by their form, and workers from 0 to 16
abbrev pub IsScheduled : Actor → Type 0
IsScheduled (Task n) = is_task_name n ≡ true
IsScheduled (Worker w) = w ≤ 16
IsScheduled _ = ⊥

abbrev pub AllScheduled : List Step → Type 0
AllScheduled [] = Unit {0}
AllScheduled (s ∷ more) = IsScheduled s.who × AllScheduled more

-- the history has a newest event, which isn't the close of the listener
abbrev pub IsUnclosed : List Event → Type 0
IsUnclosed [] = ⊥
IsUnclosed (e ∷ K) = closes e.what ≡ false

-- the history is legal, and more steps may follow
pub record GoesOn (P : Policy) (S : Script) (K : List Event) : Type 0 where
  pub legal : IsLegal (system_of S) (rules_of P S.figures) K
  pub unclosed : IsUnclosed K
