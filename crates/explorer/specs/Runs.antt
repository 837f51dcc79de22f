-- What a run has come to: a machine with what is known of its workers' hands, and the marks of what they did.
use Rattle.std.specs.Prelude.{◌≡◌, ℕ, ◌<◌, Bool, true, false, List, [], ◌∷◌, Option, Some, None}
use Rattle.broker_machine.specs.Serving.{IsAt}
use Rattle.hist_model.specs.Legal.{with_step}
use Rattle.hist_model.specs.declared.event.Actor.{Actor}
use Rattle.hist_model.specs.declared.event.Event.{Event}
use Rattle.hist_model.specs.declared.policy.Policy.{Policy}
use Rattle.hist_model.specs.declared.script.Script.{Script}
use Rattle.model_kernel.specs.Kernels.{past}
use Rattle.delay_bounded.specs.Circle.{at_place, is_able, places, with_turn}
use Rattle.explorer.specs.Frames.{able_from}
use Rattle.explorer.specs.InHand.{Tells}
use Rattle.explorer.specs.declared.run.Run.{Run}
use Rattle.explorer.specs.declared.run.Turn.{Turn}
use Rattle.outcome_text.specs.Sight.{marks}

-- the run has come to this history of a policy and a script
pub record IsRun (P : Policy) (S : Script) (K : List Event) (r : Run) : Type 0 where
  pub at : IsAt P S K r.machine
  pub hands : Tells K r.hands
  pub marks_are : r.marks.list.items ≡ marks S K

-- what has happened in it
abbrev pub story : Run → List Event
story r = past r.machine.kernel

-- its script
abbrev pub script_in : Run → Script
script_in r = r.machine.kernel.script

-- it has come to what has happened in it
abbrev pub IsGoing : Policy → Run → Type 0
IsGoing P r = IsRun P (script_in r) (story r) r

-- the run has come to another history of its script
abbrev pub Comes : Policy → Run → List Event → Run → Type 0
Comes P old K new = IsRun P (script_in old) K new

-- the actor is able to step, and did; or it isn't, and nothing has changed
abbrev pub Tries : Policy → Run → Actor → Bool → Run → Type 0
Tries P old a true new = Comes P old (with_step P (script_in old) a (story old)) new × (is_able P (script_in old) (story old) a ≡ true)
Tries P old a false new = Comes P old (story old) new × (is_able P (script_in old) (story old) a ≡ false)

-- the places of those that are able to step after a run's history, from the q-th place behind p on
abbrev pub able_in : Policy → ℕ → Run → ℕ → ℕ → List ℕ
able_in P W r p q = able_from P (script_in r) W (story r) p q

-- the first of them had the turn; or there is none, and nothing has changed
abbrev pub Finds : Policy → ℕ → Run → ℕ → ℕ → Option Turn → Run → Type 0
Finds P W old p q None new = Comes P old (story old) new × (able_in P W old p q ≡ [])
Finds P W old p q (Some t) new =
    Comes P old (with_turn P (script_in old) (story old) t.place) new × (able_in P W old p q ≡ t.place ∷ able_in P W old p t.next)
    × (t.place < places W (story old)) × (is_able P (script_in old) (story old) (at_place (story old) t.place) ≡ true)
