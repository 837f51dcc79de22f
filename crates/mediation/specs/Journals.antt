-- The actors of a history, legality by places from the oldest event, and what a journal's text tells.
use Rattle.std.specs.Prelude.{◌≡◌, ℕ, ◌<◌, List, length, take, reverse, map, get_or}
use Rattle.hist_model.specs.Sessions.{Rules}
use Rattle.hist_model.specs.Systems.{System}
use Rattle.hist_model.specs.Steps.{IsStep}
use Rattle.hist_model.specs.Legal.{Legal}
use Rattle.hist_model.specs.ReportJournal.{journal}
use Rattle.hist_model.specs.declared.event.Event.{Event}
use Rattle.hist_model.specs.declared.event.Actor.{Actor}
use Rattle.hist_model.specs.declared.policy.Policy.{Policy}
use Rattle.hist_model.specs.declared.script.Script.{Script}

-- the actors of the events
abbrev pub actors : List Event → List Actor
actors K = map (λ (e : Event). e.who) K

-- event i of a list, the oldest first, is the step after the first i
abbrev pub IsLegalByPlace : System → Rules → List Event → Type 0
IsLegalByPlace S R H = (i : ℕ) (d : Event) → i < length H → IsStep S R (reverse (take i H)) (get_or H i d)

-- legal histories of the policy and the script that have one journal are one
abbrev pub FixedByJournal : Policy → Script → Type 0
FixedByJournal P S = (K L : List Event) → Legal P S K → Legal P S L → journal K ≡ journal L → K ≡ L
