-- The first line of what is printed of a broker that was judged.
use Rattle.std.specs.Prelude.{ℕ, ◌+◌, if◌then◌else◌, List, [], ◌∷◌, ◌++◌, length, Option, Some, None, codes, decimal}
use Rattle.hist_model.specs.Kinds.{closes, starts}
use Rattle.hist_model.specs.declared.event.Event.{Event}
use Rattle.history_frames.specs.Ordinals.{count_of}
use Rattle.broker_verdict.specs.Seats.{is_effect}
use Rattle.broker_verdict.specs.Words.{class_name, clause_name}
use Rattle.broker_verdict.specs.declared.clause.Class.{Class}
use Rattle.broker_verdict.specs.declared.clause.Clause.{Clause}
use Rattle.judge_pass.specs.Counted.{is_answering}
use Rattle.judge_pass.specs.Finding.{Finding}

-- it has mediated, by so many events, receives, effects and answers
abbrev pub numbers_text : ℕ → ℕ → ℕ → ℕ → List ℕ
numbers_text events calls effects answers =
    codes "mediated events=" ++ decimal events ++ codes " calls=" ++ decimal calls ++ codes " effects=" ++ decimal effects
    ++ codes " answers=" ++ decimal answers ++ codes "\n"

-- the events of a history; that the listener is closed at its end doesn't count
abbrev pub events_of : List Event → ℕ
events_of [] = 0
events_of (e ∷ K) = if closes e.what then length K else length K + 1

abbrev pub mediated_text : List Event → List ℕ
mediated_text K = numbers_text (events_of K) (count_of starts K) (count_of is_effect K) (count_of is_answering K)

-- the event at this place breaks a clause first, which is so grave
abbrev pub broken_text : ℕ → Class → Clause → List ℕ
broken_text place class clause =
    codes "broken " ++ decimal place ++ codes " " ++ class_name class ++ codes " " ++ clause_name clause ++ codes "\n"

-- what was found, or else that it has mediated
abbrev pub or_mediated : Option Finding → List ℕ → List ℕ
or_mediated (Some found) mediated = broken_text found.place found.class found.clause
or_mediated None mediated = mediated

abbrev pub head_text : List Event → Option Finding → List ℕ
head_text K found = or_mediated found (mediated_text K)
