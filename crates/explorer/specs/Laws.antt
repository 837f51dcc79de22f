-- What the outcomes of histories are, whichever these are.
use Rattle.std.specs.Prelude.{◌≡◌, ℕ, bytes_eq, List, [], ◌∷◌, length, filter, Option, Some, None}
use Rattle.std.specs.List.{find}
use Rattle.hist_model.specs.ReportAudit.{Judging}
use Rattle.hist_model.specs.declared.event.Event.{Event}
use Rattle.hist_model.specs.declared.script.Script.{Script}
use Rattle.outcome_text.specs.Outcomes.{result_of}
use Rattle.explorer.specs.Tallies.{CountedOutcome, counted, has_text, outcomes, playing}

-- the histories that come to this text
abbrev pub coming_to : Script → Judging → List ℕ → List (List Event) → List (List Event)
coming_to S J text histories = filter (λ H. bytes_eq (result_of S J H) text) histories

-- the outcome of those that do: how many there are, and the schedule of the first
abbrev pub outcome_with : List ℕ → List (List Event) → Option CountedOutcome
outcome_with text [] = None
outcome_with text (H ∷ more) = Some (record { text = text; histories = length (H ∷ more); schedule = playing H })

-- the outcome with a text is that of the histories that come to it; there is none where no history does
abbrev pub FindsEach : Type 0
FindsEach = (S : Script) (J : Judging) (histories : List (List Event)) (text : List ℕ)
    → find (has_text text) (outcomes S J histories) ≡ outcome_with text (coming_to S J text histories)

-- the outcomes have as many histories together as there are, so that none is counted twice
abbrev pub CountsAll : Type 0
CountsAll = (S : Script) (J : Judging) (histories : List (List Event)) → counted (outcomes S J histories) ≡ length histories
