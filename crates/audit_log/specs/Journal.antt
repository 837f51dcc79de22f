-- What the journal has of an event.
use Rattle.std.specs.Prelude.{ℕ, List, ◌++◌, codes}
use Rattle.hist_model.specs.ReportJournal.{what_text}
use Rattle.hist_model.specs.ReportWords.{actor_text}
use Rattle.hist_model.specs.declared.event.Event.{Event}

-- what its line has after its place
abbrev pub event_rest : Event → List ℕ
event_rest e = codes " " ++ actor_text e.who ++ codes " " ++ what_text e.what ++ codes "\n"
