use Rattle.outcome_text.proofs.NamePlaces.{StaysBefore}
use Rattle.outcome_text.proofs.names.place_among.Given as goal

abbrev pub invariant-loop-place : goal.invariant-loop-place
invariant-loop-place l = StaysBefore l.name l.names l.place
