use Rattle.tasks.proofs.Told.{place-of-name, group-of-place}
use Rattle.tasks.proofs.laws.names_lead_to_places.Goals as goal

pub returns-clause-place : goal.returns-clause-place
returns-clause-place c S K T o s l = place-of-name S K T o s l

pub returns-clause-group : goal.returns-clause-group
returns-clause-group c S K T o g s l h = group-of-place S K T o g s l h
