use Rattle.mediation.proofs.Journals as lemma
use Rattle.mediation.proofs.laws.legal_by_place.Goals as goal

pub returns : goal.returns
returns c = record { there = lemma.place_of_legal; back = lemma.legal_by_place }
