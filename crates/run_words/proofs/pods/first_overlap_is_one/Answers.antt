use Rattle.run_words.proofs.Overlaps.{overlap_is_one, separate_dont_overlap}
use Rattle.run_words.proofs.pods.first_overlap_is_one.Goals as goal

pub returns-clause-one : goal.returns-clause-one
returns-clause-one c = overlap_is_one

pub returns-clause-none : goal.returns-clause-none
returns-clause-none c = separate_dont_overlap
