-- The lines of a schedule without requests are apart, as its turns are.
use Rattle.step_words.proofs.judging.lines_of.Goals as goal

pub returns-then-is_empty-clause-apart : goal.returns-then-is_empty-clause-apart
returns-then-is_empty-clause-apart c = rw c.new.ensures c.in_ok-turns_of.ensures.apart
