-- The text is the one that was asked for.
use Rattle.handover.proofs.replacing.written.Goals as goal

pub returns-then-is_behind-clause-text : goal.returns-then-is_behind-clause-text
returns-then-is_behind-clause-text c = λ P s. rw c.if-is_behind.true (c.write_and_note.ensures.text P s)

pub returns-else-is_behind-clause-text : goal.returns-else-is_behind-clause-text
returns-else-is_behind-clause-text c = λ P s. rw c.if-is_behind.false (c.note_and_write.ensures.text P s)
