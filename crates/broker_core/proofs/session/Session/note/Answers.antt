-- What is noted of each deed is what its answer tells.
-- By the case of the deed.
use Rattle.std.proofs.Common.{inl, inr}
use Rattle.broker_core.proofs.session.Session.note.Goals as goal

pub returns-in-OpenMem : goal.returns-in-OpenMem
returns-in-OpenMem c = λ q b. rw c.in-OpenMem.is (c.note_memory.ensures _)

pub returns-in-OpenBase : goal.returns-in-OpenBase
returns-in-OpenBase c = λ q b. rw c.in-OpenBase.is (c.note_base.ensures _ _)

pub returns-in-Check : goal.returns-in-Check
returns-in-Check c = λ q b. rw c.in-Check.is (c.note_check.ensures _)

pub returns-in-AddfdPut : goal.returns-in-AddfdPut
returns-in-AddfdPut c = λ q b. rw c.in-AddfdPut.is (c.note_put.ensures _)

pub returns-in-Send : goal.returns-in-Send
returns-in-Send c = λ q b. rw c.in-Send.is (c.note_sent.ensures _ _)

pub returns-in-Act : goal.returns-in-Act
returns-in-Act c = λ q b. elim c.in-Act.is [
  | inl act ↦ rw act.1 (c.note_outcome.ensures.act _ _)
  | inr plant ↦ rw plant.2 (c.note_outcome.ensures.plant _ _ _)
]
