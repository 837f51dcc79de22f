use Rattle.std.proofs.Common.{◌-◌, ◌<◌, ℕ, length}
use Rattle.tasks.specs.Table.{IsEndedAt, table_of}
use Rattle.tasks.proofs.table.Tasks.first_ended.Given as goal

abbrev pub invariant-loop-place : goal.invariant-loop-place
invariant-loop-place l = (j : ℕ) → j < l.place → IsEndedAt (table_of l.self) l.o j → ⊥

abbrev pub decreases-loop-place : goal.decreases-loop-place
decreases-loop-place l = length l.task.waiting.items - l.place
