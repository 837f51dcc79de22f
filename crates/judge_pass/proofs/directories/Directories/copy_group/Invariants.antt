-- Behind the rows as they were stand those of the group so far, for the other group.
use Rattle.std.proofs.Common.{◌≡◌, ◌++◌, take}
use Rattle.judge_pass.proofs.Copied.{copies}
use Rattle.judge_pass.proofs.directories.Directories.copy_group.Given as goal

abbrev pub invariant-loop-place : goal.invariant-loop-place
invariant-loop-place l = l.self.rows.items ≡ l.fn.self.rows.items ++ copies l.from l.to (take l.place l.fn.self.rows.items)
