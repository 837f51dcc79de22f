use Rattle.std.proofs.Common.{◌≡◌, ◌++◌, length, take}
use Rattle.std.specs.List.{flat_map}
use Rattle.key_bytes.specs.Parts.{number_part}
use Rattle.model_kernel.specs.Keys.{worker_part}
use Rattle.model_kernel.proofs.rows.push_workers.Given as goal

abbrev pub invariant-loop-row : goal.invariant-loop-row
invariant-loop-row l = l.key.items ≡ l.fn.key.items ++ number_part (length l.rows) ++ flat_map worker_part (take l.row-index l.rows)
