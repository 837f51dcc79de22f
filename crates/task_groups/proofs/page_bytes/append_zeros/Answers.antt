use Rattle.std.proofs.Common.{ℕ}
use Rattle.std.proofs.lemmas.List.{take-replicate}
use Rattle.task_groups.proofs.page_bytes.append_zeros.Goals as goal

pub returns-clause-items : goal.returns-clause-items
returns-clause-items c = rw (take-replicate {X = ℕ} c.args.count 4096 0 c.requires.within) at c.in-Ok.ensures.items
