use Rattle.std.proofs.Common.{List, ℕ, ap, ◌∙◌}
use Rattle.std.specs.Prelude.{slice_index}
use Rattle.task_groups.proofs.PageBytes.{zeros_behind}
use Rattle.task_groups.proofs.page_bytes.reach.Goals as goal

pub returns-clause-bytes : goal.returns-clause-bytes
returns-clause-bytes c i = ap (λ (xs : List ℕ). slice_index xs i) c.append_zeros.ensures.items ∙ zeros_behind c.args.bytes.now.items _ i
