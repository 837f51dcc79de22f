use Rattle.std.proofs.Common.{◌≡◌, ◌++◌}
use Rattle.key_bytes.specs.Parts.{number_part}
use Rattle.model_kernel.specs.Keys.{times_part}
use Rattle.model_kernel.proofs.spent.SpentRows.write_key.Given as goal

abbrev pub invariant-loop-rule : goal.invariant-loop-rule
invariant-loop-rule l = l.key.items ≡ l.fn.key.items ++ number_part l.self.last ++ times_part l.self l.rule
