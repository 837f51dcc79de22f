-- What the calls so far add.
use Rattle.std.proofs.Common.{◌≡◌}
use Rattle.generated_input.specs.GeneratedScript as definitions
use Rattle.generated_input.proofs.input_script.callers.Given as goal

abbrev pub invariant-loop-i : goal.invariant-loop-i
invariant-loop-i l = l.programs.items ≡ definitions.callers l.from l.i
