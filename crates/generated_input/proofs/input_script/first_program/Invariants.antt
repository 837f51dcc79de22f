-- What the calls so far add.
use Rattle.std.proofs.Common.{◌≡◌}
use Rattle.generated_input.specs.GeneratedScript as definitions
use Rattle.generated_input.proofs.input_script.first_program.Given as goal

abbrev pub invariant-loop-i : goal.invariant-loop-i
invariant-loop-i l = l.body.items ≡ definitions.first_program l.from l.i
