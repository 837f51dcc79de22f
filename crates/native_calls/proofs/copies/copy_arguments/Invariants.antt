use Rattle.native_calls.specs.Copied.{HasRead}
use Rattle.native_calls.proofs.copies.copy_arguments.Given as goal

abbrev pub invariant-loop : goal.invariant-loop
invariant-loop l = HasRead l.groups l.group l.nr l.args l.counter l.capture
