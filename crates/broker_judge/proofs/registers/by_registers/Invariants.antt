use Rattle.std.proofs.Common.{◌≡◌, drop}
use Rattle.broker_judge.specs.Registers.{led}
use Rattle.broker_verdict.specs.Choices.{by_registers_from}
use Rattle.broker_judge.proofs.registers.by_registers.Given as goal

abbrev pub invariant-loop-i : goal.invariant-loop-i
invariant-loop-i l = by_registers_from 0 l.rules l.request ≡ led l.said (by_registers_from l.i (drop l.i l.rules) l.request)
