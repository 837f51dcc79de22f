-- The line has the numbers so far.
use Rattle.std.proofs.Common.{◌≡◌, ◌++◌, take}
use Rattle.step_session.specs.Texts.{more_numbers}
use Rattle.step_session.proofs.texts.push_more.Given as goal

abbrev pub invariant-loop-number : goal.invariant-loop-number
invariant-loop-number l = l.line ≡ l.fn.line ++ more_numbers (take l.number-index l.numbers)
