use Rattle.std.proofs.Common.{◌≡◌, ◌++◌, length, take}
use Rattle.std.specs.List.{flat_map}
use Rattle.key_bytes.specs.Parts.{number_part}
use Rattle.key_bytes.proofs.parts.push_numbers.Given as goal

abbrev pub invariant-loop-number : goal.invariant-loop-number
invariant-loop-number l = l.key.items ≡ l.fn.key.items ++ number_part (length l.numbers) ++ flat_map number_part (take l.number-index l.numbers)
