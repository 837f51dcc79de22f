use Rattle.std.proofs.Common.{◌≡◌, ◌+◌, map, take}
use Rattle.long_count.proofs.digits.glyphs.Given as goal

abbrev pub invariant-loop-digit : goal.invariant-loop-digit
invariant-loop-digit l = l.text.items ≡ map (λ d. 48 + d) (take l.digit-index l.digits)
