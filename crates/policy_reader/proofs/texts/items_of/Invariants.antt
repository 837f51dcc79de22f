-- The items so far stand before those of what is left.
use Rattle.std.proofs.Common.{◌≡◌, ℕ, ◌+◌, List, Option, Some, None, Bor, length, map, ◌++◌}
use Rattle.std.specs.Option.{option_copied}
use Rattle.policy_reader.proofs.Cuts.{items_left}
use Rattle.policy_reader.specs.Texts.{items_of}
use Rattle.policy_reader.proofs.texts.items_of.Given as goal

abbrev pub invariant-loop-rest : goal.invariant-loop-rest
invariant-loop-rest l = map (λ item. item.now) l.items.items ++ items_left (option_copied l.rest) ≡ items_of l.text

-- what is left, and one where anything is
abbrev left : Option (Bor (List ℕ)) → ℕ
left None = 0
left (Some text) = length text.now + 1

abbrev pub decreases-loop-rest : goal.decreases-loop-rest
decreases-loop-rest l = left l.rest
