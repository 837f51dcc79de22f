-- The pieces so far stand before those of what is left.
use Rattle.std.proofs.Common.{◌≡◌, ℕ, ◌+◌, List, Option, Some, None, Bor, length, map, ◌++◌}
use Rattle.std.specs.Prelude.{◌==◌}
use Rattle.std.specs.List.{slice_split}
use Rattle.std.specs.Option.{option_copied}
use Rattle.policy_reader.proofs.Cuts.{pieces_left}
use Rattle.policy_reader.proofs.lxd_lists.pieces_of.Given as goal

abbrev pub invariant-loop-rest : goal.invariant-loop-rest
invariant-loop-rest l = map (λ piece. piece.now) l.pieces.items ++ pieces_left (option_copied l.rest) ≡ slice_split (λ b. b == 44) l.text

-- what is left, and one where anything is
abbrev left : Option (Bor (List ℕ)) → ℕ
left None = 0
left (Some text) = length text.now + 1

abbrev pub decreases-loop-rest : goal.decreases-loop-rest
decreases-loop-rest l = left l.rest
