-- The items so far stand before the pieces that are left, which are taken from the last one on.
use Rattle.std.proofs.Common.{◌≡◌, ◌++◌, map, length}
use Rattle.std.specs.Prelude.{reverse}
use Rattle.policy_reader.specs.LxdLists.{lxd_items}
use Rattle.policy_reader.proofs.lxd_lists.lxd_items.Given as goal

abbrev pub invariant-loop-piece : goal.invariant-loop-piece
invariant-loop-piece l = map (λ item. item.now) l.items.items ++ reverse (map (λ piece. piece.now) l.pieces.items) ≡ lxd_items l.text

abbrev pub decreases-loop-piece : goal.decreases-loop-piece
decreases-loop-piece l = length l.pieces.items
