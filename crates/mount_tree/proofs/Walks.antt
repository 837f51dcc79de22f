-- One step through a mount.
-- By cases on how many steps are left, and by unfolding `top_through` and `up_through`.
use Rattle.std.proofs.Common.{◌≡◌, ℕ, zero, suc, ◌-◌, ◌<◌, List, arith}
use Rattle.std.specs.Prelude.{if◌then◌else◌, ◌==◌}
use Rattle.hist_model.specs.declared.tree.Mounted.{Mounted}
use Rattle.hist_model.specs.Trees.{Tree, covered, top_through, mount_on, above_row, up_through, parent_of, row_in}

pub top_step : (k : ℕ) (ms : List Mounted) (n : ℕ) → 0 < k → top_through k ms n ≡ covered (top_through (k - 1) ms) n (mount_on ms n)
unfolding top_through
top_step zero ms n h = absurd (omega arith)
top_step (suc k) ms n h = let e : suc k - 1 ≡ k = omega arith in rw e

pub up_step : (k : ℕ) (T : Tree) (root n : ℕ) → 0 < k
    → up_through k T root n ≡ (if n == root then root else above_row (up_through (k - 1) T root) T.mounts n (parent_of (row_in T.nodes n)))
unfolding up_through
up_step zero T root n h = absurd (omega arith)
up_step (suc k) T root n h = let e : suc k - 1 ≡ k = omega arith in rw e
