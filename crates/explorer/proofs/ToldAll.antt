-- When nothing is left to go on from, what is told of the ends is told of all histories within the bound.
-- With as many delays more as the bound stands for.
use Rattle.std.proofs.Common.{◌≡◌, ℕ, ◌+◌, ◌-◌, ◌^◌, true, List, [], map, Option, Some, None, refl, subst, arith}
use Rattle.std.specs.Prelude.{sum_by}
use Rattle.hist_model.specs.declared.policy.Policy.{Policy}
use Rattle.hist_model.specs.declared.script.Script.{Script}
use Rattle.delay_bounded.specs.Explored.{bound_of, explored}
use Rattle.explorer.specs.Bounds.{IsMore, bound_for}
use Rattle.explorer.specs.Levels.{AddsUp, TellsEnds, path_of}
use Rattle.explorer.specs.Paths.{Path, paths_of}
use Rattle.explorer.specs.Sorted.{IsSorted, outcome_in}
use Rattle.explorer.specs.Telling.{Tells}
use Rattle.explorer.specs.declared.ends.End.{End}
use Rattle.explorer.specs.declared.ends.Ends.{Ends}
use Rattle.explorer.specs.declared.exploring.Exploration.{Exploration}
use Rattle.explorer.specs.declared.frames.Frame.{Frame}
use Rattle.explorer.specs.declared.state.Bound.{Bound}
use Rattle.explorer.proofs.EndsOfAll.{tells}

-- so many delays more than the bound are had
pub more_of : (delays : Option ℕ) → (k : ℕ) × IsMore (bound_for delays) k × ((bound_for delays).most + k ≡ bound_of delays)
more_of (Some d) = (0, λ e. refl, omega arith)
more_of None = (bound_of None - (2 ^ 64 - 1), λ e. cc, omega arith)

module _ (P : Policy) (S : Script) (W : ℕ) (b : Bound) where
  ended_only : (k : ℕ) (done : List (List Frame)) → AddsUp P S W b k done [] → (h : Path → ℕ) → sum_by h (paths_of P S W (b.most + k)) ≡ sum_by (λ fs. h (path_of P S W b k fs)) done
  ended_only k done a h = omega (arith, a h)

pub told_all : (P : Policy) (S : Script) (W : ℕ) (delays : Option ℕ) (done : List (List Frame)) (x : Ends) → TellsEnds P S W (bound_for delays) done x
    → ((k : ℕ) → IsMore (bound_for delays) k → AddsUp P S W (bound_for delays) k done []) → (sorted : List End) → IsSorted x.ends.items sorted
    → (y : Exploration) → y.histories ≡ x.histories → y.events ≡ x.events → y.longest ≡ x.longest → y.whole ≡ true → y.outcomes.items ≡ map outcome_in sorted
    → Tells P S (explored P S W (bound_of delays)) true y
told_all P S W delays done x t a sorted o y histories events longest whole out =
    let more : (k : ℕ) × IsMore (bound_for delays) k × ((bound_for delays).most + k ≡ bound_of delays) = more_of delays in
    subst (λ (n : ℕ). Tells P S (explored P S W n) true y) more.2
    (tells P S W (bound_for delays) more.0 done t.ended (ended_only P S W (bound_for delays) more.0 done (a more.0 more.1)) x sorted y t o histories events longest whole out)
