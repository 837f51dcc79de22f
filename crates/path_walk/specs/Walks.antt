-- What a walk of a part of a path leaves to be walked.
use Rattle.std.specs.Prelude.{ℕ, List, Result, Ok, Err}
use Rattle.hist_model.specs.Trees.{Tree}
use Rattle.hist_model.specs.Paths.{Last, Place, walk}
use Rattle.path_walk.specs.Turns.{ending_of}
use Rattle.path_walk.specs.declared.turns.Ending.{Ending}
use Rattle.path_walk.specs.declared.resolution.Reached.{Reached}

-- the place after a walk of a text, with components that follow it
abbrev pub place_after : Tree → ℕ → Last → List (List ℕ) → Result Reached Ending → Place
place_after T root last cs (Ok reached) = walk reached.links T root last reached.node.ordinal cs
place_after T root last cs (Err ending) = ending_of ending
