use Rattle.std.proofs.Common.{◌≡◌, ◌≤◌, ◌++◌, List, ℕ, length}
use Rattle.std.specs.Prelude.{not}
use Rattle.hist_model.specs.Paths.{components, none_left, walk}
use Rattle.path_walk.specs.Places.{last_of}
use Rattle.path_walk.proofs.resolution.Reached.+by_text.Given as goal

abbrev pub decreases-by_text : goal.decreases-by_text
decreases-by_text l = l.links

abbrev pub invariant-loop-component : goal.invariant-loop-component
invariant-loop-component l = record {
  place : (cs : List (List ℕ)) → none_left cs ≡ not l.more
      → walk l.links l.tree.tree l.root.ordinal (last_of l.last) l.fn.start.ordinal (components l.text ++ cs)
      ≡ walk l.here.links l.tree.tree l.root.ordinal (last_of l.last) l.here.node.ordinal (components l.unread ++ cs);
  links : l.here.links ≤ l.links;
}

abbrev pub decreases-loop-component : goal.decreases-loop-component
decreases-loop-component l = length l.unread
