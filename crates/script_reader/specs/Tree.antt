-- The tree that lines state.
use Rattle.std.specs.Prelude.{ℕ, ◌+◌, Bool, true, false, ◌||◌, not, if◌then◌else◌, List, [], ◌∷◌, ◌++◌, length, Option}
use Rattle.std.specs.Prelude.{Some, None, is_some, bytes_eq}
use Rattle.lex_core.specs.declared.reason.Reason.TheVariants as reason
use Rattle.hist_model.specs.declared.request.Node.{Node}
use Rattle.hist_model.specs.declared.request.NodeRef.{NodeRef}
use Rattle.hist_model.specs.TreeLines.{is_directory}
use Rattle.hist_model.specs.declared.script.TreeLine.{TreeLine}
use Rattle.hist_model.specs.declared.script.TreeLine.TheVariants as line
use Rattle.script_reader.specs.declared.error.Fault.{Fault}
use Rattle.script_reader.specs.declared.settings.PathTarget.{PathTarget}
use Rattle.script_reader.specs.Faults.{wrong_if, or_else, full}
use Rattle.script_reader.specs.Paths.{root_path, name_of, parent_of}

-- what the lines of the tree state
pub record TreeState : Type 0 where
  -- the node that a path leads to
  pub found : List ℕ → Option PathTarget
  -- how many nodes there are, `/` among them; the next one has this ordinal
  pub nodes : ℕ
  pub lines : List TreeLine

abbrev pub node_ref : ℕ → NodeRef
node_ref n = record { ordinal = n }

abbrev pub found_node : ℕ → Bool → PathTarget
found_node n directory = record { node = node_ref n; directory = directory }

-- one path leads to this, and every other one where it led
abbrev pub leading : List ℕ → PathTarget → (List ℕ → Option PathTarget) → List ℕ → Option PathTarget
leading path node others q = if bytes_eq path q then Some node else others q

-- `/` is there from the start
abbrev pub bare_tree : TreeState
bare_tree = record { found = leading root_path (found_node 0 true) (λ path. None); nodes = 1; lines = [] }

abbrev pub reference_of : Option PathTarget → NodeRef
reference_of None = node_ref 0
reference_of (Some found) = found.node

-- the node that a path leads to; `/` where it leads to none
abbrev pub node_at : TreeState → List ℕ → NodeRef
node_at T path = reference_of (T.found path)

-- one more node, at this path
abbrev pub with_path : List ℕ → Bool → TreeState → TreeState
with_path path directory T = record T { found = leading path (found_node T.nodes directory) T.found; nodes = T.nodes + 1 }

abbrev pub with_tree_line : TreeLine → TreeState → TreeState
with_tree_line l T = record T { lines = T.lines ++ l ∷ [] }

-- the line of a node: the directory in which it lies, its name there, and what it is
abbrev pub made_line : List ℕ → Node → TreeState → TreeLine
made_line path kind T = line.Made (node_at T (parent_of path)) (name_of path) kind

abbrev pub with_node : List ℕ → Node → TreeState → TreeState
with_node path kind T = with_tree_line (made_line path kind T) (with_path path (is_directory kind) T)

abbrev pub with_attr : List ℕ → List ℕ → List ℕ → TreeState → TreeState
with_attr path name value T = with_tree_line (line.Attr (node_at T path) name value) T

-- ---- faults

abbrev pub is_directory_found : Option PathTarget → Bool
is_directory_found None = false
is_directory_found (Some found) = found.directory

-- the path leads to a directory that is stated
abbrev pub leads_to_directory : TreeState → List ℕ → Bool
leads_to_directory T path = is_directory_found (T.found path)

abbrev pub is_stated : TreeState → List ℕ → Bool
is_stated T path = is_some (T.found path)

-- the parent is a directory that is stated, and the path isn't stated yet; at most 10000 lines make the tree
abbrev pub node_fault : TreeState → List ℕ → Option Fault
node_fault T path =
    or_else (wrong_if (not (leads_to_directory T (parent_of path)) || is_stated T path) reason.BadPath) (full 10000 (length T.lines))

abbrev pub attr_fault : TreeState → List ℕ → Option Fault
attr_fault T path = or_else (wrong_if (not (is_stated T path)) reason.BadPath) (full 10000 (length T.lines))
