-- The lines of a script's tree: which names, texts and numbers they have, and which nodes they stand below.
use Rattle.std.specs.Prelude.{ℕ, ◌+◌, Bool, true, false, ◌&&◌, not, ◌==◌, nat_le, nat_lt, List, [], ◌∷◌, ◌++◌, length, slice_get, Option}
use Rattle.std.specs.Prelude.{Some, None, unwrap_or, bytes_eq, codes}
use Rattle.std.specs.List.{list_all, list_any}
use Rattle.hist_model.specs.declared.request.Node.{Node}
use Rattle.hist_model.specs.declared.request.Node.TheVariants.{Dir, Link, Chr, Blk}
use Rattle.hist_model.specs.declared.request.NodeRef.{NodeRef}
use Rattle.hist_model.specs.declared.script.TreeLine.{TreeLine}
use Rattle.hist_model.specs.declared.script.TreeLine.TheVariants.{Made, Attr}

-- ---- texts and numbers

abbrev pub is_zero : ℕ → Bool
is_zero b = b == 0

abbrev pub has_zero : List ℕ → Bool
has_zero text = list_any is_zero text

-- so many bytes at least and at most, none of them zero
abbrev pub is_text : ℕ → ℕ → List ℕ → Bool
is_text least most text = nat_le least (length text) && nat_le (length text) most && not (has_zero text)

-- the name of a node: 1 to 255 bytes without a zero byte, but not `.` or `..`
abbrev pub is_node_name : List ℕ → Bool
is_node_name name =
    not (length name == 0) && nat_le (length name) 255 && not (has_zero name)
    && not (bytes_eq name (codes ".")) && not (bytes_eq name (codes ".."))

abbrev pub is_slash : ℕ → Bool
is_slash b = b == 47

-- a name as it stands between the slashes of a path (path_resolution(7))
abbrev pub is_component : List ℕ → Bool
is_component name = is_node_name name && not (list_any is_slash name)

abbrev pub is_device : ℕ → ℕ → Bool
is_device major minor = nat_le major 4095 && nat_le minor 1048575

-- a link's target has 1 to 4095 bytes without zero
abbrev pub is_node : Node → Bool
is_node (Link target) = is_text 1 4095 target
is_node (Chr major minor) = is_device major minor
is_node (Blk major minor) = is_device major minor
is_node _ = true

abbrev pub is_directory : Node → Bool
is_directory Dir = true
is_directory _ = false

-- ---- the nodes that lines make

-- by their ordinals, which nodes are directories; `/` alone
abbrev pub root_alone : List Bool
root_alone = true ∷ []

abbrev pub is_true : Option Bool → Bool
is_true None = false
is_true (Some b) = b

-- the node is a directory that is stated, or `/`
abbrev pub is_stated_directory : List Bool → NodeRef → Bool
is_stated_directory nodes n = is_true (slice_get nodes n.ordinal)

-- with the node of one more line
abbrev pub with_line : TreeLine → List Bool → List Bool
with_line (Made parent name node) nodes = nodes ++ is_directory node ∷ []
with_line (Attr on name value) nodes = nodes

-- with the nodes of more lines
abbrev pub nodes_behind : List Bool → List TreeLine → List Bool
nodes_behind nodes [] = nodes
nodes_behind nodes (line ∷ more) = nodes_behind (with_line line nodes) more

-- the nodes of a tree
abbrev pub nodes_of : List TreeLine → List Bool
nodes_of lines = nodes_behind root_alone lines

-- the line goes with the nodes that are stated above it: a node lies in a directory, and an attribute on a node
abbrev pub is_line : List Bool → TreeLine → Bool
is_line nodes (Made parent name node) = is_stated_directory nodes parent && is_component name && is_node node
is_line nodes (Attr on name value) = nat_lt on.ordinal (length nodes) && is_text 1 255 name && nat_le (length value) 4096

-- each line goes with what is stated above it
abbrev pub are_lines_behind : List Bool → List TreeLine → Bool
are_lines_behind nodes [] = true
are_lines_behind nodes (line ∷ more) = is_line nodes line && are_lines_behind (with_line line nodes) more

abbrev pub are_lines : List TreeLine → Bool
are_lines lines = are_lines_behind root_alone lines

-- ---- the names in a directory

-- the line makes a node of this name in this directory
abbrev pub makes : NodeRef → List ℕ → TreeLine → Bool
makes directory name (Made parent other node) = (parent.ordinal == directory.ordinal) && bytes_eq other name
makes directory name (Attr on other value) = false

-- one of these lines makes a node of the same name in the same directory
abbrev pub is_made_in : List TreeLine → TreeLine → Bool
is_made_in lines (Made parent name node) = list_any (makes parent name) lines
is_made_in lines (Attr on name value) = false

-- no name stands twice in a directory; an attribute may be stated again
abbrev pub have_own_names : List TreeLine → Bool
have_own_names [] = true
have_own_names (line ∷ more) = not (is_made_in more line) && have_own_names more

-- ---- the paths

-- how many bytes the path of a node has, without the slash at its end where it is `/`
abbrev pub path_length : List ℕ → NodeRef → ℕ
path_length lengths n = unwrap_or (slice_get lengths n.ordinal) 0

-- with the node of one more line: the path of its directory, a slash and its name
abbrev pub with_length : TreeLine → List ℕ → List ℕ
with_length (Made parent name node) lengths = lengths ++ (path_length lengths parent + length name + 1) ∷ []
with_length (Attr on name value) lengths = lengths

-- with the nodes of more lines
abbrev pub lengths_behind : List ℕ → List TreeLine → List ℕ
lengths_behind lengths [] = lengths
lengths_behind lengths (line ∷ more) = lengths_behind (with_length line lengths) more

-- by the nodes' ordinals, how long their paths are
abbrev pub path_lengths : List TreeLine → List ℕ
path_lengths lines = lengths_behind (0 ∷ []) lines

-- no path has more than 4095 bytes
abbrev pub have_short_paths : List TreeLine → Bool
have_short_paths lines = list_all (λ n. nat_le n 4095) (path_lengths lines)
