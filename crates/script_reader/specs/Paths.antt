-- The paths and the names of a script's texts.
use Rattle.std.specs.Prelude.{ℕ, ◌-◌, Bool, false, ◌&&◌, nat_lt, List, [], ◌∷◌, length, take, drop, unwrap_or}
use Rattle.std.specs.Prelude.{position, reverse, codes}
use Rattle.std.specs.List.{list_all, slice_split}
pub use Rattle.hist_model.specs.TreeLines.{has_zero, is_node_name, is_slash}
pub use Rattle.step_requests.specs.Names.{is_task_text, task_numbers}

-- ---- paths of the tree (path_resolution(7))

-- names between slashes
abbrev pub are_node_names : List ℕ → Bool
are_node_names text = list_all is_node_name (slice_split is_slash text)

-- an absolute path of one or more names, at most 4095 bytes
abbrev pub is_path : List ℕ → Bool
is_path [] = false
is_path (b ∷ names) = is_slash b && nat_lt (length names) 4095 && are_node_names names

-- the root of the host's tree
abbrev pub root_path : List ℕ
root_path = codes "/"

-- how many bytes stand after the last slash
abbrev pub name_length : List ℕ → ℕ
name_length path = unwrap_or (position is_slash (reverse path)) (length path)

-- the last name of a path
abbrev pub name_of : List ℕ → List ℕ
name_of path = drop (length path - name_length path) path

-- what stands before the last slash, or `/` where nothing does
abbrev pub or_root : List ℕ → List ℕ
or_root [] = root_path
or_root (b ∷ bs) = b ∷ bs

abbrev pub parent_of : List ℕ → List ℕ
parent_of path = or_root (take (length path - name_length path - 1) path)
