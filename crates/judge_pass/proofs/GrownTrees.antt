-- A tree only grows: the nodes that it has stay what they are, and what it says of nodes is said of those that it has.
-- By the walk of a path, which goes from a node of the tree to others of it, and by what each operation puts in front.
use Rattle.std.proofs.Common.{◌≡◌, ℕ, zero, suc, ◌<◌, ◌≤◌, Bool, true, false, ◌&&◌, ◌||◌, List, [], ◌∷◌, ◌++◌, length, inl, inr, Option, Some, None, refl, arith}
use Rattle.std.specs.Prelude.{if◌then◌else◌, is_some, not, ◌==◌, nat_lt, Ok, Err, Result}
use Rattle.std.proofs.lemmas.Bool.{cases_Bool, ne_eqb}
use Rattle.hist_model.specs.Effects.{attr_set, attributed, made, mounted, opened, perform}
use Rattle.hist_model.specs.Files.{tree_or}
use Rattle.hist_model.specs.Paths.{arrived, At, components, creates, Create, entered, Ends, Follow, Follows, Goes, is_absolute, is_dot, is_dot_dot, Last, link_start, looked_up, looped, named, New}
use Rattle.hist_model.specs.Paths.{none_left, Place, reaches, Refused, stepped, Turn, turn, turned, walk, walk_parts, walked_from}
use Rattle.hist_model.specs.TreeOps.{Fail, Make, Mount, Open, SetAttr, TreeOp}
use Rattle.hist_model.specs.Trees.{above_row, are_attr_flags, attr, covered, creates_attr, entry_in, is_dir_at, is_entry, mount_on, node_at, parent_of, replaces_attr, row_in, target_of, top_through, Tree, uncovered, up_through, with_attr, with_mount, with_node}
use Rattle.hist_model.specs.declared.request.MountRow.{MountRow}
use Rattle.hist_model.specs.declared.request.Node.{Node}
use Rattle.hist_model.specs.declared.request.Node.TheVariants.{Link}
use Rattle.hist_model.specs.declared.tree.Mounted.{Mounted}
use Rattle.hist_model.specs.declared.tree.NodeRow.{NodeRow}

-- a node, if there is one, is among so many
abbrev pub IsAmong : ℕ → Option ℕ → Type 0
IsAmong limit (Some n) = n < limit
IsAmong limit None = Unit {0}

-- the parents of nodes, and the roots of mounts and what they cover, are nodes of the tree
pub record IsWhole (T : Tree) : Type 0 where
  pub parents : (n : ℕ) → IsAmong (length T.nodes) (parent_of (row_in T.nodes n))
  pub roots : (n : ℕ) → IsAmong (length T.nodes) (mount_on T.mounts n)
  pub targets : (n : ℕ) → IsAmong (length T.nodes) (target_of T.mounts n)

-- the second tree has the nodes of the first one, and maybe more
pub record Grown (T U : Tree) : Type 0 where
  pub more : length T.nodes ≤ length U.nodes
  pub same : (n : ℕ) → n < length T.nodes → row_in U.nodes n ≡ row_in T.nodes n
  pub whole : IsWhole U

among_more : (o : Option ℕ) (m n : ℕ) → IsAmong m o → m ≤ n → IsAmong n o
among_more None m n h l = tt
among_more (Some k) m n h l = omega arith

-- ---- one node more, and one mount more

pub grown_self : (T : Tree) → IsWhole T → Grown T T
grown_self T h = record { more = omega arith; same = λ n l. refl; whole = h }

older_row : (r : NodeRow) (rows : List NodeRow) (n : ℕ) → n < length rows → row_in (r ∷ rows) n ≡ row_in rows n
unfolding row_in
older_row r rows n l = let d : (n ≡ length rows → ⊥) = omega arith in rw (ne_eqb n (length rows) d) refl

parents_more : (r : NodeRow) (rows : List NodeRow) → IsAmong (length rows) r.parent → ((n : ℕ) → IsAmong (length rows) (parent_of (row_in rows n)))
    → (n : ℕ) → IsAmong (length (r ∷ rows)) (parent_of (row_in (r ∷ rows) n))
unfolding row_in
parents_more r rows p h n = elim (cases_Bool (n == length rows)) [
  | inl q ↦ rw q (among_more r.parent (length rows) (length (r ∷ rows)) p (omega arith))
  | inr q ↦ rw q (among_more (parent_of (row_in rows n)) (length rows) (length (r ∷ rows)) (h n) (omega arith))
]

roots_more : (m : Mounted) (ms : List Mounted) (old new : ℕ) → old ≤ new → m.root < new → ((n : ℕ) → IsAmong old (mount_on ms n)) → (n : ℕ) → IsAmong new (mount_on (m ∷ ms) n)
unfolding mount_on
roots_more m ms old new l p h n = elim (cases_Bool (m.target == n)) [
  | inl q ↦ rw q p
  | inr q ↦ rw q (among_more (mount_on ms n) old new (h n) l)
]

targets_more : (m : Mounted) (ms : List Mounted) (old new : ℕ) → old ≤ new → m.target < new → ((n : ℕ) → IsAmong old (target_of ms n)) → (n : ℕ) → IsAmong new (target_of (m ∷ ms) n)
unfolding target_of
targets_more m ms old new l p h n = elim (cases_Bool (m.root == n)) [
  | inl q ↦ rw q p
  | inr q ↦ rw q (among_more (target_of ms n) old new (h n) l)
]

pub grown_node : (T : Tree) (dir : ℕ) (name : List ℕ) (node : Node) → IsWhole T → dir < length T.nodes → Grown T (with_node T dir name node)
grown_node T dir name node h l = record {
  more = omega arith;
  same = λ n b. older_row (record { parent = Some dir; name = name; node = node }) T.nodes n b;
  whole = record {
    parents = parents_more (record { parent = Some dir; name = name; node = node }) T.nodes l h.parents;
    roots = λ n. among_more (mount_on T.mounts n) (length T.nodes) _ (h.roots n) (omega arith);
    targets = λ n. among_more (target_of T.mounts n) (length T.nodes) _ (h.targets n) (omega arith);
  };
}

grown_mount : (T : Tree) (dir : ℕ) (row : MountRow) → IsWhole T → dir < length T.nodes → Grown T (with_mount T dir row)
grown_mount T dir row h l =
    let U = with_mount T dir row in
    record {
      more = omega arith;
      same = λ n b. older_row _ T.nodes n b;
      whole = record {
        parents = parents_more _ T.nodes tt h.parents;
        roots = roots_more (record { target = dir; root = length T.nodes; row = row }) T.mounts (length T.nodes) (length U.nodes) (omega arith) (omega arith) h.roots;
        targets = targets_more (record { target = dir; root = length T.nodes; row = row }) T.mounts (length T.nodes) (length U.nodes) (omega arith) (omega arith) h.targets;
      };
    }

-- ---- where a walk leads

-- the place is at a node of the tree, or in one
abbrev pub LeadsAmong : ℕ → Place → Type 0
LeadsAmong limit (At n) = n < limit
LeadsAmong limit (New dir name) = dir < limit
LeadsAmong limit (Refused e) = Unit {0}

abbrev TurnsAmong : ℕ → Turn → Type 0
TurnsAmong limit (Ends p) = LeadsAmong limit p
TurnsAmong limit (Goes n) = n < limit
TurnsAmong limit (Follows target) = Unit {0}

entry_among : (rows : List NodeRow) (dir : ℕ) (name : List ℕ) → IsAmong (length rows) (entry_in rows dir name)
unfolding entry_in
entry_among [] dir name = tt
entry_among (r ∷ rows) dir name = elim (cases_Bool (is_entry r dir name)) [
  | inl q ↦ let l : length rows < length (r ∷ rows) = omega arith in rw q l
  | inr q ↦ rw q (among_more (entry_in rows dir name) (length rows) (length (r ∷ rows)) (entry_among rows dir name) (omega arith))
]

top_among : (k : ℕ) (ms : List Mounted) (limit n : ℕ) → ((n : ℕ) → IsAmong limit (mount_on ms n)) → n < limit → top_through k ms n < limit
unfolding top_through
top_among zero ms limit n h l = l
top_among (suc k) ms limit n h l = by (λ root b. top_among k ms limit root h b) (mount_on ms n) (h n)
  where
    by : ((root : ℕ) → root < limit → top_through k ms root < limit) → (o : Option ℕ) → IsAmong limit o → covered (top_through k ms) n o < limit
    by over None b = l
    by over (Some root) b = over root b

up_among : (k : ℕ) (T : Tree) (root n : ℕ) → IsWhole T → root < length T.nodes → n < length T.nodes → up_through k T root n < length T.nodes
unfolding up_through
up_among zero T root n h r l = l
up_among (suc k) T root n h r l = elim (cases_Bool (n == root)) [
  | inl q ↦ rw q r
  | inr q ↦ rw q (by (λ m b. up_among k T root m h r b) (parent_of (row_in T.nodes n)) (h.parents n))
]
  where
    below : ((m : ℕ) → m < length T.nodes → up_through k T root m < length T.nodes) → (t : Option ℕ) → IsAmong (length T.nodes) t → uncovered (up_through k T root) n t < length T.nodes
    below above None b = l
    below above (Some t) b = above t b

    by : ((m : ℕ) → m < length T.nodes → up_through k T root m < length T.nodes) → (p : Option ℕ) → IsAmong (length T.nodes) p → above_row (up_through k T root) T.mounts n p < length T.nodes
    by above None b = below above (target_of T.mounts n) (h.targets n)
    by above (Some parent) b = b

module _ (T : Tree) (root : ℕ) (h : IsWhole T) (r : root < length T.nodes) where
  entered_among : (n : ℕ) (kind : Option Node) → n < length T.nodes → TurnsAmong (length T.nodes) (entered T n kind)
  entered_among n (Some (Link target)) l = tt
  entered_among n kind l = top_among (length T.mounts) T.mounts (length T.nodes) n h.roots l

  looked_up_among : (o : Option ℕ) → IsAmong (length T.nodes) o → TurnsAmong (length T.nodes) (looked_up T o)
  looked_up_among None l = tt
  looked_up_among (Some n) l = entered_among n (node_at T n) l

  stepped_among : (n : ℕ) (c : List ℕ) → n < length T.nodes → TurnsAmong (length T.nodes) (stepped T root n c)
  stepped_among n c l = by (is_dot c) (is_dot_dot c)
    where
      by : (a b : Bool) → TurnsAmong (length T.nodes) (if a then Goes n else (if b then Goes (up_through (suc (length T.mounts)) T root n) else looked_up T (entry_in T.nodes n c)))
      by true b = l
      by false true = up_among (suc (length T.mounts)) T root n h r l
      by false false = looked_up_among (entry_in T.nodes n c) (entry_among T.nodes n c)

  named_among : (n : ℕ) (c : List ℕ) → n < length T.nodes → LeadsAmong (length T.nodes) (named n c)
  named_among n c l = by (is_dot c || is_dot_dot c)
    where
      by : (b : Bool) → LeadsAmong (length T.nodes) (if b then Refused 17 else New n c)
      by true = tt
      by false = l

  turn_among : (names : Bool) (n : ℕ) (c : List ℕ) → n < length T.nodes → TurnsAmong (length T.nodes) (turn T root names n c)
  turn_among names n c l = by (is_dir_at T n) (nat_lt 255 (length c)) names
    where
      by : (d long names : Bool) → TurnsAmong (length T.nodes)
          (if not d then Ends (Refused 20) else (if long then Ends (Refused 36) else (if names then Ends (named n c) else stepped T root n c)))
      by false long names = tt
      by true true names = tt
      by true false true = named_among n c l
      by true false false = stepped_among n c l

  arrived_among : (last : Last) (n : ℕ) → n < length T.nodes → LeadsAmong (length T.nodes) (arrived last n)
  arrived_among Follow n l = l
  arrived_among Create n l = tt

  start_among : (n : ℕ) (target : List ℕ) → n < length T.nodes → link_start root n target < length T.nodes
  start_among n target l = by (is_absolute target)
    where
      by : (b : Bool) → (if b then root else n) < length T.nodes
      by true = r
      by false = l

  parts_among : (follow : ℕ → List (List ℕ) → Place) (last : Last) → ((n : ℕ) (cs : List (List ℕ)) → n < length T.nodes → LeadsAmong (length T.nodes) (follow n cs))
      → (n : ℕ) (cs : List (List ℕ)) → n < length T.nodes → LeadsAmong (length T.nodes) (walk_parts follow T root last n cs)
  unfolding walk_parts
  parts_among follow last goes n [] l = arrived_among last n l
  parts_among follow last goes n (c ∷ cs) l =
      by (λ m b. parts_among follow last goes m cs b) (turn T root (creates last && none_left cs) n c) (turn_among (creates last && none_left cs) n c l)
    where
      by : ((m : ℕ) → m < length T.nodes → LeadsAmong (length T.nodes) (walk_parts follow T root last m cs))
          → (t : Turn) → TurnsAmong (length T.nodes) t → LeadsAmong (length T.nodes) (turned follow (λ m. walk_parts follow T root last m cs) root n cs t)
      by rest (Ends p) b = b
      by rest (Goes m) b = rest m b
      by rest (Follows target) b = goes (link_start root n target) (components target ++ cs) (start_among n target l)

  walk_among : (links : ℕ) (last : Last) (n : ℕ) (cs : List (List ℕ)) → n < length T.nodes → LeadsAmong (length T.nodes) (walk links T root last n cs)
  unfolding walk
  walk_among zero last n cs l = parts_among looped last (λ n cs l. tt) n cs l
  walk_among (suc links) last n cs l = parts_among (walk links T root last) last (λ n cs l. walk_among links last n cs l) n cs l

  pub reaches_among : (base : Option ℕ) (path : List ℕ) (last : Last) → IsAmong (length T.nodes) base → LeadsAmong (length T.nodes) (reaches T root base path last)
  reaches_among base [] last l = tt
  reaches_among base (b ∷ bs) last l = by (b == 47) base l
    where
      from : (o : Option ℕ) → IsAmong (length T.nodes) o → LeadsAmong (length T.nodes) (walked_from T root last (components (b ∷ bs)) o)
      from None m = tt
      from (Some n) m = walk_among 40 last n (components (b ∷ bs)) m

      by : (a : Bool) (o : Option ℕ) → IsAmong (length T.nodes) o → LeadsAmong (length T.nodes) (walked_from T root last (components (b ∷ bs)) (if a then Some root else o))
      by true o m = from (Some root) r
      by false o m = from o m

  -- ---- what an operation leaves

  -- the tree that it leaves, if it leaves one, has the nodes of the old one
  abbrev pub Grows : Result Tree ℕ → Type 0
  Grows (Ok U) = Grown T U
  Grows (Err e) = Unit {0}

  made_grows : (node : Node) (p : Place) → LeadsAmong (length T.nodes) p → Grows (made T node p)
  made_grows node (Refused e) l = tt
  made_grows node (At n) l = tt
  made_grows node (New dir name) l = by (is_some (entry_in T.nodes dir name))
    where
      by : (b : Bool) → Grows (if b then Err 17 else Ok (with_node T dir name node))
      by true = tt
      by false = grown_node T dir name node h l

  mounted_grows : (row : MountRow) (p : Place) → LeadsAmong (length T.nodes) p → Grows (mounted T row p)
  mounted_grows row (Refused e) l = tt
  mounted_grows row (New dir name) l = tt
  mounted_grows row (At n) l = by (is_dir_at T n)
    where
      by : (b : Bool) → Grows (if b then Ok (with_mount T n row) else Err 20)
      by true = grown_mount T n row h l
      by false = tt

  attr_grows : (n : ℕ) (name value : List ℕ) (flags : ℕ) (old : Option (List ℕ)) → Grows (attr_set T n name value flags old)
  attr_grows n name value flags None = by (replaces_attr flags)
    where
      by : (b : Bool) → Grows (if b then Err 61 else Ok (with_attr T n name value))
      by true = tt
      by false = record { more = omega arith; same = λ n l. refl; whole = record { parents = h.parents; roots = h.roots; targets = h.targets } }
  attr_grows n name value flags (Some old) = by (creates_attr flags)
    where
      by : (b : Bool) → Grows (if b then Err 17 else Ok (with_attr T n name value))
      by true = tt
      by false = record { more = omega arith; same = λ n l. refl; whole = record { parents = h.parents; roots = h.roots; targets = h.targets } }

  attributed_grows : (name value : List ℕ) (flags : ℕ) (p : Place) → Grows (attributed T name value flags p)
  attributed_grows name value flags (Refused e) = tt
  attributed_grows name value flags (New dir last) = tt
  attributed_grows name value flags (At n) = attr_grows n name value flags (attr T n name)

  opened_grows : (p : Place) → Grows (opened T p)
  opened_grows (Refused e) = tt
  opened_grows (New dir name) = tt
  opened_grows (At n) = grown_self T h

  pub perform_grows : (base : Option ℕ) (op : TreeOp) → IsAmong (length T.nodes) base → Grows (perform T root base op)
  perform_grows base (Fail e) l = tt
  perform_grows base (Make path node) l = made_grows node (reaches T root base path Create) (reaches_among base path Create l)
  perform_grows base (Mount target row) l = mounted_grows row (reaches T root base target Follow) (reaches_among base target Follow l)
  perform_grows base (SetAttr path name value flags) l = by (are_attr_flags flags)
    where
      by : (b : Bool) → Grows (if b then attributed T name value flags (reaches T root base path Follow) else Err 22)
      by true = attributed_grows name value flags (reaches T root base path Follow)
      by false = tt
  perform_grows base (Open path cloexec) l = opened_grows (reaches T root base path Follow)

  pub tree_or_grown : (r : Result Tree ℕ) → Grows r → Grown T (tree_or r T)
  tree_or_grown (Ok U) g = g
  tree_or_grown (Err e) g = grown_self T h
