-- The walk of a path: path_resolution(7). It ends, since a link is followed at most 40 times, and each component is taken once.
use Rattle.std.specs.Prelude.{ℕ, zero, suc, Bool, true, false, ◌&&◌, ◌||◌, not, if◌then◌else◌, ◌==◌, nat_lt, List, [], ◌∷◌, ◌++◌, length}
use Rattle.std.specs.Prelude.{filter, Option, Some, None, bytes_eq}
use Rattle.hist_model.specs.declared.request.Node.{Node}
use Rattle.hist_model.specs.declared.request.Node.TheVariants.{Link}
use Rattle.hist_model.specs.Trees.{Tree, node_at, is_dir_at, entry, top, up}
use Rattle.sys_abi.specs.Errnos.{enoent, ebadf, eexist, enotdir, enametoolong, eloop}

-- what is done with the last component: it is followed to a node, or is the name of a new one
pub data Last : Type 0 where
  Follow : Last
  Create : Last

-- where a walk ends: at a node, at a name in a directory for a new one, or with an error
pub data Place : Type 0 where
  At : ℕ → Place
  New : ℕ → List ℕ → Place
  Refused : ℕ → Place

-- with one more byte before the first piece
abbrev pub onto_first : ℕ → List (List ℕ) → List (List ℕ)
onto_first b [] = (b ∷ []) ∷ []
onto_first b (piece ∷ pieces) = (b ∷ piece) ∷ pieces

-- the pieces of a path between its slashes
unfoldable pub pieces : List ℕ → List (List ℕ)
pieces [] = [] ∷ []
pieces (b ∷ bs) = if b == 47 then [] ∷ pieces bs else onto_first b (pieces bs)

abbrev pub has_bytes : List ℕ → Bool
has_bytes [] = false
has_bytes (b ∷ bs) = true

-- the components of a path: its pieces that aren't empty
abbrev pub components : List ℕ → List (List ℕ)
components path = filter has_bytes (pieces path)

-- the path goes from the root
abbrev pub is_absolute : List ℕ → Bool
is_absolute [] = false
is_absolute (b ∷ bs) = b == 47

-- no component is left
abbrev pub none_left : List (List ℕ) → Bool
none_left [] = true
none_left (c ∷ cs) = false

abbrev pub creates : Last → Bool
creates Create = true
creates Follow = false

abbrev pub is_dot : List ℕ → Bool
is_dot c = bytes_eq c (46 ∷ [])

abbrev pub is_dot_dot : List ℕ → Bool
is_dot_dot c = bytes_eq c (46 ∷ 46 ∷ [])

-- what one component says: the walk ends, goes on from a node, or follows a link with this target
pub data Turn : Type 0 where
  Ends : Place → Turn
  Goes : ℕ → Turn
  Follows : List ℕ → Turn

-- an entry that is a link is followed; another one is taken with what is mounted there
abbrev pub entered : Tree → ℕ → Option Node → Turn
entered T n (Some (Link target)) = Follows target
entered T n _ = Goes (top T n)

abbrev pub looked_up : Tree → Option ℕ → Turn
looked_up T None = Ends (Refused enoent)
looked_up T (Some n) = entered T n (node_at T n)

-- the name of a new node
abbrev pub named : ℕ → List ℕ → Place
named n c = if is_dot c || is_dot_dot c then Refused eexist else New n c

-- a component that isn't the name of a new node
abbrev pub stepped : Tree → ℕ → ℕ → List ℕ → Turn
stepped T root n c = if is_dot c then Goes n else (if is_dot_dot c then Goes (up T root n) else looked_up T (entry T n c))

-- one component at a node; `names` where it is the name of a new node
abbrev pub turn : Tree → ℕ → Bool → ℕ → List ℕ → Turn
turn T root names n c =
    if not (is_dir_at T n) then Ends (Refused enotdir)
    else (if nat_lt 255 (length c) then Ends (Refused enametoolong)
    else (if names then Ends (named n c) else stepped T root n c))

-- no component is left at a node
abbrev pub arrived : Last → ℕ → Place
arrived Follow n = At n
arrived Create n = Refused eexist

-- where a link's target is walked from
abbrev pub link_start : ℕ → ℕ → List ℕ → ℕ
link_start root n target = if is_absolute target then root else n

-- `follow` goes on from a node with components, `rest` from a node with those that are left
abbrev pub turned : (ℕ → List (List ℕ) → Place) → (ℕ → Place) → ℕ → ℕ → List (List ℕ) → Turn → Place
turned follow rest root n cs (Ends p) = p
turned follow rest root n cs (Goes m) = rest m
turned follow rest root n cs (Follows target) = follow (link_start root n target) (components target ++ cs)

-- the components in turn, from a node
unfoldable pub walk_parts : (ℕ → List (List ℕ) → Place) → Tree → ℕ → Last → ℕ → List (List ℕ) → Place
walk_parts follow T root last n [] = arrived last n
walk_parts follow T root last n (c ∷ cs) =
    turned follow (λ m. walk_parts follow T root last m cs) root n cs (turn T root (creates last && none_left cs) n c)

abbrev pub looped : ℕ → List (List ℕ) → Place
looped n cs = Refused eloop

-- the walk where at most so many links are still followed
unfoldable pub walk : ℕ → Tree → ℕ → Last → ℕ → List (List ℕ) → Place
walk zero T root last = walk_parts looped T root last
walk (suc links) T root last = walk_parts (walk links T root last) T root last

abbrev pub walked_from : Tree → ℕ → Last → List (List ℕ) → Option ℕ → Place
walked_from T root last cs None = Refused ebadf
walked_from T root last cs (Some n) = walk 40 T root last n cs

-- where a path leads, from the container's root or from a base
abbrev pub reaches : Tree → ℕ → Option ℕ → List ℕ → Last → Place
reaches T root base [] last = Refused enoent
reaches T root base (b ∷ bs) last = walked_from T root last (components (b ∷ bs)) (if b == 47 then Some root else base)
