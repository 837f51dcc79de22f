-- No path of the tree has more than 4095 bytes: each node's is counted by its directory's and its name, and the reader saw it whole.
-- By induction on the lines, and by cases on whether a path is the one that the last line states.
use Rattle.std.proofs.Common.{◌≡◌, ℕ, ◌+◌, ◌≤◌, List, [], ◌∷◌, ◌++◌, length, Option, Some, None, refl, ap, sym, subst, ◌∙◌, arith, bytes_eq, if◌then◌else◌}
use Rattle.std.specs.Prelude.{Bool, true, false, ◌&&◌, nat_le, nat_lt, is_some}
use Rattle.std.specs.List.{list_all}
use Rattle.std.specs.Cmp.Lexicographic.{bytes_decides}
use Rattle.std.proofs.lemmas.Bool.{and_parts, both_ways, cond-false, le-leb, ltb-true}
use Rattle.std.proofs.lemmas.List.{length-append}
use Rattle.hist_model.specs.TreeLines.{have_short_paths, is_directory, lengths_behind, path_length, path_lengths, with_length}
use Rattle.hist_model.specs.declared.request.Node.{Node}
use Rattle.hist_model.specs.declared.script.TreeLine.{TreeLine}
use Rattle.script_reader.specs.declared.settings.PathTarget.{PathTarget}
use Rattle.script_reader.specs.Paths.{are_node_names, is_path, is_slash, name_of, or_root, parent_of, root_path}
use Rattle.script_reader.specs.Rules.{HasTree, bytes_of_path, has_length}
use Rattle.script_reader.specs.Tree.{TreeState, found_node, is_stated, made_line, reference_of, with_node}
use Rattle.script_reader.proofs.PathParts.{path_parts}
use Rattle.script_reader.proofs.Pushed.{all_more, get_last, get_more, refuted}

pub lengths_more : (lengths : List ℕ) (lines : List TreeLine) (l : TreeLine) → lengths_behind lengths (lines ++ l ∷ []) ≡ with_length l (lengths_behind lengths lines)
lengths_more lengths [] l = refl
lengths_more lengths (first ∷ lines) l = lengths_more (with_length first lengths) lines l

-- ---- how long a path is

not-root : (path : List ℕ) → (path ≡ root_path → ⊥) → bytes_of_path path ≡ length path
not-root path n = cond-false (bytes_eq path root_path) 0 (length path) (refuted _ (λ e. n ((bytes_decides path root_path).0 e)))

directory-bytes : (front : List ℕ) → (front ≡ root_path → ⊥) → bytes_of_path (or_root front) ≡ length front
directory-bytes [] n = refl
directory-bytes (b ∷ bs) n = not-root (b ∷ bs) n

path-bytes : (path : List ℕ) → is_path path ≡ true → bytes_of_path path ≡ length path
path-bytes path p = not-root path (λ e. both_ways false refl (subst (λ text. is_path text ≡ true) e p))

at-most : (path : List ℕ) → is_path path ≡ true → length path ≤ 4095
at-most [] p = cc
at-most (first ∷ names) p =
    let tests = and_parts (is_slash first && nat_lt (length names) 4095) (are_node_names names) p in
    omega (arith, ltb-true (length names) 4095 (and_parts (is_slash first) (nat_lt (length names) 4095) tests.0).1)

found-length : (lengths path : List ℕ) (found : Option PathTarget) → is_some found ≡ true → has_length lengths path found → path_length lengths (reference_of found) ≡ bytes_of_path path
found-length lengths path None s h = cc
found-length lengths path (Some f) s h = rw h refl

-- the path of a directory, a slash and a name
whole-length : (lengths path : List ℕ) (found : Option PathTarget) → is_path path ≡ true → is_some found ≡ true → has_length lengths (parent_of path) found
    → path_length lengths (reference_of found) + length (name_of path) + 1 ≡ bytes_of_path path
whole-length lengths path found p s h =
    let parts = path_parts path p in
    let above : path_length lengths (reference_of found) ≡ length parts.front =
    found-length lengths (parent_of path) found s h ∙ (ap bytes_of_path parts.directory ∙ directory-bytes parts.front parts.inner)
    in
    let name : length (name_of path) ≡ length parts.name = ap length parts.named in
    let whole : length path ≡ length parts.front + length (47 ∷ parts.name) = ap length parts.whole ∙ length-append parts.front (47 ∷ parts.name) in
    omega (arith, path-bytes path p)

-- ---- one more node

measured-either : (lengths path other : List ℕ) (k : ℕ) (directory same : Bool) (found : Option PathTarget) → (same ≡ true → path ≡ other) → k ≡ bytes_of_path path
    → has_length lengths other found → has_length (lengths ++ k ∷ []) other (if same then Some (found_node (length lengths) directory) else found)
measured-either lengths path other k directory true found p e h = get_last lengths k ∙ ap Some (e ∙ ap bytes_of_path (p refl))
measured-either lengths path other k directory false None p e h = tt
measured-either lengths path other k directory false (Some f) p e h = get_more lengths k f.node.ordinal _ h

made-length : (T : TreeState) (path : List ℕ) → HasTree T → is_path path ≡ true → is_stated T (parent_of path) ≡ true
    → path_length (path_lengths T.lines) (reference_of (T.found (parent_of path))) + length (name_of path) + 1 ≡ bytes_of_path path
made-length T path h p s = whole-length (path_lengths T.lines) path (T.found (parent_of path)) p s (h.measured (parent_of path))

pub paths_more : (T : TreeState) (path : List ℕ) (kind : Node) → HasTree T → is_path path ≡ true → is_stated T (parent_of path) ≡ true
    → (have_short_paths (T.lines ++ made_line path kind T ∷ []) ≡ true) × (length (path_lengths (T.lines ++ made_line path kind T ∷ [])) ≡ T.nodes + 1)
    × ((other : List ℕ) → has_length (path_lengths (T.lines ++ made_line path kind T ∷ [])) other ((with_node path kind T).found other))
paths_more T path kind h p s =
    let lengths : List ℕ = path_lengths T.lines in
    let k : ℕ = path_length lengths (reference_of (T.found (parent_of path))) + length (name_of path) + 1 in
    let e : k ≡ bytes_of_path path = made-length T path h p s in
    let more : path_lengths (T.lines ++ made_line path kind T ∷ []) ≡ lengths ++ k ∷ [] = lengths_more (0 ∷ []) T.lines (made_line path kind T) in
    let small : nat_le k 4095 ≡ true = le-leb k 4095 (omega (arith, e, path-bytes path p, at-most path p)) in (
      subst (λ ns. list_all (λ n. nat_le n 4095) ns ≡ true) (sym more) (all_more (λ n. nat_le n 4095) lengths k h.short small),
      ap length more ∙ (length-append lengths (k ∷ []) ∙ ap (λ n. n + 1) h.counted),
      λ other. subst (λ ns. has_length ns other ((with_node path kind T).found other)) (sym more)
          (subst (λ n. has_length (lengths ++ k ∷ []) other (if bytes_eq path other then Some (found_node n (is_directory kind)) else T.found other)) h.counted
          (measured-either lengths path other k (is_directory kind) (bytes_eq path other) (T.found other) (λ e. (bytes_decides path other).0 e) e (h.measured other))),
    )
