-- No name stands twice in a directory, since each path is stated once: what one more line of the tree keeps of that.
-- By induction on the lines, and by cases on whether a path is the one that the line states, or lies right below it.
use Rattle.std.proofs.Common.{◌≡◌, ℕ, zero, suc, ◌+◌, ◌<◌, ◌≤◌, List, [], ◌∷◌, ◌++◌, length, Option, Some, None, refl, sym, ◌∙◌, inl, inr, arith, bytes_eq, if◌then◌else◌}
use Rattle.std.specs.Prelude.{Bool, true, false, ◌&&◌, not, ◌==◌, nat_lt, slice_get, is_some}
use Rattle.std.specs.List.{list_any}
use Rattle.std.specs.Cmp.Lexicographic.{bytes_decides}
use Rattle.std.proofs.lemmas.Bool.{and_from, and_left, and_parts, both_ways, eqb-true, eq-eqb, ltb-true, ne_eqb, not-true, not_from_false, or_cases, or_from, or_parts}
use Rattle.std.proofs.lemmas.List.{length-append}
use Rattle.std.proofs.lemmas.List.Folds.{list_any-append}
use Rattle.hist_model.specs.TreeLines.{are_lines_behind, have_own_names, is_component, is_directory, is_line, is_made_in, is_node, is_stated_directory, is_true, makes, nodes_behind, nodes_of, root_alone}
use Rattle.hist_model.specs.declared.request.Node.{Node}
use Rattle.hist_model.specs.declared.request.NodeRef.{NodeRef}
use Rattle.hist_model.specs.declared.script.TreeLine.{TreeLine}
use Rattle.hist_model.specs.declared.script.TreeLine.TheVariants.{Made, Attr}
use Rattle.script_reader.specs.declared.settings.PathTarget.{PathTarget}
use Rattle.script_reader.specs.Paths.{is_path, name_of, parent_of}
use Rattle.script_reader.specs.Rules.{HasTree, is_found}
use Rattle.script_reader.specs.Tree.{TreeState, found_node, is_stated, made_line, node_at, reference_of, with_node}
use Rattle.script_reader.proofs.PathParts.{same_path}
use Rattle.script_reader.proofs.Pushed.{none_more, refuted}

same-bytes : (bs cs : List ℕ) → bytes_eq bs cs ≡ true → bs ≡ cs
same-bytes bs cs h = (bytes_decides bs cs).0 h

-- ---- no name stands twice

alike-either-way : (directory other : NodeRef) (name text : List ℕ) → ((directory.ordinal == other.ordinal) && bytes_eq name text) ≡ false
    → ((other.ordinal == directory.ordinal) && bytes_eq text name) ≡ false
alike-either-way directory other name text h = refuted _ (λ e.
    let parts = and_parts (other.ordinal == directory.ordinal) (bytes_eq text name) e in
    both_ways _ h (and_from _ _ (eq-eqb _ _ (sym (eqb-true _ _ parts.0))) ((bytes_decides name text).1 (sym (same-bytes text name parts.1)))))

unlike : (directory : NodeRef) (name : List ℕ) (node : Node) (lines : List TreeLine) (l : TreeLine)
    → is_made_in (Made directory name node ∷ lines) l ≡ false → makes directory name l ≡ false
unlike directory name node lines (Attr on text value) h = refl
unlike directory name node lines (Made parent text kind) h =
    alike-either-way directory parent name text (or_parts (makes parent text (Made directory name node)) (list_any (makes parent text) lines) h).0

not-later : (first : TreeLine) (lines : List TreeLine) (l : TreeLine) → is_made_in (first ∷ lines) l ≡ false → is_made_in lines l ≡ false
not-later first lines (Made parent name node) h = (or_parts (makes parent name first) (list_any (makes parent name) lines) h).1
not-later first lines (Attr on name value) h = refl

first-alone : (first : TreeLine) (lines : List TreeLine) (l : TreeLine) → is_made_in lines first ≡ false → is_made_in (first ∷ lines) l ≡ false
    → is_made_in (lines ++ l ∷ []) first ≡ false
first-alone (Made parent name node) lines l h new = none_more (makes parent name) lines l h (unlike parent name node lines l new)
first-alone (Attr on name value) lines l h new = refl

made-in-none : (l : TreeLine) → is_made_in [] l ≡ false
made-in-none (Made parent name node) = refl
made-in-none (Attr on name value) = refl

-- the lines with one that makes no node again
pub names_more : (lines : List TreeLine) (l : TreeLine) → have_own_names lines ≡ true → is_made_in lines l ≡ false → have_own_names (lines ++ l ∷ []) ≡ true
names_more [] l h new = and_from _ _ (not_from_false _ (made-in-none l)) refl
names_more (first ∷ lines) l h new =
    let parts = and_parts (not (is_made_in lines first)) (have_own_names lines) h in
    and_from _ _ (not_from_false _ (first-alone first lines l (not-true _ parts.0) new)) (names_more lines l parts.1 (not-later first lines l new))

-- ---- no node lies below one that isn't stated yet

longer-behind : (nodes : List Bool) (lines : List TreeLine) → length nodes ≤ length (nodes_behind nodes lines)
longer-behind nodes [] = omega arith
longer-behind nodes (Made parent name node ∷ lines) =
    let more : length (nodes ++ is_directory node ∷ []) ≡ length nodes + 1 = length-append nodes (is_directory node ∷ []) in
    omega (arith, longer-behind (nodes ++ is_directory node ∷ []) lines)
longer-behind nodes (Attr on name value ∷ lines) = longer-behind nodes lines

within-stated : (nodes : List Bool) (n : ℕ) → is_true (slice_get nodes n) ≡ true → n < length nodes
within-stated [] n h = cc
within-stated (node ∷ nodes) zero h = omega arith
within-stated (node ∷ nodes) (suc n) h = omega (arith, within-stated nodes n h)

below-none : (m n : NodeRef) (name text : List ℕ) (node : Node) → m.ordinal < n.ordinal → makes n name (Made m text node) ≡ false
below-none m n name text node h = and_left _ _ (ne_eqb m.ordinal n.ordinal (λ e. absurd (omega arith)))

none-below : (nodes : List Bool) (lines : List TreeLine) (n : NodeRef) (name : List ℕ) → are_lines_behind nodes lines ≡ true
    → length (nodes_behind nodes lines) ≤ n.ordinal → list_any (makes n name) lines ≡ false
none-below nodes [] n name h l = refl
none-below nodes (Made parent text node ∷ lines) n name h l =
    let parts = and_parts (is_line nodes (Made parent text node)) (are_lines_behind (nodes ++ is_directory node ∷ []) lines) h in
    let stated : is_stated_directory nodes parent ≡ true = (and_parts (is_stated_directory nodes parent) (is_component text) (and_parts (is_stated_directory nodes parent && is_component text) (is_node node) parts.0).0).0 in
    let more : length (nodes ++ is_directory node ∷ []) ≡ length nodes + 1 = length-append nodes (is_directory node ∷ []) in
    let first : parent.ordinal < n.ordinal = omega (arith, within-stated nodes parent.ordinal stated, longer-behind (nodes ++ is_directory node ∷ []) lines) in
    or_from _ _ (below-none parent n name text node first) (none-below (nodes ++ is_directory node ∷ []) lines n name parts.1 l)
none-below nodes (Attr on text value ∷ lines) n name h l =
    none-below nodes lines n name (and_parts (is_line nodes (Attr on text value)) (are_lines_behind nodes lines) h).1 l

-- ---- one path alone leads to a node

ordinal-within : (T : TreeState) (found : Option PathTarget) → T.nodes ≡ length (nodes_of T.lines) → is_found (nodes_of T.lines) found ≡ true → is_some found ≡ true
    → (reference_of found).ordinal < T.nodes
ordinal-within T None e h s = cc
ordinal-within T (Some f) e h s = omega (arith, e, ltb-true f.node.ordinal (length (nodes_of T.lines)) (and_parts (nat_lt f.node.ordinal (length (nodes_of T.lines))) _ h).0)

-- what a path leads to where it may be the one that is led to a new node
abbrev led : TreeState → Bool → Bool → List ℕ → Option PathTarget
led T directory same path = if same then Some (found_node T.nodes directory) else T.found path

once-either : (T : TreeState) (directory same alike : Bool) (path other : List ℕ) (new : List ℕ) → HasTree T → (same ≡ true → new ≡ path) → (alike ≡ true → new ≡ other)
    → is_some (led T directory same path) ≡ true → is_some (led T directory alike other) ≡ true
    → (reference_of (led T directory same path)).ordinal ≡ (reference_of (led T directory alike other)).ordinal → path ≡ other
once-either T directory true true path other new h p o s t e = sym (p refl) ∙ o refl
once-either T directory true false path other new h p o s t e = absurd (omega (arith, e, ordinal-within T (T.found other) h.nodes (h.found other) t))
once-either T directory false true path other new h p o s t e = absurd (omega (arith, e, ordinal-within T (T.found path) h.nodes (h.found path) s))
once-either T directory false false path other new h p o s t e = h.once path other s t e

pub once_more : (T : TreeState) (path : List ℕ) (kind : Node) → HasTree T → (one other : List ℕ)
    → is_stated (with_node path kind T) one ≡ true → is_stated (with_node path kind T) other ≡ true
    → (node_at (with_node path kind T) one).ordinal ≡ (node_at (with_node path kind T) other).ordinal → one ≡ other
once_more T path kind h one other s t e =
    once-either T (is_directory kind) (bytes_eq path one) (bytes_eq path other) one other path h (same-bytes path one) (same-bytes path other) s t e

-- ---- a node that is made where a path leads is stated by that path

made-there : (T : TreeState) (path other : List ℕ) (kind : Node) → HasTree T → is_path path ≡ true → is_path other ≡ true
    → is_stated T (parent_of path) ≡ true → is_stated T (parent_of other) ≡ true
    → makes (node_at T (parent_of other)) (name_of other) (made_line path kind T) ≡ true → path ≡ other
made-there T path other kind h p o s t e =
    let parts = and_parts ((node_at T (parent_of path)).ordinal == (node_at T (parent_of other)).ordinal) (bytes_eq (name_of path) (name_of other)) e in
    same_path path other p o (h.once (parent_of path) (parent_of other) s t (eqb-true _ _ parts.0)) (same-bytes (name_of path) (name_of other) parts.1)

stated-either : (T : TreeState) (path other : List ℕ) (kind : Node) (same above : Bool) → HasTree T → is_path path ≡ true → is_path other ≡ true
    → is_stated T (parent_of path) ≡ true → bytes_eq path other ≡ same
    → is_some (led T (is_directory kind) above (parent_of other)) ≡ true
    → list_any (makes (reference_of (led T (is_directory kind) above (parent_of other))) (name_of other)) (T.lines ++ made_line path kind T ∷ []) ≡ true
    → is_some (led T (is_directory kind) same other) ≡ true
stated-either T path other kind true above h p o s e t made = refl
stated-either T path other kind false true h p o s e t made =
    let new : NodeRef = reference_of (Some (found_node T.nodes (is_directory kind))) in
    let first : (node_at T (parent_of path)).ordinal < T.nodes = ordinal-within T (T.found (parent_of path)) h.nodes (h.found (parent_of path)) s in
    absurd (both_ways _
    (none_more (makes new (name_of other)) T.lines (made_line path kind T)
    (none-below root_alone T.lines new (name_of other) h.lines (omega (arith, h.nodes)))
    (below-none (node_at T (parent_of path)) new (name_of other) (name_of path) kind first)) made)
stated-either T path other kind false false h p o s e t made =
    elim (or_cases (list_any (makes (node_at T (parent_of other)) (name_of other)) T.lines) _ (sym (list_any-append _ T.lines (made_line path kind T ∷ [])) ∙ made)) [
      | inl old ↦ h.stated other o t old
      | inr new ↦ elim (or_cases (makes (node_at T (parent_of other)) (name_of other) (made_line path kind T)) false new) [
        | inl one ↦ absurd (both_ways _ e ((bytes_decides path other).1 (made-there T path other kind h p o s t one)))
        | inr none ↦ cc
      ]
    ]

pub stated_more : (T : TreeState) (path : List ℕ) (kind : Node) → HasTree T → is_path path ≡ true → is_stated T (parent_of path) ≡ true
    → (other : List ℕ) → is_path other ≡ true → is_stated (with_node path kind T) (parent_of other) ≡ true
    → list_any (makes (node_at (with_node path kind T) (parent_of other)) (name_of other)) (T.lines ++ made_line path kind T ∷ []) ≡ true
    → is_stated (with_node path kind T) other ≡ true
stated_more T path kind h p s other o t made = stated-either T path other kind (bytes_eq path other) (bytes_eq path (parent_of other)) h p o s refl t made

-- ---- an attribute changes no path

pub stated_still : (T : TreeState) (on : NodeRef) (name value : List ℕ) → HasTree T → (other : List ℕ) → is_path other ≡ true → is_stated T (parent_of other) ≡ true
    → list_any (makes (node_at T (parent_of other)) (name_of other)) (T.lines ++ Attr on name value ∷ []) ≡ true → is_stated T other ≡ true
stated_still T on name value h other o t made =
    elim (or_cases (list_any (makes (node_at T (parent_of other)) (name_of other)) T.lines) _ (sym (list_any-append _ T.lines (Attr on name value ∷ [])) ∙ made)) [
      | inl old ↦ h.stated other o t old
      | inr none ↦ cc
    ]
