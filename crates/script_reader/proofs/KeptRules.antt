-- What one more entry of each part keeps: of the tree, the descriptors, the ranges, the filters, the programs.
-- By the laws of lists, by induction on the entries, and by cases on what a path or a name led to.
use Rattle.std.proofs.Common.{◌≡◌, ℕ, zero, suc, ◌+◌, ◌<◌, ◌≤◌, ◌^◌, List, [], ◌∷◌, ◌++◌, length, Option, Some, None, refl, ap, sym, subst, ◌∙◌, inl, inr, arith, bytes_eq, if◌then◌else◌, unwrap_or}
use Rattle.std.specs.Prelude.{Bool, true, false, ◌&&◌, ◌||◌, not, ◌==◌, nat_le, nat_lt, slice_get, is_some}
use Rattle.std.specs.List.{list_all, list_any}
use Rattle.std.proofs.lemmas.Bool.{and_from, and_parts, or_cases, or_left, or_right, or_parts, lt-ltb, ltb-true, ltb-false, le-leb, both_ways, not-true, not-false, not_from_false, eqb-false, ne_eqb}
use Rattle.std.proofs.lemmas.List.{length-append}
use Rattle.std.proofs.lemmas.List.Sums.{sum_by_push}
use Rattle.hist_model.specs.Ranges.{are_all_apart, are_apart, is_apart, is_range, end_of, pages_of}
use Rattle.hist_model.specs.ScriptRules.{are_different, exits_last, gives_listener, has_flag_listener, is_accepted, is_instruction, is_last, starts_below, start_earlier, stores_mapped}
use Rattle.hist_model.specs.Totals.{are_too_many, is_exit, program_totals, totals_behind, totals_of, with_end}
use Rattle.hist_model.specs.TreeLines.{are_lines_behind, is_directory, is_line, is_made_in, is_node, is_stated_directory, is_text, is_true, nodes_behind, nodes_of, path_lengths, root_alone, with_line}
use Rattle.hist_model.specs.declared.request.Node.{Node}
use Rattle.hist_model.specs.declared.request.NodeRef.{NodeRef}
use Rattle.hist_model.specs.declared.script.FilterLine.{FilterLine}
use Rattle.hist_model.specs.declared.script.Instr.{Instr}
use Rattle.hist_model.specs.declared.script.Instr.TheVariants.{Spawn, Thread}
use Rattle.hist_model.specs.declared.script.MapRange.{MapRange}
use Rattle.hist_model.specs.declared.script.Totals.{Totals}
use Rattle.hist_model.specs.declared.script.TreeLine.{TreeLine}
use Rattle.hist_model.specs.declared.script.TreeLine.TheVariants.{Made, Attr}
use Rattle.script_reader.specs.declared.settings.PathTarget.{PathTarget}
use Rattle.script_reader.specs.Paths.{is_path, parent_of}
use Rattle.script_reader.specs.Programs.{ProgramsState, close_program, open_totals, standing, starting, start_fault, totals_fault, with_instr, with_start}
use Rattle.script_reader.specs.Ranges.{broker_fault, map_fault}
use Rattle.script_reader.specs.Rules.{HasDescriptors, HasFilters, HasPrograms, HasRanges, HasTree, has_length, has_pages, is_found, is_placed_below, is_sound_instruction, starts_nothing}
use Rattle.script_reader.specs.Tree.{TreeState, attr_fault, found_node, is_directory_found, is_stated, leading, made_line, node_at, node_fault, reference_of, with_attr, with_node}
use Rattle.script_reader.proofs.KeptNames.{names_more, once_more, stated_more, stated_still}
use Rattle.script_reader.proofs.KeptPaths.{lengths_more, paths_more}
use Rattle.script_reader.proofs.PathParts.{name_fits}
use Rattle.script_reader.proofs.Pushed.{all_more, all_weaker, any_more, get_last, none_more, none_first, none_then, not_full, not_large, not_wrong, one_more, refuted}

-- ---- the tree

nodes-more : (nodes : List Bool) (lines : List TreeLine) (l : TreeLine) → nodes_behind nodes (lines ++ l ∷ []) ≡ with_line l (nodes_behind nodes lines)
nodes-more nodes [] l = refl
nodes-more nodes (first ∷ lines) l = nodes-more (with_line first nodes) lines l

lines-more : (nodes : List Bool) (lines : List TreeLine) (l : TreeLine) → are_lines_behind nodes lines ≡ true → is_line (nodes_behind nodes lines) l ≡ true
    → are_lines_behind nodes (lines ++ l ∷ []) ≡ true
lines-more nodes [] l h i = and_from _ _ i refl
lines-more nodes (first ∷ lines) l h i = and_from _ _ (and_parts _ _ h).0 (lines-more (with_line first nodes) lines l (and_parts _ _ h).1 i)

stated-more : (nodes : List Bool) (directory : Bool) (n : ℕ) → is_true (slice_get nodes n) ≡ true → is_true (slice_get (nodes ++ directory ∷ []) n) ≡ true
stated-more [] directory n h = cc
stated-more (node ∷ nodes) directory zero h = h
stated-more (node ∷ nodes) directory (suc n) h = stated-more nodes directory n h

stated-behind : (l : TreeLine) (nodes : List Bool) (n : NodeRef) → is_stated_directory nodes n ≡ true → is_stated_directory (with_line l nodes) n ≡ true
stated-behind (Made parent name node) nodes n h = stated-more nodes (is_directory node) n.ordinal h
stated-behind (Attr on name value) nodes n h = h

-- a directory stays one with one more line
pub directory_kept : (lines : List TreeLine) (l : TreeLine) (n : NodeRef) → is_stated_directory (nodes_of lines) n ≡ true → is_stated_directory (nodes_of (lines ++ l ∷ [])) n ≡ true
directory_kept lines l n h = subst (λ nodes. is_stated_directory nodes n ≡ true) (sym (nodes-more root_alone lines l)) (stated-behind l (nodes_of lines) n h)

one-longer : (nodes : List Bool) (directory : Bool) → length (nodes ++ directory ∷ []) ≡ length nodes + 1
one-longer nodes directory = length-append nodes (directory ∷ [])

found-more : (nodes : List Bool) (directory : Bool) (found : Option PathTarget) → is_found nodes found ≡ true → is_found (nodes ++ directory ∷ []) found ≡ true
found-more nodes directory None h = refl
found-more nodes directory (Some f) h =
    let longer = one-longer nodes directory in
    let within : f.node.ordinal < length nodes = ltb-true _ _ (and_parts _ _ h).0 in
    and_from _ _ (lt-ltb f.node.ordinal (length (nodes ++ directory ∷ [])) (omega arith))
    (elim (or_cases (not f.directory) (is_stated_directory nodes f.node) (and_parts _ _ h).1) [
      | inl plain ↦ or_left _ _ plain
      | inr stated ↦ or_right _ _ (stated-more nodes directory f.node.ordinal stated)
    ])

newest-stated : (nodes : List Bool) (directory : Bool) → (not directory || is_true (slice_get (nodes ++ directory ∷ []) (length nodes))) ≡ true
newest-stated nodes true = rw (get_last nodes true) refl
newest-stated nodes false = refl

found-newest : (nodes : List Bool) (directory : Bool) → is_found (nodes ++ directory ∷ []) (Some (found_node (length nodes) directory)) ≡ true
found-newest nodes directory =
    let longer = one-longer nodes directory in
    and_from _ _ (lt-ltb (length nodes) (length (nodes ++ directory ∷ [])) (omega arith)) (newest-stated nodes directory)

found-either : (nodes : List Bool) (directory same : Bool) (found : Option PathTarget) → is_found nodes found ≡ true
    → is_found (nodes ++ directory ∷ []) (if same then Some (found_node (length nodes) directory) else found) ≡ true
found-either nodes directory true found h = found-newest nodes directory
found-either nodes directory false found h = found-more nodes directory found h

found-directory : (nodes : List Bool) (found : Option PathTarget) → is_found nodes found ≡ true → is_directory_found found ≡ true → is_stated_directory nodes (reference_of found) ≡ true
found-directory nodes None h d = cc
found-directory nodes (Some f) h d =
    elim (or_cases (not f.directory) (is_stated_directory nodes f.node) (and_parts _ _ h).1) [
      | inl plain ↦ absurd (both_ways f.directory (not-true _ plain) d)
      | inr stated ↦ stated
    ]

found-within : (nodes : List Bool) (found : Option PathTarget) → is_found nodes found ≡ true → is_some found ≡ true → nat_lt (reference_of found).ordinal (length nodes) ≡ true
found-within nodes None h s = cc
found-within nodes (Some f) h s = (and_parts _ _ h).0

directory-stated : (found : Option PathTarget) → is_directory_found found ≡ true → is_some found ≡ true
directory-stated None d = cc
directory-stated (Some f) d = refl

-- the directory that a path leads to
pub directory_found : (T : TreeState) (path : List ℕ) → HasTree T → is_directory_found (T.found path) ≡ true → is_stated_directory (nodes_of T.lines) (node_at T path) ≡ true
directory_found T path h d = found-directory (nodes_of T.lines) (T.found path) (h.found path) d

few-more : {X : Type 0} (xs : List X) (x : X) (limit : ℕ) → length xs < limit → length (xs ++ x ∷ []) ≤ limit
few-more xs x limit h = omega (arith, length-append xs (x ∷ []))

-- one more node
pub node_kept : (T : TreeState) (path : List ℕ) (kind : Node) → HasTree T → node_fault T path ≡ None → is_path path ≡ true → is_node kind ≡ true → HasTree (with_node path kind T)
node_kept T path kind h fine p node =
    let faulty : (not (is_directory_found (T.found (parent_of path))) || is_some (T.found path)) ≡ false = not_wrong _ _ (none_first _ _ fine) in
    let parent : is_directory_found (T.found (parent_of path)) ≡ true = not-false _ (or_parts _ _ faulty).0 in
    let stated : is_stated T (parent_of path) ≡ true = directory-stated (T.found (parent_of path)) parent in
    let new : is_made_in T.lines (made_line path kind T) ≡ false = refuted _ (λ made. both_ways _ (or_parts _ _ faulty).1 (h.stated path p stated made)) in
    let paths = paths_more T path kind h p stated in
    let sound : is_line (nodes_of T.lines) (made_line path kind T) ≡ true = and_from _ _ (and_from _ _ (directory_found T (parent_of path) h parent) (name_fits path p)) node in
    let more : nodes_of (T.lines ++ made_line path kind T ∷ []) ≡ nodes_of T.lines ++ is_directory kind ∷ [] = nodes-more root_alone T.lines (made_line path kind T) in
    record {
      lines = lines-more root_alone T.lines (made_line path kind T) h.lines sound;
      few = few-more T.lines (made_line path kind T) 10000 (not_full _ _ (none_then _ _ fine));
      nodes = ap (λ n. n + 1) h.nodes ∙ sym (ap length more ∙ one-longer (nodes_of T.lines) (is_directory kind));
      found = λ q.
          subst (λ nodes. is_found nodes (leading path (found_node T.nodes (is_directory kind)) T.found q) ≡ true) (sym more)
          (subst (λ n. is_found (nodes_of T.lines ++ is_directory kind ∷ []) (leading path (found_node n (is_directory kind)) T.found q) ≡ true) (sym h.nodes)
          (found-either (nodes_of T.lines) (is_directory kind) (bytes_eq path q) (T.found q) (h.found q)));
      names = names_more T.lines (made_line path kind T) h.names new;
      once = once_more T path kind h;
      stated = stated_more T path kind h p stated;
      short = paths.0;
      counted = paths.1;
      measured = paths.2;
    }

-- one more attribute
pub attr_kept : (T : TreeState) (path name value : List ℕ) → HasTree T → attr_fault T path ≡ None → is_text 1 255 name ≡ true → nat_le (length value) 4096 ≡ true → HasTree (with_attr path name value T)
attr_kept T path name value h fine text small =
    let stated : is_some (T.found path) ≡ true = not-false _ (not_wrong _ _ (none_first _ _ fine)) in
    let sound : is_line (nodes_of T.lines) (Attr (node_at T path) name value) ≡ true = and_from _ _ (and_from _ _ (found-within (nodes_of T.lines) (T.found path) (h.found path) stated) text) small in
    let more : nodes_of (T.lines ++ Attr (node_at T path) name value ∷ []) ≡ nodes_of T.lines = nodes-more root_alone T.lines (Attr (node_at T path) name value) in
    let lengths : path_lengths (T.lines ++ Attr (node_at T path) name value ∷ []) ≡ path_lengths T.lines = lengths_more (0 ∷ []) T.lines (Attr (node_at T path) name value) in
    record {
      lines = lines-more root_alone T.lines (Attr (node_at T path) name value) h.lines sound;
      few = few-more T.lines (Attr (node_at T path) name value) 10000 (not_full _ _ (none_then _ _ fine));
      nodes = h.nodes ∙ sym (ap length more);
      found = λ q. subst (λ nodes. is_found nodes (T.found q) ≡ true) (sym more) (h.found q);
      names = names_more T.lines (Attr (node_at T path) name value) h.names refl;
      once = h.once;
      stated = stated_still T (node_at T path) name value h;
      short = subst (λ ns. list_all (λ n. nat_le n 4095) ns ≡ true) (sym lengths) h.short;
      counted = ap length lengths ∙ h.counted;
      measured = λ q. subst (λ ns. has_length ns q (T.found q)) (sym lengths) (h.measured q);
    }

-- ---- descriptors and ranges

apart-numbers : (m n : ℕ) → (m == n) ≡ false → (n == m) ≡ false
apart-numbers m n h = ne_eqb n m (λ e. eqb-false m n h (sym e))

different-more : (ns : List ℕ) (n : ℕ) → are_different ns ≡ true → list_any (λ m. m == n) ns ≡ false → are_different (ns ++ n ∷ []) ≡ true
different-more [] n h new = refl
different-more (m ∷ ns) n h new =
    and_from _ _
    (not_from_false _ (none_more (λ k. k == m) ns n (not-true _ (and_parts _ _ h).0) (apart-numbers m n (or_parts _ _ new).0)))
    (different-more ns n (and_parts _ _ h).1 (or_parts _ _ new).1)

pub descriptors_kept : (broker : List ℕ) (n : ℕ) → HasDescriptors broker → broker_fault broker n ≡ None → nat_le n 1023 ≡ true → HasDescriptors (broker ++ n ∷ [])
descriptors_kept broker n h fine range = record {
  range = all_more _ broker n h.range range;
  once = different-more broker n h.once (not_wrong _ _ (none_first _ _ fine));
  few = few-more broker n 64 (not_full _ _ (none_then _ _ fine));
}

apart-either-way : (range other : MapRange) → are_apart range other ≡ true → are_apart other range ≡ true
apart-either-way range other h =
    let ends = nat_le (end_of range) other.start in
    let begins = nat_le (end_of other) range.start in
    elim (or_cases ends begins h) [ inl before ↦ or_right begins ends before | inr behind ↦ or_left begins ends behind ]

apart-more : (ranges : List MapRange) (range : MapRange) → are_all_apart ranges ≡ true → is_apart ranges range ≡ true → are_all_apart (ranges ++ range ∷ []) ≡ true
apart-more [] range h apart = refl
apart-more (first ∷ ranges) range h apart =
    and_from _ _
    (all_more (are_apart first) ranges range (and_parts _ _ h).0 (apart-either-way range first (and_parts _ _ apart).0))
    (apart-more ranges range (and_parts _ _ h).1 (and_parts _ _ apart).1)

pub ranges_kept : (ranges : List MapRange) (range : MapRange) → HasRanges ranges → map_fault ranges range ≡ None → has_pages range ≡ true → HasRanges (ranges ++ range ∷ [])
ranges_kept ranges range h fine pages =
    let faulty : (nat_lt (2 ^ 47) (end_of range) || not (is_apart ranges range)) ≡ false = not_wrong _ _ (none_first _ _ fine) in
    let end : end_of range ≤ 2 ^ 47 = ltb-false _ _ (or_parts _ _ faulty).0 in
    let sum : pages_of (ranges ++ range ∷ []) ≡ pages_of ranges + range.pages = sum_by_push _ ranges range in
    let few : pages_of ranges + range.pages ≤ 64 = ltb-false _ _ (not_large _ (none_then _ _ fine)) in
    record {
      ranges = all_more is_range ranges range h.ranges (and_from _ _ pages (le-leb _ _ end));
      apart = apart-more ranges range h.apart (not-false _ (or_parts _ _ faulty).1);
      few = rw sum few;
    }

-- ---- filters

pub filters_kept : (closed : List FilterLine) (f : FilterLine) → HasFilters closed → is_accepted f ≡ true → length closed < 16
    → (f.listener && list_any gives_listener closed) ≡ false → HasFilters (closed ++ f ∷ [])
filters_kept closed f h accepted few alone = record {
  accepted = all_more is_accepted closed f h.accepted accepted;
  few = few-more closed f 16 few;
  listener = one_more gives_listener closed f h.listener (λ gives. rw gives at alone);
}

pub flag_kept : (killable : Bool) (closed : List FilterLine) (f : FilterLine) → has_flag_listener killable closed ≡ true → has_flag_listener killable (closed ++ f ∷ []) ≡ true
flag_kept killable closed f h = elim (or_cases _ _ h) [ inl plain ↦ or_left _ _ plain | inr given ↦ or_right _ _ (any_more gives_listener closed f given) ]

-- ---- programs

earlier-more : (n : ℕ) (bodies : List (List Instr)) (body : List Instr) → start_earlier n bodies ≡ true
    → list_all (λ i. starts_below (n + length bodies) i) body ≡ true → start_earlier n (bodies ++ body ∷ []) ≡ true
earlier-more n [] body h b =
    let e : n + 0 ≡ n = omega arith in
    and_from _ _ (subst (λ k. list_all (λ i. starts_below k i) body ≡ true) e b) refl
earlier-more n (p ∷ more) body h b =
    let e : n + length (p ∷ more) ≡ (n + 1) + length more = omega arith in
    and_from _ _ (and_parts _ _ h).0 (earlier-more (n + 1) more body (and_parts _ _ h).1 (subst (λ k. list_all (λ i. starts_below k i) body ≡ true) e b))

placed-more : (n : ℕ) (place : Option ℕ) → is_placed_below n place ≡ true → is_placed_below (n + 1) place ≡ true
placed-more n None h = refl
placed-more n (Some place) h = lt-ltb place (n + 1) (omega (arith, ltb-true place n h))

placed-either : (same : Bool) (n : ℕ) (other : Option ℕ) → is_placed_below n other ≡ true → is_placed_below (n + 1) (if same then Some n else other) ≡ true
placed-either true n other o = lt-ltb n (n + 1) (omega arith)
placed-either false n other o = placed-more n other o

placed-below : (n : ℕ) (place : Option ℕ) → is_placed_below n place ≡ true → is_some place ≡ true → nat_lt (unwrap_or place 0) n ≡ true
placed-below n None h s = cc
placed-below n (Some place) h s = h

totals-more : (above : List Totals) (bodies : List (List Instr)) (body : List Instr)
    → totals_behind above (bodies ++ body ∷ []) ≡ totals_behind above bodies ++ program_totals (totals_behind above bodies) body ∷ []
totals-more above [] body = refl
totals-more above (first ∷ bodies) body = totals-more (above ++ program_totals above first ∷ []) bodies body

-- after instructions of which none is `exit`
pub exit_last : (body : List Instr) (i : Instr) → list_any is_exit body ≡ false → exits_last (body ++ i ∷ []) ≡ true
exit_last [] i h = and_from _ _ (or_right (not (is_exit i)) true refl) refl
exit_last (first ∷ body) i h =
    let parts = or_parts (is_exit first) (list_any is_exit body) h in
    and_from _ _ (or_left (not (is_exit first)) (is_last (body ++ i ∷ [])) (not_from_false _ parts.0)) (exit_last body i parts.1)

pub exits_nowhere : (body : List Instr) → list_any is_exit body ≡ false → exits_last body ≡ true
exits_nowhere [] h = refl
exits_nowhere (first ∷ body) h =
    let parts = or_parts (is_exit first) (list_any is_exit body) h in
    and_from _ _ (or_left (not (is_exit first)) (is_last body) (not_from_false _ parts.0)) (exits_nowhere body parts.1)

pub instruction_kept : (map : List MapRange) (P : ProgramsState) (i : Instr) → HasPrograms map P → is_sound_instruction map (length P.bodies) i ≡ true → HasPrograms map (with_instr i P)
instruction_kept map P i h sound = record {
  earlier = h.earlier;
  instructions = h.instructions;
  mapped = h.mapped;
  exits = h.exits;
  few = h.few;
  counted = h.counted;
  totals = h.totals;
  current = all_more (is_sound_instruction map (length P.bodies)) P.body i h.current sound;
  named = h.named;
}

pub starts_low : (n : ℕ) (i : Instr) → starts_nothing i ≡ true → starts_below n i ≡ true
starts_low n (Spawn place) h = cc
starts_low n (Thread place) h = cc
starts_low n i h = refl

pub starting_sound : (map : List MapRange) (n : ℕ) (thread : Bool) (place : ℕ) → nat_lt place n ≡ true → is_sound_instruction map n (starting thread place) ≡ true
starting_sound map n true place h = and_from _ _ h refl
starting_sound map n false place h = and_from _ _ h refl

pub start_kept : (map : List MapRange) (P : ProgramsState) (thread : Bool) (name : List ℕ) → HasPrograms map P → start_fault P name ≡ None → HasPrograms map (with_start thread name P)
start_kept map P thread name h fine =
    let known : is_some (P.place name) ≡ true = not-false _ (not_wrong _ _ fine) in
    instruction_kept map P (starting thread (unwrap_or (P.place name) 0)) h (starting_sound map (length P.bodies) thread _ (placed-below _ _ (h.named name) known))

sound-parts : (map : List MapRange) (n : ℕ) (i : Instr) → is_sound_instruction map n i ≡ true
    → (starts_below n i ≡ true) × (is_instruction i ≡ true) × (stores_mapped map i ≡ true)
sound-parts map n i h =
    let parts = and_parts (starts_below n i) (is_instruction i && stores_mapped map i) h in
    let others = and_parts (is_instruction i) (stores_mapped map i) parts.1 in
    (parts.0, others.0, others.1)

-- the program that is open is closed
pub program_kept : (map : List MapRange) (exited : Bool) (P : ProgramsState) → HasPrograms map P → list_any is_exit P.body ≡ exited → exits_last P.body ≡ true
    → length P.bodies < 4096 → totals_fault exited P ≡ None → HasPrograms map (close_program exited P)
program_kept map exited P h ends last few fine =
    let section : (p : Instr → Bool) → ((i : Instr) → is_sound_instruction map (length P.bodies) i ≡ true → p i ≡ true) → list_all p P.body ≡ true =
    λ p weaker. all_weaker (is_sound_instruction map (length P.bodies)) p P.body weaker h.current
    in
    let zero-more : length P.bodies ≡ 0 + length P.bodies = omega arith in
    let longer : length (P.bodies ++ P.body ∷ []) ≡ length P.bodies + 1 = length-append P.bodies (P.body ∷ []) in
    record {
      earlier = earlier-more 0 P.bodies P.body h.earlier (subst (λ n. list_all (λ i. starts_below n i) P.body ≡ true) zero-more (section (λ i. starts_below (length P.bodies) i) (λ i s. (sound-parts map (length P.bodies) i s).0)));
      instructions = all_more (list_all is_instruction) P.bodies P.body h.instructions (section is_instruction (λ i s. (sound-parts map (length P.bodies) i s).1));
      mapped = all_more (list_all (stores_mapped map)) P.bodies P.body h.mapped (section (stores_mapped map) (λ i s. (sound-parts map (length P.bodies) i s).2));
      exits = all_more exits_last P.bodies P.body h.exits last;
      few = few-more P.bodies P.body 4096 few;
      counted =
          ap (λ e. P.totals ++ with_end e (totals_of P.totals P.body) ∷ []) (sym ends)
          ∙ (ap (λ totals. totals ++ program_totals totals P.body ∷ []) h.counted ∙ sym (totals-more [] P.bodies P.body));
      totals = all_more (λ t. not (are_too_many t)) P.totals (open_totals exited P) h.totals (not_from_false _ (not_large _ fine));
      current = refl;
      named = λ name. subst (λ n. is_placed_below n (standing P.name (length P.bodies) P.place name) ≡ true) (sym longer)
          (placed-either (bytes_eq P.name name) (length P.bodies) (P.place name) (h.named name));
    }
