-- The newest row of a key, as the definitions find it.
-- By induction on the rows.
use Rattle.std.proofs.Common.{◌≡◌, ℕ, inl, inr, map, false, reverse, take, get_or, length, ◌+◌, ◌-◌, ◌<◌, ◌≤◌, arith, List, [], ◌∷◌, ◌++◌, Option, Some, None, refl, sym, ap, ◌∙◌}
use Rattle.std.specs.Prelude.{◌==◌, bytes_eq}
use Rattle.std.proofs.Math.Bool.{and-true}
use Rattle.std.proofs.lemmas.Bool.{cases_Bool}
use Rattle.std.proofs.lemmas.List.{reverse-append, take_all, take_more}
use Rattle.hist_model.specs.Trees.{attr_in, entry_in, is_attr, mount_on, target_of}
use Rattle.hist_model.specs.declared.tree.NodeRow.{NodeRow}
use Rattle.hist_model.specs.declared.tree.AttrRow.{AttrRow}
use Rattle.mount_tree.specs.Keys.{key_of, newest, newest_row, node_key, attr_key, mount_key, covered_key, covered_by, alike_key}
use Rattle.mount_tree.specs.declared.rows.Alike.{Alike}
use Rattle.mount_tree.specs.declared.rows.Covered.{Covered}
use Rattle.hist_model.specs.declared.tree.Mounted.{Mounted}
use Rattle.mount_tree.specs.Looks.{has_value, newest_root}
use Rattle.mount_tree.specs.Places.{attr_place}
use Rattle.mount_tree.specs.Stacks.{other_in}

pub entry_newest : (rs : List NodeRow) (dir : ℕ) (name : List ℕ) → newest node_key rs (key_of (Some dir) name) ≡ entry_in rs dir name
unfolding newest entry_in
entry_newest [] dir name = refl
entry_newest (r ∷ rs) dir name = rw (entry_newest rs dir name) refl

pub attr_newest : (rs : List AttrRow) (on : ℕ) (name : List ℕ) → newest attr_key rs (key_of (Some on) name) ≡ attr_place rs on name
unfolding newest attr_place
attr_newest [] on name = refl
attr_newest (r ∷ rs) on name = rw (attr_newest rs on name) refl

abbrev root_of : Option Mounted → Option ℕ
root_of (Some m) = Some m.root
root_of None = None

abbrev target_in : Option Covered → Option ℕ
target_in (Some c) = Some c.target
target_in None = None

abbrev other_or : ℕ → Option Alike → ℕ
other_or n (Some a) = a.other
other_or n None = n

mount_newest : (ms : List Mounted) (n : ℕ) → root_of (newest_row mount_key ms (key_of (Some n) [])) ≡ mount_on ms n
unfolding newest_row mount_on
mount_newest [] n = refl
mount_newest (m ∷ ms) n =
    rw (and-true (m.target == n)) (elim (cases_Bool (m.target == n)) [ inl h ↦ rw h refl | inr h ↦ rw h (mount_newest ms n) ])

target_newest : (ms : List Mounted) (n : ℕ) → target_in (newest_row covered_key (map covered_by ms) (key_of (Some n) [])) ≡ target_of ms n
unfolding newest_row target_of
target_newest [] n = refl
target_newest (m ∷ ms) n =
    rw (and-true (m.root == n)) (elim (cases_Bool (m.root == n)) [ inl h ↦ rw h refl | inr h ↦ rw h (target_newest ms n) ])

other_newest : (alike : List Alike) (n : ℕ) → other_or n (newest_row alike_key alike (key_of (Some n) [])) ≡ other_in alike n
unfolding newest_row other_in
other_newest [] n = refl
other_newest (a ∷ rest) n =
    rw (and-true (a.node == n)) (elim (cases_Bool (a.node == n)) [ inl h ↦ rw h refl | inr h ↦ rw h (other_newest rest n) ])

-- the newest mount on a node, and none
pub mount_found : (ms : List Mounted) (n : ℕ) (m : Mounted) → newest_row mount_key ms (key_of (Some n) []) ≡ Some m → Some m.root ≡ mount_on ms n
mount_found ms n m e = ap root_of (sym e) ∙ mount_newest ms n

pub mount_absent : (ms : List Mounted) (n : ℕ) → newest_row mount_key ms (key_of (Some n) []) ≡ None → None ≡ mount_on ms n
mount_absent ms n e = ap root_of (sym e) ∙ mount_newest ms n

-- the directory that a mount covers, and none
pub target_found : (ms : List Mounted) (n : ℕ) (c : Covered) → newest_row covered_key (map covered_by ms) (key_of (Some n) []) ≡ Some c → Some c.target ≡ target_of ms n
target_found ms n c e = ap target_in (sym e) ∙ target_newest ms n

pub target_absent : (ms : List Mounted) (n : ℕ) → newest_row covered_key (map covered_by ms) (key_of (Some n) []) ≡ None → None ≡ target_of ms n
target_absent ms n e = ap target_in (sym e) ∙ target_newest ms n

-- the other node of a node's newest row, and none
pub other_found : (alike : List Alike) (n : ℕ) (a : Alike) → newest_row alike_key alike (key_of (Some n) []) ≡ Some a → a.other ≡ other_in alike n
other_found alike n a e = ap (other_or n) (sym e) ∙ other_newest alike n

pub other_absent : (alike : List Alike) (n : ℕ) → newest_row alike_key alike (key_of (Some n) []) ≡ None → n ≡ other_in alike n
other_absent alike n e = ap (other_or n) (sym e) ∙ other_newest alike n

-- the value of an attribute, and none
abbrev value_of : Option AttrRow → Option (List ℕ)
value_of (Some r) = Some r.value
value_of None = None

value_newest : (rs : List AttrRow) (on : ℕ) (name : List ℕ) → value_of (newest_row attr_key rs (key_of (Some on) name)) ≡ attr_in rs on name
unfolding newest_row attr_in
value_newest [] on name = refl
value_newest (r ∷ rs) on name = elim (cases_Bool (is_attr r on name)) [ inl h ↦ rw h refl | inr h ↦ rw h (value_newest rs on name) ]

pub value_found : (rs : List AttrRow) (on : ℕ) (name value : List ℕ) (r : AttrRow) → newest_row attr_key rs (key_of (Some on) name) ≡ Some r → bytes_eq r.value value ≡ has_value (attr_in rs on name) value
value_found rs on name value r e = ap (λ o. has_value o value) (ap value_of (sym e) ∙ value_newest rs on name)

pub value_absent : (rs : List AttrRow) (on : ℕ) (name value : List ℕ) → newest_row attr_key rs (key_of (Some on) name) ≡ None → false ≡ has_value (attr_in rs on name) value
value_absent rs on name value e = ap (λ o. has_value o value) (ap value_of (sym e) ∙ value_newest rs on name)

-- the newest mount stands after the others, and none where there is no mount
pub newest_there : (rows all : List Mounted) (m : Mounted) → reverse all ≡ rows → 0 < length all → m ≡ get_or all (length all - 1) m → Some m.root ≡ newest_root rows
newest_there rows all m q l is =
    let n = length all - 1 in
    let whole : all ≡ take n all ++ get_or all n m ∷ [] = sym (take_all (n + 1) all (omega arith)) ∙ take_more all n m (omega arith) in
    let back : reverse all ≡ get_or all n m ∷ reverse (take n all) = ap reverse whole ∙ reverse-append (take n all) (get_or all n m ∷ []) in
    ap (λ (x : Mounted). Some x.root) is ∙ ap newest_root (sym back ∙ q)

pub newest_none : (rows all : List Mounted) → reverse all ≡ rows → length all ≤ 0 → None ≡ newest_root rows
newest_none rows [] q l = ap newest_root q
newest_none rows (m ∷ ms) q l = absurd (omega arith)
