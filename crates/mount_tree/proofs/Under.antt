-- What lies under a node with one more mount, and that `..` leads from there to the same as from the node.
-- By induction on the steps of a walk, and on the mounts.
use Rattle.std.proofs.Common.{◌≡◌, ℕ, zero, suc, ◌<◌, inl, inr, List, [], ◌∷◌, Option, Some, None, length, refl, sym, ap, ◌∙◌, subst, arith}
use Rattle.std.specs.Prelude.{◌==◌}
use Rattle.std.proofs.lemmas.Bool.{cases_Bool, cases_eq, eq-eqb, ne_eqb}
use Rattle.hist_model.specs.Trees.{Tree, mount_on, target_of, uncovered, above_row, up_through, up, parent_of, row_in}
use Rattle.hist_model.specs.declared.tree.Mounted.{Mounted}
use Rattle.hist_model.specs.declared.tree.NodeRow.{NodeRow}
use Rattle.mount_tree.specs.declared.rows.Alike.{Alike}
use Rattle.mount_tree.specs.Stacks.{under, under_through, other_in, AreFresh, AreRooted, AreUnder, IsApart, IsBottom, IsFresh}

some_none : {A : Type 0} {T : Type 0} (x : T) → Some x ≡ None → A
some_none x e = cc

-- what a mount covers is no node on which nothing is mounted
covers : (ms : List Mounted) (n t r : ℕ) → mount_on ms r ≡ None → target_of ms n ≡ Some t → t ≡ r → ⊥
unfolding mount_on target_of
covers [] n t r bare e q = cc
covers (m ∷ ms) n t r bare e q = elim (cases_eq m.target r) [
  | inl s ↦ some_none m.root (rw (eq-eqb m.target r s) at bare)
  | inr s ↦ elim (cases_Bool (m.root == n)) [
    | inl h ↦ s (let f = rw h at e in cc)
    | inr h ↦ covers ms n t r (rw (ne_eqb m.target r s) at bare) (rw h at e) q
  ]
]

-- the next step down, where it doesn't begin at the root of the newest mount
apart_target : (m : Mounted) (ms : List Mounted) (n : ℕ) → (n ≡ m.root → ⊥) → target_of (m ∷ ms) n ≡ target_of ms n
unfolding target_of
apart_target m ms n a = rw (ne_eqb m.root n (λ e. a (sym e))) refl

root_target : (m : Mounted) (ms : List Mounted) → target_of (m ∷ ms) m.root ≡ Some m.target
unfolding target_of
root_target m ms = rw (eq-eqb m.root m.root refl) refl

-- from another node than the fresh root the walk down stays as it was, and doesn't come to the root
walk_kept : (k : ℕ) (m : Mounted) (ms : List Mounted) (n : ℕ) → mount_on ms m.root ≡ None → (n ≡ m.root → ⊥)
    → under_through k (m ∷ ms) n ≡ under_through k ms n
unfolding under_through
walk_kept zero m ms n bare a = refl
walk_kept (suc k) m ms n bare a = rw (apart_target m ms n a) (below (λ t. walk_kept k m ms t bare) (target_of ms n) refl)
  where
    below : ((t : ℕ) → (t ≡ m.root → ⊥) → under_through k (m ∷ ms) t ≡ under_through k ms t)
        → (o : Option ℕ) → target_of ms n ≡ o → uncovered (under_through k (m ∷ ms)) n o ≡ uncovered (under_through k ms) n o
    below more None e = refl
    below more (Some t) e = more t (covers ms n t m.root bare e)

walk_apart : (k : ℕ) (ms : List Mounted) (r n : ℕ) → mount_on ms r ≡ None → (n ≡ r → ⊥) → under_through k ms n ≡ r → ⊥
unfolding under_through
walk_apart zero ms r n bare a = a
walk_apart (suc k) ms r n bare a = below (λ t. walk_apart k ms r t bare) (target_of ms n) refl
  where
    below : ((t : ℕ) → (t ≡ r → ⊥) → under_through k ms t ≡ r → ⊥) → (o : Option ℕ) → target_of ms n ≡ o → uncovered (under_through k ms) n o ≡ r → ⊥
    below more None e = a
    below more (Some t) e = more t (covers ms n t r bare e)

-- two walks that come to an end come to the same
agree : (j k : ℕ) (ms : List Mounted) (n : ℕ) → target_of ms (under_through j ms n) ≡ None → target_of ms (under_through k ms n) ≡ None
    → under_through j ms n ≡ under_through k ms n
unfolding under_through
agree zero zero ms n e f = refl
agree zero (suc k) ms n e f = rw e refl
agree (suc j) zero ms n e f = rw f refl
agree (suc j) (suc k) ms n e f = below (λ t. agree j k ms t) (target_of ms n) e f
  where
    below : ((t : ℕ) → target_of ms (under_through j ms t) ≡ None → target_of ms (under_through k ms t) ≡ None → under_through j ms t ≡ under_through k ms t)
        → (o : Option ℕ) → target_of ms (uncovered (under_through j ms) n o) ≡ None → target_of ms (uncovered (under_through k ms) n o) ≡ None
        → uncovered (under_through j ms) n o ≡ uncovered (under_through k ms) n o
    below more None e f = refl
    below more (Some t) e f = more t e f

-- one more step from an end
settled : (k : ℕ) (ms : List Mounted) (n : ℕ) → target_of ms (under_through k ms n) ≡ None → under_through (suc k) ms n ≡ under_through k ms n
unfolding under_through
settled zero ms n e = rw e refl
settled (suc k) ms n e = below (λ t. settled k ms t) (target_of ms n) e
  where
    below : ((t : ℕ) → target_of ms (under_through k ms t) ≡ None → under_through (suc k) ms t ≡ under_through k ms t)
        → (o : Option ℕ) → target_of ms (uncovered (under_through k ms) n o) ≡ None
        → uncovered (under_through (suc k) ms) n o ≡ uncovered (under_through k ms) n o
    below more None e = refl
    below more (Some t) e = more t e

-- from the root of the newest mount, and from another node
root_under : (m : Mounted) (ms : List Mounted) → IsFresh ms m.target m.root → under (m ∷ ms) m.root ≡ under ms m.target
unfolding under_through
root_under m ms f = rw (root_target m ms) (walk_kept (length ms) m ms m.target f.bare (λ q. let e = eq-eqb m.target m.root q in let g = f.apart in cc))

other_under : (m : Mounted) (ms : List Mounted) (n : ℕ) → IsFresh ms m.target m.root → target_of ms (under ms n) ≡ None → (n ≡ m.root → ⊥)
    → under (m ∷ ms) n ≡ under ms n
other_under m ms n f e a = walk_kept (suc (length ms)) m ms n f.bare a ∙ settled (length ms) ms n e

none_covered : (n : ℕ) → target_of [] n ≡ None
unfolding target_of
none_covered n = refl

-- what lies under a node is no mount's root
under_ends : (ms : List Mounted) → AreFresh ms → (n : ℕ) → target_of ms (under ms n) ≡ None
unfolding AreFresh
under_ends [] f n = none_covered (under [] n)
under_ends (m ∷ ms) f n = elim (cases_eq n m.root) [
  | inl q ↦
      let a : (m.target ≡ m.root → ⊥) = λ s. (let e = eq-eqb m.target m.root s in let g = f.0.apart in cc) in
      rw (q, root_under m ms f.0) (apart_target m ms (under ms m.target) (walk_apart (length ms) ms m.root m.target f.0.bare a) ∙ under_ends ms f.1 m.target)
  | inr a ↦
      rw (other_under m ms n f.0 (under_ends ms f.1 n) a)
      (apart_target m ms (under ms n) (walk_apart (length ms) ms m.root n f.0.bare a) ∙ under_ends ms f.1 n)
]

-- the rows with that of a mount whose root is fresh
pub under_rows : (m : Mounted) (ms : List Mounted) (alike : List Alike) → IsFresh ms m.target m.root → AreFresh ms → AreUnder ms alike
    → AreUnder (m ∷ ms) (record { node = m.root; other = other_in alike m.target } ∷ alike)
unfolding other_in
under_rows m ms alike f fs h = λ n. elim (cases_eq m.root n) [
  | inl q ↦ rw (eq-eqb m.root n q) (h m.target ∙ sym (root_under m ms f) ∙ ap (under (m ∷ ms)) q)
  | inr q ↦ rw (ne_eqb m.root n q) (h n ∙ sym (other_under m ms n f (under_ends ms fs n) (λ e. q (sym e))))
]

-- the other node of a node's newest row is the bottom of its stack
pub bottom_found : (ms : List Mounted) (alike : List Alike) (n : ℕ) → AreFresh ms → AreUnder ms alike → IsBottom ms n (other_in alike n)
bottom_found ms alike n f h = (h n, rw (h n) (under_ends ms f n))

pub apart_itself : (ms : List Mounted) (root bottom : ℕ) → root ≡ bottom → IsApart ms root bottom
apart_itself ms root bottom q = λ k e. q

-- a root that has another bottom isn't among the mounts over this one
pub apart_bottoms : (ms : List Mounted) (root other bottom : ℕ) → IsBottom ms root other → (other ≡ bottom → ⊥) → target_of ms bottom ≡ None
    → IsApart ms root bottom
apart_bottoms ms root other bottom o a e = λ k q.
    absurd (a (o.0 ∙ agree (length ms) k ms root (subst (λ (x : ℕ). target_of ms x ≡ None) o.0 o.1) (rw q e) ∙ q))

-- at a bottom one step is enough
bottom_step : (k : ℕ) (T : Tree) (root b : ℕ) → target_of T.mounts b ≡ None → up_through (suc (suc k)) T root b ≡ up_through (suc k) T root b
unfolding up_through
bottom_step k T root b e = elim (cases_Bool (b == root)) [
  | inl h ↦ rw h refl
  | inr h ↦ rw h (above (parent_of (row_in T.nodes b)))
]
  where
    above : (o : Option ℕ) → above_row (up_through (suc k) T root) T.mounts b o ≡ above_row (up_through k T root) T.mounts b o
    above (Some p) = refl
    above None = rw e refl

-- the root of a mount has no parent
rootless : (nodes : List NodeRow) (ms : List Mounted) (n t : ℕ) → AreRooted nodes ms → target_of ms n ≡ Some t → parent_of (row_in nodes n) ≡ None
unfolding AreRooted target_of
rootless nodes [] n t r e = cc
rootless nodes (m ∷ ms) n t r e = elim (cases_eq m.root n) [
  | inl q ↦ subst (λ (x : ℕ). parent_of (row_in nodes x) ≡ None) q (r.0.parentless)
  | inr q ↦ rootless nodes ms n t r.1 (rw (ne_eqb m.root n q) at e)
]

-- one step down from the root of a mount, which isn't the container's
step_down : (k : ℕ) (T : Tree) (root n t : ℕ) → AreRooted T.nodes T.mounts → (n ≡ root → ⊥) → target_of T.mounts n ≡ Some t
    → up_through (suc k) T root n ≡ up_through k T root t
unfolding up_through
step_down k T root n t r a e = rw (ne_eqb n root a, rootless T.nodes T.mounts n t r e, e) refl

walk_up : (k : ℕ) (T : Tree) (root n b : ℕ) → AreRooted T.nodes T.mounts → target_of T.mounts b ≡ None → IsApart T.mounts root b
    → under_through k T.mounts n ≡ b → up_through (suc k) T root b ≡ up_through (suc k) T root n
unfolding under_through
walk_up zero T root n b r e a q = ap (up_through 1 T root) (sym q)
walk_up (suc k) T root n b r e a q = below (λ t. walk_up k T root t b r e a) (target_of T.mounts n) refl q
  where
    below : ((t : ℕ) → under_through k T.mounts t ≡ b → up_through (suc k) T root b ≡ up_through (suc k) T root t)
        → (o : Option ℕ) → target_of T.mounts n ≡ o → uncovered (under_through k T.mounts) n o ≡ b
        → up_through (suc (suc k)) T root b ≡ up_through (suc (suc k)) T root n
    below more None f q = ap (up_through (suc (suc k)) T root) (sym q)
    below more (Some t) f q = elim (cases_eq n root) [
      | inl s ↦
          let d : under_through (suc k) T.mounts root ≡ b = rw (← s, f) q in
          ap (up_through (suc (suc k)) T root) (sym (a (suc k) d) ∙ sym s)
      | inr s ↦ bottom_step k T root b e ∙ more t q ∙ sym (step_down (suc k) T root n t r s f)
    ]

-- from the bottom of a stack `..` leads to the same
pub bottom_up : (T : Tree) (root n b : ℕ) → AreRooted T.nodes T.mounts → IsBottom T.mounts n b → IsApart T.mounts root b → up T root b ≡ up T root n
bottom_up T root n b r d a = walk_up (length T.mounts) T root n b r d.1 a (sym d.0)

-- one more node
pub none_rooted : (nodes : List NodeRow) → AreRooted nodes []
unfolding AreRooted
none_rooted nodes = tt

node_kept : (row : NodeRow) (nodes : List NodeRow) (n : ℕ) → n < length nodes → row_in (row ∷ nodes) n ≡ row_in nodes n
unfolding row_in
node_kept row nodes n l = let d : (n ≡ length nodes → ⊥) = omega arith in rw (ne_eqb n (length nodes) d) refl

pub rooted_more : (row : NodeRow) (nodes : List NodeRow) (ms : List Mounted) → AreRooted nodes ms → AreRooted (row ∷ nodes) ms
unfolding AreRooted
rooted_more row nodes [] r = tt
rooted_more row nodes (m ∷ ms) r =
    let l : m.root < length nodes = r.0.made in
    (record { made = omega arith; parentless = ap parent_of (node_kept row nodes m.root l) ∙ r.0.parentless }, rooted_more row nodes ms r.1)

-- one more mount, with its root
pub rooted_with : (row : NodeRow) (nodes : List NodeRow) (m : Mounted) (ms : List Mounted) → row.parent ≡ None → m.root ≡ length nodes → AreRooted nodes ms
    → AreRooted (row ∷ nodes) (m ∷ ms)
unfolding AreRooted row_in
rooted_with row nodes m ms p q r =
    (record { made = rw q (omega arith); parentless = rw (q, eq-eqb (length nodes) (length nodes) refl) p }, rooted_more row nodes ms r)
