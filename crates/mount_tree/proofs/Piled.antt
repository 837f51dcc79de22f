-- What is seen at a node with one more mount, which is put on top.
-- By induction on the steps of a walk, and on the mounts.
use Rattle.std.proofs.Common.{◌≡◌, ℕ, zero, suc, Bool, true, false, inl, inr, List, [], ◌∷◌, Option, Some, None, length, refl, sym, ap, ◌∙◌, subst, true≢false, if◌then◌else◌}
use Rattle.std.specs.Prelude.{◌==◌}
use Rattle.std.proofs.lemmas.Bool.{cases_Bool, cases_eq, eq-eqb, ne_eqb}
use Rattle.hist_model.specs.Trees.{covered, mount_on, top_through}
use Rattle.hist_model.specs.declared.tree.Mounted.{Mounted}
use Rattle.mount_tree.specs.declared.rows.Alike.{Alike}
use Rattle.mount_tree.specs.declared.stacks.Stacks.{Stacks}
use Rattle.mount_tree.specs.Stacks.{seen, under_through, other_in, AreAlike, AreFresh, ArePiled, Follow, IsFresh, IsOnTop}
use Rattle.mount_tree.proofs.Under.{under_rows}

-- a node without a mount is seen itself
seen_itself : (k : ℕ) (ms : List Mounted) (n : ℕ) → mount_on ms n ≡ None → top_through k ms n ≡ n
unfolding top_through
seen_itself zero ms n e = refl
seen_itself (suc k) ms n e = rw e refl

-- what is seen with a mount where this was seen before
abbrev over : Mounted → ℕ → ℕ
over m t = if m.target == t then m.root else t

abbrev mount_or : Mounted → ℕ → Option ℕ → Option ℕ
mount_or m n o = if m.target == n then Some m.root else o

newer : (m : Mounted) (ms : List Mounted) (n : ℕ) → mount_on (m ∷ ms) n ≡ mount_or m n (mount_on ms n)
unfolding mount_on
newer m ms n = refl

-- nothing is mounted on the root of a mount that is put on top
bare_more : (m : Mounted) (ms : List Mounted) → IsOnTop ms m.target m.root → mount_on (m ∷ ms) m.root ≡ None
bare_more m ms t = newer m ms m.root ∙ rw (t.fresh.apart) t.fresh.bare

-- one step with the mount, and one without
step : (k : ℕ) (m : Mounted) (ms : List Mounted) (n : ℕ) (o : Option ℕ) → IsOnTop ms m.target m.root → mount_on ms n ≡ o
    → ((x : ℕ) → mount_on ms (top_through k ms x) ≡ None → top_through (suc k) (m ∷ ms) x ≡ over m (top_through k ms x))
    → mount_on ms (covered (top_through k ms) n o) ≡ None
    → covered (top_through (suc k) (m ∷ ms)) n (mount_or m n o) ≡ over m (covered (top_through k ms) n o)
step k m ms n None t e more ends = elim (cases_Bool (m.target == n)) [
  | inl h ↦ rw h (seen_itself (suc k) (m ∷ ms) m.root (bare_more m ms t))
  | inr h ↦ rw h refl
]
step k m ms n (Some r) t e more ends = elim (cases_eq m.target n) [
  | inl q ↦ let free : mount_on ms n ≡ None = subst (λ (x : ℕ). mount_on ms x ≡ None) q t.free in cc
  | inr q ↦ rw (ne_eqb m.target n q) (more r ends)
]

walk_more : (k : ℕ) (m : Mounted) (ms : List Mounted) (n : ℕ) → IsOnTop ms m.target m.root → mount_on ms (top_through k ms n) ≡ None
    → top_through (suc k) (m ∷ ms) n ≡ over m (top_through k ms n)
unfolding top_through
walk_more zero m ms n t ends = ap (covered (λ (x : ℕ). x) n) (newer m ms n) ∙ first n ends
  where
    first : (x : ℕ) → mount_on ms x ≡ None → covered (λ (y : ℕ). y) x (mount_or m x (mount_on ms x)) ≡ over m x
    first x e = rw e (elim (cases_Bool (m.target == x)) [ inl h ↦ rw h refl | inr h ↦ rw h refl ])
walk_more (suc k) m ms n t ends =
    ap (covered (top_through (suc k) (m ∷ ms)) n) (newer m ms n) ∙ step k m ms n (mount_on ms n) t refl (λ x e. walk_more k m ms x t e) ends

bare_over : (m : Mounted) (ms : List Mounted) (t : ℕ) → IsOnTop ms m.target m.root → mount_on ms t ≡ None → mount_on (m ∷ ms) (over m t) ≡ None
bare_over m ms t top e = elim (cases_Bool (m.target == t)) [
  | inl h ↦ rw h (bare_more m ms top)
  | inr h ↦ rw h (newer m ms t ∙ rw h e)
]

-- nothing is mounted on what is seen
seen_bare : (ms : List Mounted) → ArePiled ms → (n : ℕ) → mount_on ms (seen ms n) ≡ None
unfolding ArePiled mount_on
seen_bare [] p n = refl
seen_bare (m ∷ ms) p n = rw (walk_more (length ms) m ms n p.0 (seen_bare ms p.1 n)) (bare_over m ms (seen ms n) p.0 (seen_bare ms p.1 n))

seen_more : (m : Mounted) (ms : List Mounted) (n : ℕ) → IsOnTop ms m.target m.root → ArePiled ms → seen (m ∷ ms) n ≡ over m (seen ms n)
seen_more m ms n t p = walk_more (length ms) m ms n t (seen_bare ms p n)

-- what is alike stays so
alike_kept : (m : Mounted) (ms : List Mounted) (alike : List Alike) → IsOnTop ms m.target m.root → ArePiled ms → AreAlike ms alike → AreAlike (m ∷ ms) alike
alike_kept m ms alike t p h = λ n. seen_more m ms (other_in alike n) t p ∙ ap (over m) (h n) ∙ sym (seen_more m ms n t p)

alike_more : (a : Alike) (ms : List Mounted) (alike : List Alike) → AreAlike ms alike → seen ms a.other ≡ seen ms a.node → AreAlike ms (a ∷ alike)
unfolding other_in
alike_more a ms alike h e = λ n. elim (cases_eq a.node n) [
  | inl q ↦ rw (eq-eqb a.node n q) (e ∙ ap (seen ms) q)
  | inr q ↦ rw (ne_eqb a.node n q) (h n)
]

-- at the root of the newest mount, and at the node under it, the root is seen
root_seen : (m : Mounted) (ms : List Mounted) → IsOnTop ms m.target m.root → ArePiled ms → seen (m ∷ ms) m.root ≡ m.root
root_seen m ms t p = seen_itself (length (m ∷ ms)) (m ∷ ms) m.root (bare_more m ms t)

bottom_seen : (m : Mounted) (ms : List Mounted) (alike : List Alike) → IsOnTop ms m.target m.root → ArePiled ms → AreAlike ms alike
    → seen (m ∷ ms) (other_in alike m.target) ≡ m.root
bottom_seen m ms alike t p h =
    seen_more m ms (other_in alike m.target) t p
    ∙ ap (over m) (h m.target ∙ seen_itself (length ms) ms m.target t.free)
    ∙ rw (eq-eqb m.target m.target refl) refl

-- the rows of a mount that is put on top, from its root to the node under the stack, and from there to the root
bottoms_more : (m : Mounted) (ms : List Mounted) (alike : List Alike) → IsOnTop ms m.target m.root → ArePiled ms → AreAlike ms alike
    → AreAlike (m ∷ ms) (record { node = m.root; other = other_in alike m.target } ∷ alike)
bottoms_more m ms alike t p h =
    alike_more _ (m ∷ ms) alike (alike_kept m ms alike t p h) (bottom_seen m ms alike t p h ∙ sym (root_seen m ms t p))

tops_more : (m : Mounted) (ms : List Mounted) (alike tops : List Alike) → IsOnTop ms m.target m.root → ArePiled ms → AreAlike ms alike → AreAlike ms tops
    → AreAlike (m ∷ ms) (record { node = other_in alike m.target; other = m.root } ∷ tops)
tops_more m ms alike tops t p h g =
    alike_more _ (m ∷ ms) tops (alike_kept m ms tops t p g) (root_seen m ms t p ∙ sym (bottom_seen m ms alike t p h))

-- without mounts
pub none_follow : (s : Stacks) → s.bottoms.rows ≡ [] → s.tops.rows ≡ [] → Follow [] s
unfolding ArePiled AreFresh other_in under_through
none_follow s b t = record { fresh = λ _. tt; under = λ _ n. rw b refl; piled = λ _. tt; bottoms = λ _ n. rw b refl; tops = λ _ n. rw t refl }

never : {A : Type 0} (b : Bool) → b ≡ false → b ≡ true → A
never b e h = absurd (true≢false (sym h ∙ e))

-- where a root wasn't fresh nothing is kept
pub unkept_follow : (ms : List Mounted) (s : Stacks) → s.fresh ≡ false → s.piled ≡ false → Follow ms s
unkept_follow ms s f e = record { fresh = never s.fresh f; under = never s.fresh f; piled = never s.piled e; bottoms = never s.piled e; tops = never s.piled e }

pub is_fresh : (ms : List Mounted) (target root : ℕ) → (target ≡ root → ⊥) → mount_on ms root ≡ None → IsFresh ms target root
is_fresh ms target root apart bare = record { bare = bare; apart = ne_eqb target root apart }

pub is_on_top : (ms : List Mounted) (target root : ℕ) → IsFresh ms target root → mount_on ms target ≡ None → IsOnTop ms target root
is_on_top ms target root fresh free = record { free = free; fresh = fresh }

-- the same is seen at the root on top of a node's stack
pub near_seen : (ms : List Mounted) (s : Stacks) (n : ℕ) → s.piled ≡ true → Follow ms s → seen ms (other_in s.tops.rows (other_in s.bottoms.rows n)) ≡ seen ms n
near_seen ms s n p h = h.tops p (other_in s.bottoms.rows n) ∙ h.bottoms p n

-- with a mount that is put on top
pub more_follow : (m : Mounted) (ms : List Mounted) (old new : Stacks) → IsOnTop ms m.target m.root → old.piled ≡ true → new.fresh ≡ old.fresh
    → new.bottoms.rows ≡ record { node = m.root; other = other_in old.bottoms.rows m.target } ∷ old.bottoms.rows
    → new.tops.rows ≡ record { node = other_in old.bottoms.rows m.target; other = m.root } ∷ old.tops.rows
    → Follow ms old → Follow (m ∷ ms) new
unfolding ArePiled AreFresh
more_follow m ms old new t p f b u h = record {
  fresh = λ e. (t.fresh, h.fresh (sym f ∙ e));
  under = λ e. rw b (under_rows m ms old.bottoms.rows t.fresh (h.fresh (sym f ∙ e)) (h.under (sym f ∙ e)));
  piled = λ _. (t, h.piled p);
  bottoms = λ _. rw b (bottoms_more m ms old.bottoms.rows t (h.piled p) (h.bottoms p));
  tops = λ _. rw u (tops_more m ms old.bottoms.rows old.tops.rows t (h.piled p) (h.bottoms p) (h.tops p));
}

-- with a mount whose root is fresh
pub aside_follow : (m : Mounted) (ms : List Mounted) (old new : Stacks) → IsFresh ms m.target m.root → new.fresh ≡ old.fresh → new.piled ≡ false
    → new.bottoms.rows ≡ record { node = m.root; other = other_in old.bottoms.rows m.target } ∷ old.bottoms.rows
    → Follow ms old → Follow (m ∷ ms) new
unfolding AreFresh
aside_follow m ms old new t f e b h = record {
  fresh = λ g. (t, h.fresh (sym f ∙ g));
  under = λ g. rw b (under_rows m ms old.bottoms.rows t (h.fresh (sym f ∙ g)) (h.under (sym f ∙ g)));
  piled = never new.piled e;
  bottoms = never new.piled e;
  tops = never new.piled e;
}
