-- The first two ranges that overlap are one pair.
-- Of two different pairs one comes first, and the other says of it that it doesn't overlap.
use Rattle.std.proofs.Common.{◌≡◌, ℕ, ◌<◌, true, false, List, [], ◌∷◌, length, arith, sym, ◌∙◌, subst}
use Rattle.pod_broker.specs.declared.container.Container.{Container}
use Rattle.run_words.specs.Pods.{AreSeparate, IsFirstBehind, IsFirstOverlap, Overlap}

-- two ranges overlap, or they don't: a list with a place has a container
not_both : (cs : List Container) (i j : ℕ) → j < length cs → Overlap cs i j true → Overlap cs i j false → ⊥
not_both [] i j h o s = grind arith
not_both (c ∷ cs) i j h o s = let e : true ≡ false = sym (o c) ∙ s c in cc

-- the first places of two first pairs, of which one is lower
lower : (cs : List Container) (i j k l : ℕ) → i < k → IsFirstOverlap cs i j → IsFirstOverlap cs k l → ⊥
lower cs i j k l h a b = not_both cs i j a.first.within a.first.overlaps (b.least i h j a.first.behind a.first.within)

-- the second places behind one
nearer : (cs : List Container) (i j l : ℕ) → j < l → IsFirstBehind cs i j → IsFirstBehind cs i l → ⊥
nearer cs i j l h a b = not_both cs i j a.within a.overlaps (b.first j a.behind h)

same : (m n : ℕ) → (m < n → ⊥) → (n < m → ⊥) → m ≡ n
same m n a b = grind (arith, a, b)

pub overlap_is_one : (cs : List Container) (i j k l : ℕ) → IsFirstOverlap cs i j → IsFirstOverlap cs k l → (i ≡ k) × (j ≡ l)
overlap_is_one cs i j k l a b =
    let e : i ≡ k = same i k (λ h. lower cs i j k l h a b) (λ h. lower cs k l i j h b a) in
    let P : ℕ → Type 0 = λ n. IsFirstBehind cs n l in
    let f : IsFirstBehind cs i l = subst P (sym e) b.first in
    (e, same j l (λ h. nearer cs i j l h a.first f) (λ h. nearer cs i l j h f a.first))

pub separate_dont_overlap : (cs : List Container) (i j : ℕ) → AreSeparate cs (length cs) → IsFirstOverlap cs i j → ⊥
separate_dont_overlap cs i j s a =
    let h : i < length cs = omega (arith, a.first.behind, a.first.within) in
    not_both cs i j a.first.within a.first.overlaps (s i h j a.first.behind a.first.within)
