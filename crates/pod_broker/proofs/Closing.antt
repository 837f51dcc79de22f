-- What a loop makes of a list, one element after another, as a relation has it.
-- What is left to do, put behind what was done, is all: by the library's lemmas on lists.
use Rattle.std.proofs.Common.{◌≡◌, ◌<◌, List, [], ◌∷◌, ◌++◌, length, get_or, map, All, sym, arith, append_assoc, subst}
use Rattle.std.proofs.lemmas.List.{append-nil}
use Rattle.std.proofs.lemmas.List.Elements.{All-head, All-tail}
use Rattle.std.specs.List.{AllZip, remove}

-- what is left to do, once it is done as it should be, makes all
abbrev pub Closes : {X Y Z : Type 0} → (X → Z) → (Z → Y → Type 0) → List X → List X → List Y → Type 0
Closes {X} {Y} {Z} f R all left done = (more : List Y) → AllZip R (map f left) more → AllZip R (map f all) (done ++ more)

module _ {X Y Z : Type 0} (f : X → Z) (R : Z → Y → Type 0) (all : List X) where
  -- the next one was done
  pub one-closed : (left : List X) (done : List Y) (x : X) (y : Y) → Closes f R all left done → 0 < length left → x ≡ get_or left 0 x → R (f x) y → Closes f R all (remove left 0) (done ++ y ∷ [])
  one-closed [] done x y h lt first r = absurd (omega arith)
  one-closed (m ∷ left) done x y h lt first r = λ more z.
      subst (AllZip R (map f all)) (sym (append_assoc done (y ∷ []) more)) (h (y ∷ more) (subst (λ (w : X). R (f w) y) first r, z))

  -- nothing is left to do
  pub all-closed : (left : List X) (done : List Y) → Closes f R all left done → length left ≡ 0 → AllZip R (map f all) done
  all-closed [] done h none = subst (AllZip R (map f all)) (append-nil done) (h [] tt)
  all-closed (m ∷ left) done h none = absurd (omega arith)

-- ---- what is said of what is read of each element

module _ {X Z : Type 0} (f : X → Z) (P : Z → Type 0) where
  pub first-has : (left : List X) (x : X) → All P (map f left) → 0 < length left → x ≡ get_or left 0 x → P (f x)
  first-has [] x h lt first = absurd (omega arith)
  first-has (m ∷ left) x h lt first = subst (λ (w : X). P (f w)) (sym first) (All-head P (f m) (map f left) h)

  pub others-have : (left : List X) → All P (map f left) → All P (map f (remove left 0))
  others-have [] h = h
  others-have (m ∷ left) h = All-tail P (f m) (map f left) h
