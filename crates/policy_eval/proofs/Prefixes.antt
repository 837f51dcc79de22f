-- A text that begins with another one and a slash.
-- By induction on the path and on the directory.
use Rattle.std.proofs.Common.{◌≡◌, ℕ, ◌<◌, ◌≤◌, Bool, true, false, ◌&&◌, List, [], ◌∷◌, ◌++◌, length, take, get_or, refl, ap, sym, ◌∙◌, arith}
use Rattle.std.specs.Prelude.{nat_eq, bytes_eq}
use Rattle.std.specs.List.{starts_with}
use Rattle.std.proofs.lemmas.Bool.{eq-eqb, ne_eqb}

pub and_false : (b : Bool) → (b && false) ≡ false
and_false true = refl
and_false false = refl

-- where the directory's bytes are followed by a slash, it is enough that the directory's are the path's first
pub begins_by_slash : (path dir : List ℕ) → length dir < length path → get_or path (length dir) 0 ≡ 47 → starts_with nat_eq path (dir ++ 47 ∷ []) ≡ bytes_eq dir (take (length dir) path)
begins_by_slash [] dir l h = absurd (omega arith)
begins_by_slash (b ∷ path) [] l h = rw (eq-eqb 47 b (sym h))
begins_by_slash (b ∷ path) (a ∷ dir) l h = ap (λ r. nat_eq a b && r) (begins_by_slash path dir (omega arith) h)

pub too_short : (path dir : List ℕ) → length path ≤ length dir → starts_with nat_eq path (dir ++ 47 ∷ []) ≡ false
too_short [] [] l = refl
too_short [] (a ∷ dir) l = refl
too_short (b ∷ path) [] l = absurd (omega arith)
too_short (b ∷ path) (a ∷ dir) l = ap (λ r. nat_eq a b && r) (too_short path dir (omega arith)) ∙ and_false (nat_eq a b)

pub other_byte : (path dir : List ℕ) → length dir < length path → (get_or path (length dir) 0 ≡ 47 → ⊥) → starts_with nat_eq path (dir ++ 47 ∷ []) ≡ false
other_byte [] dir l h = absurd (omega arith)
other_byte (b ∷ path) [] l h = rw (ne_eqb 47 b (λ e. h (sym e)))
other_byte (b ∷ path) (a ∷ dir) l h = ap (λ r. nat_eq a b && r) (other_byte path dir (omega arith) h) ∙ and_false (nat_eq a b)
