-- Turns that were taken are told by what was left after each, and their order is the same with any bound.
-- By induction on the turns.
use Rattle.std.proofs.Common.{◌≡◌, ℕ, ◌+◌, List, [], ◌∷◌, map, Some, refl, sym, ap, ◌∙◌, subst, arith}
use Rattle.std.specs.Prelude.{◌==◌, nat_lt, slice_get}
use Rattle.std.proofs.lemmas.Bool.Decides.{nat_tests}
use Rattle.hist_model.specs.declared.event.Event.{Event}
use Rattle.hist_model.specs.declared.policy.Policy.{Policy}
use Rattle.hist_model.specs.declared.script.Script.{Script}
use Rattle.delay_bounded.specs.Circle.{able, with_turn}
use Rattle.explorer.specs.Frames.{after}
use Rattle.explorer.specs.Paths.{AreTaken, is_before, is_first, left_of}
use Rattle.explorer.specs.declared.frames.Frame.{Frame}

-- ---- With more delays at most

module _ (k : ℕ) where
  abbrev pub more_left : Frame → ℕ
  more_left f = f.left + k

  same_test : (x y : ℕ) → (x + k == y + k) ≡ (x == y)
  same_test x y = grind (arith, nat_tests)

  same_order : (x y : ℕ) → nat_lt (x + k) (y + k) ≡ nat_lt x y
  same_order x y = grind (arith, nat_tests)

  pub before_shift : (fs gs : List Frame) → is_before (map more_left fs) (map more_left gs) ≡ is_before (map left_of fs) (map left_of gs)
  before_shift [] [] = refl
  before_shift [] (g ∷ gs) = refl
  before_shift (f ∷ fs) [] = refl
  before_shift (f ∷ fs) (g ∷ gs) = rw (same_test f.left g.left, same_order g.left f.left, before_shift fs gs) refl

  pub first_shift : (l m : ℕ) (fs gs : List Frame) → is_first (l + k) (map more_left fs) (m + k) (map more_left gs) ≡ is_first l (map left_of fs) m (map left_of gs)
  first_shift l m fs gs = rw (same_order m l, same_test l m, before_shift fs gs) refl

-- ---- They are told by what was left

-- the same place
one_place : (qs : List ℕ) (c e d l p q : ℕ) → slice_get qs c ≡ Some p → slice_get qs e ≡ Some q → l + c ≡ d → l + e ≡ d → p ≡ q
one_place qs c e d l p q x y a b =
    let same : c ≡ e = omega (arith, a, b) in
    let z : Some p ≡ Some q = sym x ∙ (ap (slice_get qs) same ∙ y) in cc

pub taken_one : (P : Policy) (S : Script) (W p d : ℕ) (K : List Event) (fs gs : List Frame) → AreTaken P S W p d K fs → AreTaken P S W p d K gs
    → map left_of fs ≡ map left_of gs → after P S K fs ≡ after P S K gs
unfolding AreTaken after
taken_one P S W p d K [] [] t u e = refl
taken_one P S W p d K [] (g ∷ gs) t u e = cc
taken_one P S W p d K (f ∷ fs) [] t u e = cc
taken_one P S W p d K (f ∷ fs) (g ∷ gs) t u e =
    let left : f.left ≡ g.left = cc in
    let more : map left_of fs ≡ map left_of gs = cc in
    let place : f.place ≡ g.place = one_place (able P S W K p) t.0 u.0 d f.left f.place g.place t.1 u.1 t.2 (ap (λ (l : ℕ). l + u.0) left ∙ u.2) in
    let v : AreTaken P S W f.place f.left (with_turn P S K f.place) gs =
    subst (λ (q : ℕ). AreTaken P S W q f.left (with_turn P S K q) gs) (sym place) (subst (λ (l : ℕ). AreTaken P S W g.place l (with_turn P S K g.place) gs) (sym left) u.3) in
    taken_one P S W f.place f.left (with_turn P S K f.place) fs gs t.3 v more ∙ ap (λ (q : ℕ). after P S (with_turn P S K q) gs) place
