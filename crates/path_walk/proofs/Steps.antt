-- One component of a walk.
-- By cases on how many links may still be followed, and by `walk_step` with each turn of the component.
use Rattle.std.proofs.Common.{◌≡◌, ℕ, zero, suc, ◌-◌, ◌<◌, Bool, true, false, List, [], ◌∷◌, ◌++◌, refl, sym, ap, ◌∙◌, arith}
use Rattle.std.specs.Prelude.{◌&&◌, ◌||◌, not, if◌then◌else◌, Option, Some, length}
use Rattle.std.proofs.lemmas.List.{append-nil}
use Rattle.hist_model.specs.Trees.{Tree}
use Rattle.hist_model.specs.Paths.{Last, Place, Refused, Turn, Ends, Goes, Follows, components, none_left, creates, is_absolute, turn, turned, arrived, link_start, looped, walk_parts, walk, reaches}
use Rattle.sys_abi.specs.Errnos.{eloop}

-- what a link leads to while at most so many are still followed
follow : ℕ → Tree → ℕ → Last → ℕ → List (List ℕ) → Place
follow zero T root last = looped
follow (suc k) T root last = walk k T root last

walk_step : (k : ℕ) (T : Tree) (root : ℕ) (last : Last) (n : ℕ) (c : List ℕ) (cs : List (List ℕ))
    → walk k T root last n (c ∷ cs) ≡ turned (follow k T root last) (λ m. walk k T root last m cs) root n cs (turn T root (creates last && none_left cs) n c)
unfolding walk walk_parts follow
walk_step zero T root last n c cs = refl
walk_step (suc k) T root last n c cs = refl

pub walk_end : (k : ℕ) (T : Tree) (root : ℕ) (last : Last) (n : ℕ) → walk k T root last n [] ≡ arrived last n
unfolding walk walk_parts
walk_end zero T root last n = refl
walk_end (suc k) T root last n = refl

left_after : (xs cs : List (List ℕ)) → none_left (xs ++ cs) ≡ (none_left xs && none_left cs)
left_after [] cs = refl
left_after (x ∷ xs) cs = refl

none_of_both : (m x : Bool) → (x && not m) ≡ not (m || not x)
none_of_both true true = refl
none_of_both true false = refl
none_of_both false true = refl
none_of_both false false = refl

-- whether components come after the rest of a text
pub more_after : (more more' : Bool) (xs cs : List (List ℕ)) → more' ≡ (more || not (none_left xs)) → none_left cs ≡ not more → none_left (xs ++ cs) ≡ not more'
more_after more more' xs cs m h = rw (left_after, h, m) (none_of_both more (none_left xs))

followed : (k : ℕ) (T : Tree) (root : ℕ) (last : Last) (m : ℕ) (cs : List (List ℕ)) → 0 < k → follow k T root last m cs ≡ walk (k - 1) T root last m cs
unfolding follow
followed zero T root last m cs h = absurd (omega arith)
followed (suc k) T root last m cs h = let e : suc k - 1 ≡ k = omega arith in rw e

not_followed : (k : ℕ) (T : Tree) (root : ℕ) (last : Last) (m : ℕ) (cs : List (List ℕ)) → k ≡ 0 → follow k T root last m cs ≡ Refused eloop
unfolding follow
not_followed zero T root last m cs h = refl
not_followed (suc k) T root last m cs h = absurd (omega arith)

-- the first component `c` of a text, with the rest of the text and the components `cs` after it
module _ (T : Tree) (root : ℕ) (last : Last) (k n : ℕ) (text rest c : List ℕ) (cs : List (List ℕ)) (more more' names : Bool) (split : components text ≡ c ∷ components rest) (m : more' ≡ (more || not (none_left (components rest)))) (named : names ≡ (creates last && not more')) (h : none_left cs ≡ not more) where
  taken : (t : Turn) → turn T root names n c ≡ t
      → walk k T root last n (components text ++ cs)
      ≡ turned (follow k T root last) (λ m. walk k T root last m (components rest ++ cs)) root n (components rest ++ cs) t
  taken t e =
      let s : walk k T root last n (components text ++ cs)
      ≡ turned (follow k T root last) (λ m. walk k T root last m (components rest ++ cs)) root n (components rest ++ cs) (turn T root (creates last && none_left (components rest ++ cs)) n c)
      = ap (λ (xs : List (List ℕ)). walk k T root last n (xs ++ cs)) split ∙ walk_step k T root last n c (components rest ++ cs) in
      let q : (creates last && none_left (components rest ++ cs)) ≡ names = ap (λ (b : Bool). creates last && b) (more_after more more' (components rest) cs m h) ∙ sym named in
      rw (q, e) at s

  pub step_ends : (p : Place) → turn T root names n c ≡ Ends p → walk k T root last n (components text ++ cs) ≡ p
  step_ends p e = taken (Ends p) e

  pub step_goes : (m : ℕ) → turn T root names n c ≡ Goes m → walk k T root last n (components text ++ cs) ≡ walk k T root last m (components rest ++ cs)
  step_goes m e = taken (Goes m) e

  pub step_loops : (target : List ℕ) → turn T root names n c ≡ Follows target → k ≡ 0 → walk k T root last n (components text ++ cs) ≡ Refused eloop
  step_loops target e z = taken (Follows target) e ∙ not_followed k T root last _ _ z

  pub step_follows : (target : List ℕ) (from : ℕ) (p : Place) → turn T root names n c ≡ Follows target → 0 < k → from ≡ link_start root n target
      → walk (k - 1) T root last from (components target ++ (components rest ++ cs)) ≡ p → walk k T root last n (components text ++ cs) ≡ p
  step_follows target from p e l f q =
      taken (Follows target) e ∙ followed k T root last _ _ l
      ∙ ap (λ (m : ℕ). walk (k - 1) T root last m (components target ++ (components rest ++ cs))) (sym f) ∙ q

-- a path that isn't empty leads where its components do
pub reaches_from : (T : Tree) (root : ℕ) (base : Option ℕ) (path : List ℕ) (last : Last) (n : ℕ) (p : Place) → 0 < length path
    → (if is_absolute path then Some root else base) ≡ Some n → walk 40 T root last n (components path ++ []) ≡ p → p ≡ reaches T root base path last
reaches_from T root base [] last n p h e q = absurd (omega arith)
reaches_from T root base (b ∷ bs) last n p h e q = rw e (sym q ∙ ap (walk 40 T root last n) (append-nil (components (b ∷ bs))))
