-- What is told of the ends of all paths is told of the explored histories.
-- By tests: a test that passes for none of those that ended passes for no path, since it adds up.
use Rattle.std.proofs.Common.{◌≡◌, inl, inr, ℕ, ◌+◌, ◌≤◌, Bool, true, false, All, List, [], ◌∷◌, refl, sym, ◌∙◌, subst, arith}
use Rattle.std.specs.Prelude.{count_by, if◌then◌else◌, sum_by}
use Rattle.std.proofs.lemmas.List.Elements.{All-head, All-tail}
use Rattle.hist_model.specs.Legal.{started}
use Rattle.hist_model.specs.declared.policy.Policy.{Policy}
use Rattle.hist_model.specs.declared.script.Script.{Script}
use Rattle.explorer.specs.Levels.{HasEnded, path_of}
use Rattle.explorer.specs.Paths.{Path, paths_of}
use Rattle.explorer.specs.declared.frames.Frame.{Frame}
use Rattle.explorer.specs.declared.state.Bound.{Bound}
use Rattle.explorer.proofs.EndsTell.{Has}
use Rattle.explorer.proofs.PathMember.{path_there}
use Rattle.explorer.proofs.PathsByLeft.{AreWithin, by_left, sum_by_left}
use Rattle.explorer.proofs.PathsExplored.{are_within, has_by_left, has_in}
use Rattle.explorer.proofs.StateCounts.{count_cons}

-- ---- Tests

-- the test passes for none of these
abbrev pub NonePasses : {A : Type 0} → (A → Bool) → List A → Type 0
NonePasses t [] = Unit {0}
NonePasses t (x ∷ xs) = (t x ≡ false) × NonePasses t xs

pub none_counted : {A : Type 0} (t : A → Bool) (xs : List A) → count_by t xs ≡ 0 → NonePasses t xs
none_counted t [] c = tt
none_counted t (x ∷ xs) c = by (none_counted t xs) (t x) refl
  where
    by : (count_by t xs ≡ 0 → NonePasses t xs) → (b : Bool) → t x ≡ b → (t x ≡ false) × NonePasses t xs
    by ih true e = let n : count_by t (x ∷ xs) ≡ 1 + count_by t xs = count_cons t x xs ∙ rw e refl in absurd (omega (arith, n, c))
    by ih false e = let n : count_by t (x ∷ xs) ≡ 0 + count_by t xs = count_cons t x xs ∙ rw e refl in (e, ih (omega (arith, n, c)))

pub count_of_none : {A : Type 0} (t : A → Bool) (xs : List A) → All (λ x. t x ≡ false) xs → count_by t xs ≡ 0
count_of_none t [] a = refl
count_of_none t (x ∷ xs) a =
    let e = All-head (λ y. t y ≡ false) x xs a in
    let n : count_by t (x ∷ xs) ≡ 0 + count_by t xs = count_cons t x xs ∙ rw e refl in
    omega (arith, n, count_of_none t xs (All-tail (λ y. t y ≡ false) x xs a))

within_has : (d : ℕ) (xs : List Path) (x : Path) → AreWithin d xs → Has xs x → x.walk.left ≤ d
within_has d [] x a h = elim h [ ]
within_has d (y ∷ ys) x a (inl e) = subst (λ (z : Path). z.walk.left ≤ d) (sym e) a.0
within_has d (y ∷ ys) x a (inr h) = within_has d ys x a.1 h

-- ---- The paths that ended

module _ (P : Policy) (S : Script) (W : ℕ) (b : Bound) (k : ℕ) (done : List (List Frame)) where
  abbrev D : ℕ
  D = b.most + k

  -- all paths in the order in which their histories are explored
  abbrev pub all_paths : List Path
  all_paths = by_left D D (paths_of P S W D)

  module _ (sums : (h : Path → ℕ) → sum_by h (paths_of P S W D) ≡ sum_by (λ fs. h (path_of P S W b k fs)) done) where
    pub sum_all : (h : Path → ℕ) → sum_by h all_paths ≡ sum_by (λ fs. h (path_of P S W b k fs)) done
    sum_all h = sum_by_left h D (paths_of P S W D) (are_within P S W D) ∙ sums h

    pub count_all : (t : Path → Bool) → count_by t all_paths ≡ count_by (λ fs. t (path_of P S W b k fs)) done
    count_all t = sum_all (λ x. if t x then 1 else 0)

    pub none_of_all : (t : Path → Bool) → All (λ fs. t (path_of P S W b k fs) ≡ false) done → NonePasses t all_paths
    none_of_all t a = none_counted t all_paths (count_all t ∙ count_of_none (λ fs. t (path_of P S W b k fs)) done a)

  -- one that ended is among them
  pub ended_there : (fs : List Frame) → HasEnded P S W b fs → Has all_paths (path_of P S W b k fs)
  ended_there fs h =
      let there : Has (paths_of P S W D) (path_of P S W b k fs) = has_in (paths_of P S W D) (path_of P S W b k fs) (path_there P S W k 0 b.most (started S) fs h.taken h.few h.over) in
      let within = within_has D (paths_of P S W D) (path_of P S W b k fs) (are_within P S W D) there in
      has_by_left D D (paths_of P S W D) (path_of P S W b k fs) (omega arith) there within (omega (arith, within))
