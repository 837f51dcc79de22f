-- The explored histories are those of the paths within the bound, those with the fewest delays first.
-- By the number of delays, since those with as many are the walks that have the rest of the bound left.
use Rattle.std.proofs.Common.{◌≡◌, ◌⊎◌, inl, inr, ℕ, zero, suc, ◌+◌, ◌-◌, ◌≤◌, Bool, true, false, All, List, [], ◌∷◌, ◌++◌, map, refl, sym, ap, ap₂, ◌∙◌, subst, arith}
use Rattle.std.specs.Prelude.{◌==◌, Contains, if◌then◌else◌}
use Rattle.std.proofs.lemmas.Bool.Decides.{nat_tests}
use Rattle.std.proofs.lemmas.List.{map-append}
use Rattle.std.proofs.lemmas.List.Elements.{All-head, All-tail, Contains-append_cases, Contains-push_cases}
use Rattle.hist_model.specs.Legal.{started}
use Rattle.hist_model.specs.declared.event.Event.{Event}
use Rattle.hist_model.specs.declared.policy.Policy.{Policy}
use Rattle.hist_model.specs.declared.script.Script.{Script}
use Rattle.delay_bounded.specs.Explored.{Walk, explored, walks_of, with_delays, with_left as walks_with_left}
use Rattle.delay_bounded.proofs.Left.{all_within, within_more}
use Rattle.explorer.specs.Paths.{Path, paths_of}
use Rattle.explorer.proofs.EndsTell.{Has, history}
use Rattle.explorer.proofs.PathSteps.{walk_of, walks_of_paths}
use Rattle.explorer.proofs.PathsByLeft.{AreOrdered, AreWithin, by_left, has_left, ordered_by_left, with_left}
use Rattle.explorer.proofs.PathsRise.{paths_rise}

-- ---- What is in a list

pub has_in : (xs : List Path) (x : Path) → Contains xs x → Has xs x
has_in [] x h = absurd (omega (arith, h.1))
has_in (y ∷ ys) x h = by (λ k. has_in ys x k) (Contains-append_cases (y ∷ []) ys x h)
  where
    by : (Contains ys x → Has ys x) → Contains (y ∷ []) x ⊎ Contains ys x → (x ≡ y) ⊎ Has ys x
    by ih (inr k) = inr (ih k)
    by ih (inl k) = one (Contains-push_cases [] y x k)
      where
        one : Contains [] x ⊎ (y ≡ x) → (x ≡ y) ⊎ Has ys x
        one (inl n) = absurd (omega (arith, n.1))
        one (inr e) = inl (sym e)

has_left_of : (xs ys : List Path) (x : Path) → Has xs x → Has (xs ++ ys) x
has_left_of [] ys x h = elim h [ ]
has_left_of (z ∷ xs) ys x (inl e) = inl e
has_left_of (z ∷ xs) ys x (inr h) = inr (has_left_of xs ys x h)

has_right_of : (xs ys : List Path) (x : Path) → Has ys x → Has (xs ++ ys) x
has_right_of [] ys x h = h
has_right_of (z ∷ xs) ys x h = inr (has_right_of xs ys x h)

has_with : (l : ℕ) (xs : List Path) (x : Path) → Has xs x → x.walk.left ≡ l → Has (with_left l xs) x
has_with l [] x h e = elim h [ ]
has_with l (y ∷ ys) x h e = by (λ k. has_with l ys x k e) (has_left l y) refl h
  where
    by : (Has ys x → Has (with_left l ys) x) → (t : Bool) → has_left l y ≡ t → Has (y ∷ ys) x → Has (if has_left l y then y ∷ with_left l ys else with_left l ys) x
    by ih true q (inl s) = rw q (inl s)
    by ih true q (inr k) = rw q (inr (ih k))
    by ih false q (inl s) = let z : (y.walk.left == l) ≡ true = subst (λ (p : Path). (p.walk.left == l) ≡ true) s (grind (arith, nat_tests)) in cc
    by ih false q (inr k) = rw q (ih k)

pub has_by_left : (d e : ℕ) (xs : List Path) (x : Path) → e ≤ d → Has xs x → x.walk.left ≤ d → d ≤ x.walk.left + e → Has (by_left d e xs) x
unfolding by_left
has_by_left d zero xs x l h a b = has_with d xs x h (omega arith)
has_by_left d (suc e) xs x l h a b = by (λ m. has_by_left d e xs x (omega (arith, l)) h a m) (x.walk.left == d - suc e) refl
  where
    by : (d ≤ x.walk.left + e → Has (by_left d e xs) x) → (t : Bool) → (x.walk.left == d - suc e) ≡ t → Has (by_left d e xs ++ with_left (d - suc e) xs) x
    by ih true q = has_right_of (by_left d e xs) (with_left (d - suc e) xs) x (has_with (d - suc e) xs x h (grind (arith, nat_tests)))
    by ih false q = has_left_of (by_left d e xs) (with_left (d - suc e) xs) x (ih (grind (arith, nat_tests)))

-- ---- The explored histories

module _ (P : Policy) (S : Script) (W : ℕ) where
  walks_are : (d : ℕ) → map walk_of (paths_of P S W d) ≡ walks_of P S W d
  walks_are d = walks_of_paths P S W _ (started S) 0 d

  filtered : (l : ℕ) (xs : List Path) → walks_with_left P S l (map walk_of xs) ≡ map (history P S) (with_left l xs)
  filtered l [] = refl
  filtered l (x ∷ xs) = by (filtered l xs) (has_left l x) refl
    where
      by : walks_with_left P S l (map walk_of xs) ≡ map (history P S) (with_left l xs) → (t : Bool) → has_left l x ≡ t → walks_with_left P S l (map walk_of (x ∷ xs)) ≡ map (history P S) (with_left l (x ∷ xs))
      by ih true e = rw e (ap (λ (hs : List (List Event)). history P S x ∷ hs) ih)
      by ih false e = rw e ih

  with_so_many : (d e : ℕ) → e ≤ d → with_delays P S W e ≡ map (history P S) (with_left (d - e) (paths_of P S W d))
  with_so_many d e l =
      let sum : e + (d - e) ≡ d = omega arith in
      within_more P S W e (d - e)
      ∙ (ap (λ (n : ℕ). walks_with_left P S (d - e) (walks_of P S W n)) sum
      ∙ (ap (walks_with_left P S (d - e)) (sym (walks_are d)) ∙ filtered (d - e) (paths_of P S W d)))

  pub explored_is : (d e : ℕ) → e ≤ d → explored P S W e ≡ map (history P S) (by_left d e (paths_of P S W d))
  unfolding explored by_left
  explored_is d zero l = let all : d - 0 ≡ d = omega arith in with_so_many d 0 l ∙ ap (λ (n : ℕ). map (history P S) (with_left n (paths_of P S W d))) all
  explored_is d (suc e) l =
      ap₂ (λ (a b : List (List Event)). a ++ b) (explored_is d e (omega arith)) (with_so_many d (suc e) l)
      ∙ sym (map-append (history P S) (by_left d e (paths_of P S W d)) (with_left (d - suc e) (paths_of P S W d)))

  within_all : (xs : List Path) (d : ℕ) → All (λ (w : Walk). w.left ≤ d) (map walk_of xs) → AreWithin d xs
  within_all [] d a = tt
  within_all (x ∷ xs) d a = (All-head (λ (w : Walk). w.left ≤ d) x.walk (map walk_of xs) a, within_all xs d (All-tail (λ (w : Walk). w.left ≤ d) x.walk (map walk_of xs) a))

  pub are_within : (d : ℕ) → AreWithin d (paths_of P S W d)
  are_within d = within_all (paths_of P S W d) d (rw (walks_are d) (all_within P S W _ (started S) 0 d))

  pub are_ordered : (d : ℕ) → AreOrdered (by_left d d (paths_of P S W d))
  are_ordered d = ordered_by_left d d (paths_of P S W d) (omega arith) (paths_rise P S W _ (started S) 0 d)
