-- The path whose turns were taken, and after which nobody is able to step, is one of the paths from the start.
-- By induction on its turns: each is one of those that may come there.
use Rattle.std.proofs.Common.{◌≡◌, ◌⊎◌, inl, inr, ℕ, zero, suc, ◌+◌, ◌<◌, ◌≤◌, ◌^◌, List, [], ◌∷◌, length, map, refl, sym, subst, arith}
use Rattle.std.specs.Prelude.{Contains, Some, slice_get}
use Rattle.std.proofs.lemmas.List.Elements.{Contains-append_cases, Contains-append_left, Contains-append_right, Contains-push, Contains-push_cases}
use Rattle.hist_model.specs.declared.event.Event.{Event}
use Rattle.hist_model.specs.declared.policy.Policy.{Policy}
use Rattle.hist_model.specs.declared.script.Script.{Script}
use Rattle.delay_bounded.specs.Circle.{able, with_turn}
use Rattle.explorer.specs.Frames.{after, last_place}
use Rattle.explorer.specs.Paths.{AreTaken, Path, behind_turn, left_after, or_ended, paths_by, paths_on}
use Rattle.explorer.specs.declared.frames.Frame.{Frame}
use Rattle.explorer.proofs.PathSteps.{by_turn, paths_step}

pub in_map : {A B : Type 0} (f : A → B) (xs : List A) (x : A) → Contains xs x → Contains (map f xs) (f x)
in_map f [] x h = absurd (omega (arith, h.1))
in_map {A} {B} f (y ∷ ys) x h = by (λ k. in_map f ys x k) (Contains-append_cases (y ∷ []) ys x h)
  where
    by : (Contains ys x → Contains (map f ys) (f x)) → Contains (y ∷ []) x ⊎ Contains ys x → Contains (f y ∷ map f ys) (f x)
    by ih (inr k) = Contains-append_right (f y ∷ []) (map f ys) (f x) (ih k)
    by ih (inl k) = one (Contains-push_cases [] y x k)
      where
        one : Contains [] x ⊎ (y ≡ x) → Contains (f y ∷ map f ys) (f x)
        one (inl n) = absurd (omega (arith, n.1))
        one (inr same) = subst (λ (z : A). Contains (f y ∷ map f ys) (f z)) same (Contains-append_left (f y ∷ []) (map f ys) (f y) (Contains-push [] (f y)))

-- what begins with the turn at one of the places, after so many delays more
taken_in : (f : ℕ → ℕ → List Path) (qs : List ℕ) (c l q : ℕ) (x : Path) → slice_get qs c ≡ Some q → Contains (f q l) x → Contains (paths_by f qs (l + c)) x
taken_in f [] c l q x at h = absurd cc
taken_in f (p ∷ more) zero zero q x at h = let same : p ≡ q = cc in subst (λ (r : ℕ). Contains (f r 0) x) (sym same) h
taken_in f (p ∷ more) zero (suc l) q x at h =
    let same : p ≡ q = cc in
    let d : suc l + 0 ≡ suc l = omega arith in
    rw d (Contains-append_left (f p (suc l)) (paths_by f more l) x (subst (λ (r : ℕ). Contains (f r (suc l)) x) (sym same) h))
taken_in f (p ∷ more) (suc c) l q x at h =
    let d : l + suc c ≡ suc (l + c) = omega arith in
    rw d (Contains-append_right (f p (suc (l + c))) (paths_by f more (l + c)) x (taken_in f more c l q x at h))

module _ (P : Policy) (S : Script) (W k : ℕ) where
  longer_after : (K : List Event) (fs : List Frame) → length K ≤ length (after P S K fs)
  unfolding after
  longer_after K [] = omega arith
  longer_after K (f ∷ fs) = omega (arith, longer_after (with_turn P S K f.place) fs)

  -- the path from a history on with these turns
  abbrev pub path_from : ℕ → List Event → List Frame → Path
  path_from d K fs = record { lefts = map (λ (f : Frame). f.left + k) fs; walk = record { left = left_after d fs + k; events = after P S K fs } }

  or_some : (qs : List ℕ) (c q : ℕ) (o : Path) (xs : List Path) → slice_get qs c ≡ Some q → or_ended qs o xs ≡ xs
  or_some [] c q o xs at = absurd cc
  or_some (p ∷ more) c q o xs at = refl

  pub path_there : (p d : ℕ) (K : List Event) (fs : List Frame) → AreTaken P S W p d K fs → length (after P S K fs) < 2 ^ 64
      → able P S W (after P S K fs) (last_place p fs) ≡ [] → Contains (paths_on P S W K p (d + k)) (path_from d K fs)
  unfolding AreTaken after last_place left_after
  path_there p d K [] t few none = rw (paths_step P S W K p (d + k) few, none) (Contains-push [] (path_from d K []))
  path_there p d K (f ∷ fs) t few none =
      let next : Path = path_from f.left (with_turn P S K f.place) fs in
      let there : Contains (paths_on P S W (with_turn P S K f.place) f.place (f.left + k)) next = path_there f.place f.left (with_turn P S K f.place) fs t.3 few none in
      let behind : Contains (by_turn P S W K f.place (f.left + k)) (behind_turn (f.left + k) next) = in_map (behind_turn (f.left + k)) _ next there in
      let all : Contains (paths_by (by_turn P S W K) (able P S W K p) (f.left + k + t.0)) (behind_turn (f.left + k) next) =
      taken_in (by_turn P S W K) (able P S W K p) t.0 (f.left + k) f.place (behind_turn (f.left + k) next) t.1 behind in
      let sum : f.left + k + t.0 ≡ d + k = omega (arith, t.2) in
      let short : length K < 2 ^ 64 = omega (arith, few, longer_after (with_turn P S K f.place) fs) in
      rw (paths_step P S W K p (d + k) short, or_some (able P S W K p) t.0 f.place (record { lefts = []; walk = record { left = d + k; events = K } }) (paths_by (by_turn P S W K) (able P S W K p) (d + k)) t.1)
      (subst (λ (n : ℕ). Contains (paths_by (by_turn P S W K) (able P S W K p) n) (behind_turn (f.left + k) next)) sum all)
