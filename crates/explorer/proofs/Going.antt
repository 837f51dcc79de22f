-- What is added up over the paths of a state's histories, before the first turn, and behind the last one that may come.
-- By the turns of each history, which are at the same places for all.
use Rattle.std.proofs.Common.{◌≡◌, ℕ, zero, suc, ◌+◌, ◌-◌, ◌<◌, ◌^◌, Bool, true, false, List, [], ◌∷◌, ◌++◌, length, refl, sym, ap, ◌∙◌, arith}
use Rattle.std.specs.Prelude.{All, get_or, if◌then◌else◌, set, sum_by}
use Rattle.std.specs.List.{flat_map}
use Rattle.std.proofs.lemmas.Bool.Decides.{nat_tests}
use Rattle.std.proofs.lemmas.List.Elements.{All-head, All-tail}
use Rattle.std.proofs.lemmas.List.Sums.{sum_by-append, sum_by-cons}
use Rattle.hist_model.specs.declared.policy.Policy.{Policy}
use Rattle.hist_model.specs.declared.script.Script.{Script}
use Rattle.delay_bounded.specs.Circle.{able}
use Rattle.explorer.specs.Frames.{last_place}
use Rattle.explorer.specs.Levels.{events_of, left_to, path_of}
use Rattle.explorer.specs.Paths.{Path}
use Rattle.explorer.specs.declared.frames.Frame.{Frame}
use Rattle.explorer.specs.declared.state.Bound.{Bound}
use Rattle.explorer.proofs.PathSteps.{ends, goes_on}
use Rattle.explorer.proofs.PathSums.{has_left, open_total, total}

-- ---- Over all groups

abbrev pub all_of : {A : Type 0} → List (List A) → List A
all_of groups = flat_map (λ ms. ms) groups

module _ {A : Type 0} (g : A → ℕ) where
  -- more in one of the groups
  pub more_in_one : (groups : List (List A)) (i : ℕ) (more : List A) → i < length groups
      → sum_by g (all_of (set groups i (get_or groups i [] ++ more))) ≡ sum_by g (all_of groups) + sum_by g more
  more_in_one [] i more l = absurd (omega arith)
  more_in_one (ms ∷ groups) zero more l =
      let a : sum_by g ((ms ++ more) ++ all_of groups) ≡ sum_by g (ms ++ more) + sum_by g (all_of groups) = sum_by-append g (ms ++ more) (all_of groups) in
      let z : sum_by g (ms ++ all_of groups) ≡ sum_by g ms + sum_by g (all_of groups) = sum_by-append g ms (all_of groups) in
      omega (arith, a, z, sum_by-append g ms more)
  more_in_one (ms ∷ groups) (suc i) more l =
      let now : List (List A) = set groups i (get_or groups i [] ++ more) in
      let a : sum_by g (ms ++ all_of now) ≡ sum_by g ms + sum_by g (all_of now) = sum_by-append g ms (all_of now) in
      let z : sum_by g (ms ++ all_of groups) ≡ sum_by g ms + sum_by g (all_of groups) = sum_by-append g ms (all_of groups) in
      omega (arith, a, z, more_in_one groups i more (omega arith))

  -- or a group more
  pub one_group_more : (groups : List (List A)) (more : List A) → sum_by g (all_of (groups ++ more ∷ [])) ≡ sum_by g (all_of groups) + sum_by g more
  one_group_more [] more =
      let a : sum_by g (more ++ []) ≡ sum_by g more + sum_by g [] = sum_by-append g more [] in
      omega (arith, a)
  one_group_more (ms ∷ groups) more =
      let a : sum_by g (ms ++ all_of (groups ++ more ∷ [])) ≡ sum_by g ms + sum_by g (all_of (groups ++ more ∷ [])) = sum_by-append g ms (all_of (groups ++ more ∷ [])) in
      let z : sum_by g (ms ++ all_of groups) ≡ sum_by g ms + sum_by g (all_of groups) = sum_by-append g ms (all_of groups) in
      omega (arith, a, z, one_group_more groups more)

-- ---- Of one state

module _ (P : Policy) (S : Script) (W : ℕ) (b : Bound) (k : ℕ) (h : Path → ℕ) where
  -- the same places are able after each, and each can be counted
  abbrev pub HasAble : List ℕ → List Frame → Type 0
  HasAble qs fs = (able P S W (events_of P S W b fs) (last_place 0 fs) ≡ qs) × (length (events_of P S W b fs) < 2 ^ 64)

  -- nothing of a state that goes on was gone on from yet
  pub none_turned : (q : ℕ) (more : List ℕ) (ms : List (List Frame)) → All (HasAble (q ∷ more)) ms
      → sum_by (open_total P S W b k h 0 (q ∷ more)) ms ≡ sum_by (total P S W b k h) ms
  none_turned q more [] a = refl
  none_turned q more (fs ∷ ms) a =
      let one = All-head (HasAble (q ∷ more)) fs ms a in
      let t : has_left P S W b 0 fs ≡ true = grind (arith, nat_tests) in
      let n : left_to P S W b fs - 0 ≡ left_to P S W b fs = omega arith in
      let here : open_total P S W b k h 0 (q ∷ more) fs ≡ total P S W b k h fs = rw (t, n) (sym (ap (sum_by h) (goes_on P S W b k fs one.1 q more one.0))) in
      let x : sum_by (open_total P S W b k h 0 (q ∷ more)) (fs ∷ ms) ≡ open_total P S W b k h 0 (q ∷ more) fs + sum_by (open_total P S W b k h 0 (q ∷ more)) ms =
      sum_by-cons (open_total P S W b k h 0 (q ∷ more)) fs ms in
      let y : sum_by (total P S W b k h) (fs ∷ ms) ≡ total P S W b k h fs + sum_by (total P S W b k h) ms = sum_by-cons (total P S W b k h) fs ms in
      omega (arith, here, x, y, none_turned q more ms (All-tail (HasAble (q ∷ more)) fs ms a))

  -- nobody is able to step any more
  pub all_turned : (c : ℕ) (ms : List (List Frame)) → sum_by (open_total P S W b k h c []) ms ≡ 0
  all_turned c [] = refl
  all_turned c (fs ∷ ms) =
      let here : open_total P S W b k h c [] fs ≡ 0 = by (has_left P S W b c fs) in
      let x : sum_by (open_total P S W b k h c []) (fs ∷ ms) ≡ open_total P S W b k h c [] fs + sum_by (open_total P S W b k h c []) ms = sum_by-cons (open_total P S W b k h c []) fs ms in
      omega (arith, here, x, all_turned c ms)
    where
      by : (t : Bool) → sum_by h (if t then [] else []) ≡ 0
      by true = refl
      by false = refl

  -- or no delay is left
  pub none_left : (c : ℕ) (qs : List ℕ) (ms : List (List Frame)) → All (λ fs. left_to P S W b fs < c) ms → sum_by (open_total P S W b k h c qs) ms ≡ 0
  none_left c qs [] a = refl
  none_left c qs (fs ∷ ms) a =
      let less = All-head (λ gs. left_to P S W b gs < c) fs ms a in
      let t : has_left P S W b c fs ≡ false = grind (arith, nat_tests, less) in
      let here : open_total P S W b k h c qs fs ≡ 0 = rw t refl in
      let x : sum_by (open_total P S W b k h c qs) (fs ∷ ms) ≡ open_total P S W b k h c qs fs + sum_by (open_total P S W b k h c qs) ms = sum_by-cons (open_total P S W b k h c qs) fs ms in
      omega (arith, here, x, none_left c qs ms (All-tail (λ gs. left_to P S W b gs < c) fs ms a))

  -- the paths of those that end are those that end there
  pub all_ended : (ms : List (List Frame)) → All (HasAble []) ms → sum_by (total P S W b k h) ms ≡ sum_by (λ fs. h (path_of P S W b k fs)) ms
  all_ended [] a = refl
  all_ended (fs ∷ ms) a =
      let one = All-head (HasAble []) fs ms a in
      let here : total P S W b k h fs ≡ h (path_of P S W b k fs) + 0 = ap (sum_by h) (ends P S W b k fs one.1 one.0) ∙ sum_by-cons h (path_of P S W b k fs) [] in
      let x : sum_by (total P S W b k h) (fs ∷ ms) ≡ total P S W b k h fs + sum_by (total P S W b k h) ms = sum_by-cons (total P S W b k h) fs ms in
      let y : sum_by (λ gs. h (path_of P S W b k gs)) (fs ∷ ms) ≡ h (path_of P S W b k fs) + sum_by (λ gs. h (path_of P S W b k gs)) ms = sum_by-cons (λ gs. h (path_of P S W b k gs)) fs ms in
      omega (arith, here, x, y, all_ended ms (All-tail (HasAble []) fs ms a))
