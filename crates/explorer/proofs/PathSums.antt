-- What is added up over the paths of some histories, turn by turn: over those with the first turn, and over those with a later one.
-- By the first turn of each of them.
use Rattle.std.proofs.Common.{◌≡◌, ◌⊎◌, inl, inr, ℕ, suc, ◌+◌, ◌-◌, ◌<◌, ◌≤◌, Bool, true, false, List, [], ◌∷◌, ◌++◌, map, refl, ap, ◌∙◌, arith}
use Rattle.std.specs.Prelude.{All, filter, if◌then◌else◌, nat_le, sum_by}
use Rattle.std.proofs.lemmas.Bool.{leb-true}
use Rattle.std.proofs.lemmas.Bool.Decides.{nat_tests}
use Rattle.std.proofs.lemmas.List.Elements.{All-head, All-tail}
use Rattle.std.proofs.lemmas.List.Sums.{sum_by-append, sum_by-cons}
use Rattle.hist_model.specs.Legal.{started}
use Rattle.hist_model.specs.declared.policy.Policy.{Policy}
use Rattle.hist_model.specs.declared.script.Script.{Script}
use Rattle.explorer.specs.Frames.{after}
use Rattle.explorer.specs.Levels.{lefts_of, left_to, paths_from}
use Rattle.explorer.specs.Paths.{Path, behind_turns}
use Rattle.explorer.specs.declared.frames.Frame.{Frame}
use Rattle.explorer.specs.declared.state.Bound.{Bound}
use Rattle.explorer.proofs.PathSteps.{by_turn, first_rest, paths_later, rest}

module _ (P : Policy) (S : Script) (W : ℕ) (b : Bound) where
  -- with a turn after so many delays more
  abbrev pub longer : ℕ → ℕ → ℕ → List Frame → List Frame
  longer q n c fs = fs ++ record { place = q; next = n; left = left_to P S W b fs - c } ∷ []

  abbrev pub has_left : ℕ → List Frame → Bool
  has_left c fs = nat_le c (left_to P S W b fs)

  -- those that may have a turn after so many delays more
  abbrev pub all_longer : ℕ → ℕ → ℕ → List (List Frame) → List (List Frame)
  all_longer q n c ms = map (longer q n c) (filter (has_left c) ms)

module _ (P : Policy) (S : Script) (W : ℕ) (b : Bound) (k : ℕ) (h : Path → ℕ) where
  -- the paths that go on from a history with a turn at one of some places, the first after so many delays more
  abbrev pub open_at : ℕ → List ℕ → List Frame → List Path
  open_at c qs fs = if has_left P S W b c fs then rest P S W b k fs qs (left_to P S W b fs - c + k) else []

  abbrev pub total : List Frame → ℕ
  total fs = sum_by h (paths_from P S W b k fs)

  abbrev pub open_total : ℕ → List ℕ → List Frame → ℕ
  open_total c qs fs = sum_by h (open_at c qs fs)

  -- no delay is missing: all of them are in what is left, or one more is left
  abbrev pub LacksNone : ℕ → List Frame → Type 0
  LacksNone c fs = (k ≡ 0) ⊎ (c < left_to P S W b fs)

  module _ (fs : List Frame) (c q n : ℕ) (more : List ℕ) where
    abbrev L : ℕ
    L = left_to P S W b fs

    later : List Path
    later = map (behind_turns (lefts_of P S W b k fs)) (paths_later (by_turn P S W (after P S (started S) fs)) more (L - c + k))

    here : nat_le c L ≡ true → open_total c (q ∷ more) fs ≡ total (longer P S W b q n c fs) + sum_by h later
    unfolding later
    here l = rw l (ap (sum_by h) (first_rest P S W b k fs q n (L - c) more) ∙ sum_by-append h (paths_from P S W b k (longer P S W b q n c fs)) later)

    -- one more delay is left
    then-more : c < L → sum_by h later ≡ open_total (c + 1) more fs
    unfolding later
    then-more l =
        let d : L - c + k ≡ suc (L - (c + 1) + k) = omega arith in
        let t : nat_le (c + 1) L ≡ true = grind (arith, nat_tests) in
        rw (d, t) refl

    -- or none is left at all
    then-none : k ≡ 0 → L ≤ c → sum_by h later ≡ open_total (c + 1) more fs
    unfolding later
    then-none z l =
        let d : L - c + k ≡ 0 = omega arith in
        let f : nat_le (c + 1) L ≡ false = grind (arith, nat_tests) in
        rw (d, f) refl

    onward : LacksNone c fs → sum_by h later ≡ open_total (c + 1) more fs
    onward (inr l) = then-more l
    onward (inl z) = by (nat_le (c + 1) L) refl
      where
        by : (t : Bool) → nat_le (c + 1) L ≡ t → sum_by h later ≡ open_total (c + 1) more fs
        by true t = then-more (omega (arith, leb-true (c + 1) L t))
        by false t = then-none z (grind (arith, nat_tests))

    not-here : nat_le c L ≡ false → open_total c (q ∷ more) fs ≡ open_total (c + 1) more fs
    not-here f =
        let g : nat_le (c + 1) L ≡ false = grind (arith, nat_tests) in
        rw (f, g) refl

  -- over all of them
  pub turn_by_turn : (c q n : ℕ) (more : List ℕ) (ms : List (List Frame)) → All (LacksNone c) ms
      → sum_by (open_total c (q ∷ more)) ms ≡ sum_by total (all_longer P S W b q n c ms) + sum_by (open_total (c + 1) more) ms
  turn_by_turn c q n more [] lacks = refl
  turn_by_turn c q n more (fs ∷ ms) lacks = by (turn_by_turn c q n more ms (All-tail (LacksNone c) fs ms lacks)) (has_left P S W b c fs) refl
    where
      by : sum_by (open_total c (q ∷ more)) ms ≡ sum_by total (all_longer P S W b q n c ms) + sum_by (open_total (c + 1) more) ms
          → (t : Bool) → has_left P S W b c fs ≡ t → sum_by (open_total c (q ∷ more)) (fs ∷ ms) ≡ sum_by total (all_longer P S W b q n c (fs ∷ ms)) + sum_by (open_total (c + 1) more) (fs ∷ ms)
      by ih true t =
          let a : sum_by (open_total c (q ∷ more)) (fs ∷ ms) ≡ open_total c (q ∷ more) fs + sum_by (open_total c (q ∷ more)) ms = sum_by-cons (open_total c (q ∷ more)) fs ms in
          let z : sum_by (open_total (c + 1) more) (fs ∷ ms) ≡ open_total (c + 1) more fs + sum_by (open_total (c + 1) more) ms = sum_by-cons (open_total (c + 1) more) fs ms in
          let y : sum_by total (longer P S W b q n c fs ∷ all_longer P S W b q n c ms) ≡ total (longer P S W b q n c fs) + sum_by total (all_longer P S W b q n c ms) = sum_by-cons total (longer P S W b q n c fs) (all_longer P S W b q n c ms) in
          let x : open_total c (q ∷ more) fs ≡ total (longer P S W b q n c fs) + open_total (c + 1) more fs = here fs c q n more t ∙ ap (λ (s : ℕ). total (longer P S W b q n c fs) + s) (onward fs c q n more (All-head (LacksNone c) fs ms lacks)) in
          let l : all_longer P S W b q n c (fs ∷ ms) ≡ longer P S W b q n c fs ∷ all_longer P S W b q n c ms = rw t refl in
          omega (arith, a, x, y, z, ih, ap (sum_by total) l)
      by ih false t =
          let a : sum_by (open_total c (q ∷ more)) (fs ∷ ms) ≡ open_total c (q ∷ more) fs + sum_by (open_total c (q ∷ more)) ms = sum_by-cons (open_total c (q ∷ more)) fs ms in
          let z : sum_by (open_total (c + 1) more) (fs ∷ ms) ≡ open_total (c + 1) more fs + sum_by (open_total (c + 1) more) ms = sum_by-cons (open_total (c + 1) more) fs ms in
          let x : open_total c (q ∷ more) fs ≡ open_total (c + 1) more fs = not-here fs c q n more t in
          let l : all_longer P S W b q n c (fs ∷ ms) ≡ all_longer P S W b q n c ms = rw t refl in
          omega (arith, a, x, z, ih, ap (sum_by total) l)
