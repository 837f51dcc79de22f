-- The paths from a history on begin with a turn of each that is able to step; without what was left they are the walks.
-- By induction on the steps that are left, and on the places of those that are able.
use Rattle.std.proofs.Common.{◌≡◌, ℕ, zero, suc, ◌+◌, ◌-◌, ◌<◌, ◌^◌, List, [], ◌∷◌, ◌++◌, length, map, refl, sym, ap, ap₂, ◌∙◌, arith, append-nil, append_assoc}
use Rattle.std.specs.Prelude.{Some, slice_get}
use Rattle.std.proofs.lemmas.List.{map-append}
use Rattle.hist_model.specs.Legal.{started}
use Rattle.hist_model.specs.declared.event.Event.{Event}
use Rattle.hist_model.specs.declared.policy.Policy.{Policy}
use Rattle.hist_model.specs.declared.script.Script.{Script}
use Rattle.delay_bounded.specs.Circle.{able, with_turn}
use Rattle.delay_bounded.specs.Explored.{Walk, by_delays, most_events, or_over, walks}
use Rattle.explorer.specs.Frames.{after, last_place}
use Rattle.explorer.specs.Levels.{lefts_of, left_to, path_of, paths_from}
use Rattle.explorer.specs.Paths.{AreTaken, Path, behind_turn, behind_turns, left_after, or_ended, paths, paths_by, paths_on}
use Rattle.explorer.specs.declared.frames.Frame.{Frame}
use Rattle.explorer.specs.declared.state.Bound.{Bound}
use Rattle.explorer.proofs.Pending.{after_more, last_more}

-- ---- The walks

abbrev pub walk_of : Path → Walk
walk_of x = x.walk

module _ (f : ℕ → ℕ → List Path) (g : ℕ → ℕ → List Walk) (same : (q r : ℕ) → map walk_of (f q r) ≡ g q r) where
  walks_by : (qs : List ℕ) (d : ℕ) → map walk_of (paths_by f qs d) ≡ by_delays g qs d
  walks_by [] d = refl
  walks_by (q ∷ more) zero = same q zero
  walks_by (q ∷ more) (suc d) =
      map-append walk_of (f q (suc d)) (paths_by f more d) ∙ ap₂ (λ (a b : List Walk). a ++ b) (same q (suc d)) (walks_by more d)

  or_walks : (qs : List ℕ) (o : Path) (d : ℕ) → map walk_of (or_ended qs o (paths_by f qs d)) ≡ or_over qs o.walk (by_delays g qs d)
  or_walks [] o d = refl
  or_walks (q ∷ more) o d = walks_by (q ∷ more) d

behind_walks : (l : ℕ) (xs : List Path) → map walk_of (map (behind_turn l) xs) ≡ map walk_of xs
behind_walks l [] = refl
behind_walks l (x ∷ xs) = ap (λ (ws : List Walk). x.walk ∷ ws) (behind_walks l xs)

pub walks_of_paths : (P : Policy) (S : Script) (W n : ℕ) (K : List Event) (p d : ℕ) → map walk_of (paths P S W n K p d) ≡ walks P S W n K p d
unfolding paths walks
walks_of_paths P S W zero K p d = refl
walks_of_paths P S W (suc n) K p d =
    or_walks (λ q r. map (behind_turn r) (paths P S W n (with_turn P S K q) q r)) (λ q r. walks P S W n (with_turn P S K q) q r)
    (λ q r. behind_walks r (paths P S W n (with_turn P S K q) q r) ∙ walks_of_paths P S W n (with_turn P S K q) q r)
    (able P S W K p) (record { lefts = []; walk = record { left = d; events = K } }) d

-- ---- The first turn, and those after it

abbrev pub paths_later : (ℕ → ℕ → List Path) → List ℕ → ℕ → List Path
paths_later f qs zero = []
paths_later f qs (suc d) = paths_by f qs d

pub first_path : (f : ℕ → ℕ → List Path) (q : ℕ) (more : List ℕ) (d : ℕ) → paths_by f (q ∷ more) d ≡ f q d ++ paths_later f more d
first_path f q more zero = sym (append-nil (f q zero))
first_path f q more (suc d) = refl

abbrev with_lefts : Walk → List ℕ → Path
with_lefts w ls = record { lefts = ls; walk = w }

pub behind_both : (ls : List ℕ) (r : ℕ) (xs : List Path) → map (behind_turns (ls ++ r ∷ [])) xs ≡ map (behind_turns ls) (map (behind_turn r) xs)
behind_both ls r [] = refl
behind_both ls r (x ∷ xs) =
    ap₂ (λ (l : List ℕ) (ys : List Path). with_lefts x.walk l ∷ ys) (append_assoc ls (r ∷ []) x.lefts) (behind_both ls r xs)

pub left_more : (d : ℕ) (fs : List Frame) (f : Frame) → left_after d (fs ++ f ∷ []) ≡ f.left
unfolding left_after
left_more d [] f = refl
left_more d (g ∷ fs) f = left_more g.left fs f

-- one more turn, of an actor that is able to step, after so many delays more
pub taken_more : (P : Policy) (S : Script) (W p d : ℕ) (K : List Event) (fs : List Frame) (f : Frame) (c : ℕ) → AreTaken P S W p d K fs
    → slice_get (able P S W (after P S K fs) (last_place p fs)) c ≡ Some f.place → f.left + c ≡ left_after d fs → AreTaken P S W p d K (fs ++ f ∷ [])
unfolding AreTaken after last_place left_after
taken_more P S W p d K [] f c t at l = (c, at, l, tt)
taken_more P S W p d K (g ∷ fs) f c t at l = (t.0, t.1, t.2, taken_more P S W g.place g.left (with_turn P S K g.place) fs f c t.3 at l)

module _ (P : Policy) (S : Script) (W : ℕ) where
  -- the paths after the turn of an actor
  abbrev pub by_turn : List Event → ℕ → ℕ → List Path
  by_turn K q r = map (behind_turn r) (paths_on P S W (with_turn P S K q) q r)

  pub paths_step : (K : List Event) (p d : ℕ) → length K < 2 ^ 64 → paths_on P S W K p d
      ≡ or_ended (able P S W K p) (record { lefts = []; walk = record { left = d; events = K } }) (paths_by (by_turn K) (able P S W K p) d)
  unfolding paths
  paths_step K p d few = let more : most_events - length K ≡ suc (most_events - suc (length K)) = omega arith in rw more refl

  module _ (b : Bound) (k : ℕ) (fs : List Frame) where
    abbrev K : List Event
    K = after P S (started S) fs

    abbrev ls : List ℕ
    ls = lefts_of P S W b k fs

    -- the paths that go on from these turns with a turn at one of some places, the first with d delays left
    abbrev pub rest : List ℕ → ℕ → List Path
    rest qs d = map (behind_turns ls) (paths_by (by_turn K) qs d)

    pub turned : (q n l : ℕ) → map (behind_turns ls) (by_turn K q (l + k)) ≡ paths_from P S W b k (fs ++ record { place = q; next = n; left = l } ∷ [])
    turned q n l =
        let g : Frame = record { place = q; next = n; left = l } in
        rw (after_more P S W (started S) fs g, last_more P S W 0 fs g, left_more b.most fs g, map-append (λ (f : Frame). f.left + k) fs (g ∷ []))
        (sym (behind_both ls (l + k) (paths_on P S W (with_turn P S K q) q (l + k))))

    pub ends : length K < 2 ^ 64 → able P S W K (last_place 0 fs) ≡ [] → paths_from P S W b k fs ≡ path_of P S W b k fs ∷ []
    ends few e =
        rw (paths_step K (last_place 0 fs) (left_to P S W b fs + k) few, e)
        (ap (λ (l : List ℕ). with_lefts (record { left = left_to P S W b fs + k; events = K }) l ∷ []) (append-nil ls))

    pub goes_on : length K < 2 ^ 64 → (q : ℕ) (more : List ℕ) → able P S W K (last_place 0 fs) ≡ q ∷ more → paths_from P S W b k fs ≡ rest (q ∷ more) (left_to P S W b fs + k)
    goes_on few q more e = rw (paths_step K (last_place 0 fs) (left_to P S W b fs + k) few, e) refl

    pub first_rest : (q n l : ℕ) (more : List ℕ) → rest (q ∷ more) (l + k)
        ≡ paths_from P S W b k (fs ++ record { place = q; next = n; left = l } ∷ []) ++ map (behind_turns ls) (paths_later (by_turn K) more (l + k))
    first_rest q n l more =
        ap (map (behind_turns ls)) (first_path (by_turn K) q more (l + k))
        ∙ (map-append (behind_turns ls) (by_turn K q (l + k)) (paths_later (by_turn K) more (l + k))
        ∙ ap (λ (xs : List Path). xs ++ map (behind_turns ls) (paths_later (by_turn K) more (l + k))) (turned q n l))
