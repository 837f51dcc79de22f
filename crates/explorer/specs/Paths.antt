-- The walks of a script with the delays that were left after each of their turns, which tell them apart and put them in order.
use Rattle.std.specs.Prelude.{◌≡◌, ℕ, zero, suc, ◌+◌, ◌-◌, ◌==◌, Bool, true, false, ◌&&◌, ◌||◌, if◌then◌else◌, nat_lt, ⊤}
use Rattle.std.specs.Prelude.{List, [], ◌∷◌, ◌++◌, length, map, slice_get, Some}
use Rattle.hist_model.specs.Legal.{started}
use Rattle.hist_model.specs.declared.event.Event.{Event}
use Rattle.hist_model.specs.declared.policy.Policy.{Policy}
use Rattle.hist_model.specs.declared.script.Script.{Script}
use Rattle.delay_bounded.specs.Circle.{able, with_turn}
use Rattle.delay_bounded.specs.Explored.{Walk, most_events}
use Rattle.explorer.specs.declared.frames.Frame.{Frame}

-- a walk, and how many delays were left after each of its turns, the first turn first
pub record Path : Type 0 where
  pub lefts : List ℕ
  pub walk : Walk

-- the same behind one more turn, after which so many delays were left
abbrev pub behind_turn : ℕ → Path → Path
behind_turn left x = record { lefts = left ∷ x.lefts; walk = x.walk }

abbrev pub behind_turns : List ℕ → Path → Path
behind_turns lefts x = record { lefts = lefts ++ x.lefts; walk = x.walk }

-- ---- All of them: as `walks`, with what was left

abbrev pub paths_by : (ℕ → ℕ → List Path) → List ℕ → ℕ → List Path
paths_by f [] d = []
paths_by f (p ∷ more) zero = f p zero
paths_by f (p ∷ more) (suc d) = f p (suc d) ++ paths_by f more d

abbrev pub or_ended : List ℕ → Path → List Path → List Path
or_ended [] over paths = over ∷ []
or_ended (p ∷ more) over paths = paths

unfoldable pub paths : Policy → Script → ℕ → ℕ → List Event → ℕ → ℕ → List Path
paths P S W zero K p d = record { lefts = []; walk = record { left = d; events = K } } ∷ []
paths P S W (suc n) K p d =
    or_ended (able P S W K p) (record { lefts = []; walk = record { left = d; events = K } })
    (paths_by (λ q r. map (behind_turn r) (paths P S W n (with_turn P S K q) q r)) (able P S W K p) d)

-- how a history goes on with d delays at most, where the actor at place p stepped last
abbrev pub paths_on : Policy → Script → ℕ → List Event → ℕ → ℕ → List Path
paths_on P S W K p d = paths P S W (most_events - length K) K p d

-- from the start of a script on
abbrev pub paths_of : Policy → Script → ℕ → ℕ → List Path
paths_of P S W d = paths_on P S W (started S) 0 d

-- ---- In which order

-- what was left after the turns of the first comes before: where they differ, more was left; or there are fewer turns
abbrev pub is_before : List ℕ → List ℕ → Bool
is_before [] [] = false
is_before [] (y ∷ ys) = true
is_before (x ∷ xs) [] = false
is_before (x ∷ xs) (y ∷ ys) = if x == y then is_before xs ys else nat_lt y x

-- with so much left in the end the first comes before the second: it had fewer delays, or as many, and it is before
abbrev pub is_first : ℕ → List ℕ → ℕ → List ℕ → Bool
is_first left lefts other others = nat_lt other left || (left == other && is_before lefts others)

abbrev pub comes_first : Path → Path → Bool
comes_first x y = is_first x.walk.left x.lefts y.walk.left y.lefts

-- ---- Of turns that were taken

abbrev pub left_of : Frame → ℕ
left_of f = f.left

-- how many delays are left after these turns, of so many at first
unfoldable pub left_after : ℕ → List Frame → ℕ
left_after d [] = d
left_after d (f ∷ more) = left_after f.left more

-- each of these turns is that of an actor that is able to step, after one delay more for each that was passed over
unfoldable pub AreTaken : Policy → Script → ℕ → ℕ → ℕ → List Event → List Frame → Type 0
AreTaken P S W p d K [] = ⊤
AreTaken P S W p d K (f ∷ more) =
    (c : ℕ) × (slice_get (able P S W K p) c ≡ Some f.place) × (f.left + c ≡ d)
    × AreTaken P S W f.place f.left (with_turn P S K f.place) more
