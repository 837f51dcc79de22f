-- The beginning of a walk, and the walks that come after all that begin so.
use Rattle.std.specs.Prelude.{◌≡◌, ℕ, ◌<◌, true, List, [], ◌∷◌, ◌++◌, filter, drop, ⊤}
use Rattle.hist_model.specs.Legal.{started}
use Rattle.hist_model.specs.declared.event.Event.{Event}
use Rattle.hist_model.specs.declared.policy.Policy.{Policy}
use Rattle.hist_model.specs.declared.script.Script.{Script}
use Rattle.delay_bounded.specs.Circle.{at_place, is_able, places, round, with_turn}
use Rattle.delay_bounded.specs.Explored.{Walk, by_delays, later, walks_on}
use Rattle.explorer.specs.declared.frames.Frame.{Frame}

-- of those that are able to step, the places from the q-th on, as their turns come
abbrev pub able_from : Policy → Script → ℕ → List Event → ℕ → ℕ → List ℕ
able_from P S W K p q = filter (λ r. is_able P S K (at_place K r)) (drop q (round p (places W K)))

-- the history with these turns
unfoldable pub after : Policy → Script → List Event → List Frame → List Event
after P S K [] = K
after P S K (f ∷ more) = after P S (with_turn P S K f.place) more

-- the place of the last of these turns
unfoldable pub last_place : ℕ → List Frame → ℕ
last_place p [] = p
last_place p (f ∷ more) = last_place f.place more

-- each of these turns is that of an actor that is able to step
unfoldable pub AreTurns : Policy → Script → ℕ → List Event → List Frame → Type 0
AreTurns P S W K [] = ⊤
AreTurns P S W K (f ∷ more) =
    (f.place < places W K) × (is_able P S K (at_place K f.place) ≡ true) × AreTurns P S W (with_turn P S K f.place) more

-- the walks that begin with some of these turns, and then have a later turn in place of the next one
unfoldable pub pending : Policy → Script → ℕ → List Event → ℕ → List Frame → List Walk
pending P S W K p [] = []
pending P S W K p (f ∷ more) =
    pending P S W (with_turn P S K f.place) f.place more
    ++ later (λ q r. walks_on P S W (with_turn P S K q) q r) (able_from P S W K p f.next) f.left

-- ---- The same of turns from the start on

-- the walks that are pending behind these turns
abbrev pub behind : Policy → Script → ℕ → List Frame → List Walk
behind P S W fs = pending P S W (started S) 0 fs

-- the walks with these turns and so many delays more at most, and those that are pending
abbrev pub left_from : Policy → Script → ℕ → List Frame → ℕ → List Walk
left_from P S W fs d = walks_on P S W (after P S (started S) fs) (last_place 0 fs) d ++ behind P S W fs

-- the walks on from these turns on by a turn of one from the q-th place on, with d delays more at most
abbrev pub later_from : Policy → Script → ℕ → List Frame → ℕ → ℕ → List Walk
later_from P S W fs q d = by_delays (λ p r. walks_on P S W (with_turn P S (after P S (started S) fs) p) p r)
    (able_from P S W (after P S (started S) fs) (last_place 0 fs) q) d
