-- The histories that are explored: by the sum of their delays, and then by where they delay.
use Rattle.std.specs.Prelude.{ℕ, zero, suc, ◌-◌, ◌^◌, ◌==◌, Bool, true, false, List, [], ◌∷◌, ◌++◌, length, map, filter, Option, Some, None}
use Rattle.hist_model.specs.Legal.{started, with_step}
use Rattle.hist_model.specs.declared.event.Actor.TheVariants.{Listener}
use Rattle.hist_model.specs.declared.event.Event.{Event}
use Rattle.hist_model.specs.declared.policy.Policy.{Policy}
use Rattle.hist_model.specs.declared.script.Script.{Script}
use Rattle.delay_bounded.specs.Circle.{able, with_turn}

-- a history at whose end nobody is able to step, with the delays that it could have had beside its own
pub record Walk : Type 0 where
  pub left : ℕ
  pub events : List Event

-- what comes after the turns of these places, with d delays at most: the first has its turn without a delay,
-- each other one after one delay more
abbrev pub by_delays : (ℕ → ℕ → List Walk) → List ℕ → ℕ → List Walk
by_delays f [] d = []
by_delays f (p ∷ more) zero = f p zero
by_delays f (p ∷ more) (suc d) = f p (suc d) ++ by_delays f more d

-- where nobody is able to step, the history is over; else it goes on
abbrev pub or_over : List ℕ → Walk → List Walk → List Walk
or_over [] over walks = over ∷ []
or_over (p ∷ more) over walks = walks

-- how K goes on with d delays at most, where the actor at place p stepped last; it is cut off after n more steps
unfoldable pub walks : Policy → Script → ℕ → ℕ → List Event → ℕ → ℕ → List Walk
walks P S W zero K p d = record { left = d; events = K } ∷ []
walks P S W (suc n) K p d =
    or_over (able P S W K p) (record { left = d; events = K }) (by_delays (λ q r. walks P S W n (with_turn P S K q) q r) (able P S W K p) d)

-- more events than a machine can count
abbrev pub most_events : ℕ
most_events = 2 ^ 64

-- how a history goes on with d delays at most, where the actor at place p stepped last
abbrev pub walks_on : Policy → Script → ℕ → List Event → ℕ → ℕ → List Walk
walks_on P S W K p d = walks P S W (most_events - length K) K p d

-- what comes after the turns of these places, each after one delay more than the one before it, and the first after one
abbrev pub later : (ℕ → ℕ → List Walk) → List ℕ → ℕ → List Walk
later f ps zero = []
later f ps (suc d) = by_delays f ps d

-- all walks of a script from its start on, where the first task has the turn
abbrev pub walks_of : Policy → Script → ℕ → ℕ → List Walk
walks_of P S W d = walks_on P S W (started S) 0 d

abbrev pub is_zero : ℕ → Bool
is_zero zero = true
is_zero (suc d) = false

-- the walk had all its delays
abbrev pub is_spent : Walk → Bool
is_spent w = is_zero w.left

-- its history, where the listener is closed at the end
abbrev pub closed : Policy → Script → Walk → List Event
closed P S w = with_step P S Listener w.events

-- the histories with exactly d delays
unfoldable pub with_delays : Policy → Script → ℕ → ℕ → List (List Event)
with_delays P S W d = map (closed P S) (filter is_spent (walks_of P S W d))

-- the walk has so many delays left
abbrev pub has_left : ℕ → Walk → Bool
has_left k w = w.left == k

-- the histories of those walks that have so many delays left
abbrev pub with_left : Policy → Script → ℕ → List Walk → List (List Event)
with_left P S k ws = map (closed P S) (filter (has_left k) ws)

-- the explored histories: those with d delays at most, the fewest delays first
unfoldable pub explored : Policy → Script → ℕ → ℕ → List (List Event)
explored P S W zero = with_delays P S W 0
explored P S W (suc d) = explored P S W d ++ with_delays P S W (suc d)

-- more delays than any history has
abbrev pub unbounded : ℕ
unbounded = 2 ^ 130

-- the bound that is meant, or none
abbrev pub bound_of : Option ℕ → ℕ
bound_of (Some d) = d
bound_of None = unbounded
