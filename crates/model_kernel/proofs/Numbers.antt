-- How many tasks there are after one more event.
-- By the count of the events that make one.
use Rattle.std.proofs.Common.{◌≡◌, ◌+◌, ◌<◌, ◌≤◌, ◌^◌, ℕ, Bool, true, false, if◌then◌else◌, List, [], ◌∷◌, ap, arith, Ok, Err}
use Rattle.std.proofs.lemmas.List.{length-map}
use Rattle.hist_model.specs.Kinds.{makes}
use Rattle.hist_model.specs.Legal.{started}
use Rattle.hist_model.specs.declared.event.SpawnKind.TheVariants.{New, Copied, Shared}
use Rattle.history_frames.specs.Ordinals.{count_of, groups_made, makes_group, tasks_made}
use Rattle.tasks.specs.Stands.{HasRoom, StandsFor}
use Rattle.tasks.specs.Table.{member}
use Rattle.tasks.proofs.Told.{made-is}
use Rattle.model_kernel.proofs.Words.{Event, Script, Spawn, Tasks, What}

-- an event that makes none leaves their number
pub same-number : (e : Event) (K : List Event) → makes e.what ≡ false → tasks_made (e ∷ K) ≡ tasks_made K
unfolding count_of
same-number e K h = let none = ap {B = ℕ} (λ b. if b then 1 else 0) h in omega (arith, none)

-- one event makes at most one
pub one-number : (e : Event) (K : List Event) → tasks_made K + 1 < 2 ^ 32 → tasks_made (e ∷ K) < 2 ^ 32
unfolding count_of
one-number e K h = by (makes e.what)
  where
    by : (b : Bool) → count_of makes K + (if b then 1 else 0) < 2 ^ 32
    by true = h
    by false = omega (arith, h)

-- a task with room for a child leaves one more number
pub room-number : (S : Script) (K : List Event) (T : Tasks) (o : ℕ) → StandsFor S K T → HasRoom T o → tasks_made K + 1 < 2 ^ 32
room-number S K T o s h = omega (arith, made-is S K T s, h.ordinal, length-map T.tasks.items member, T.tasks.ok.0)

-- a script's start makes one
pub start-number : (S : Script) → tasks_made (started S) < 2 ^ 32
unfolding count_of
start-number S = omega arith

-- there are no more groups than tasks
pub groups-few : (K : List Event) → groups_made K ≤ tasks_made K
unfolding count_of
groups-few [] = omega arith
groups-few (e ∷ K) = by e.what (groups-few K)
  where
    by : (w : What) → count_of makes_group K ≤ count_of makes K → count_of makes_group K + (if makes_group w then 1 else 0) ≤ count_of makes K + (if makes w then 1 else 0)
    by (Spawn n (Ok (pid, New))) h = omega (arith, h)
    by (Spawn n (Ok (pid, Copied))) h = omega (arith, h)
    by (Spawn n (Ok (pid, Shared))) h = omega (arith, h)
    by (Spawn n (Err x)) h = omega (arith, h)
    by w h = omega (arith, h)
