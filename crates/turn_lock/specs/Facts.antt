-- What contracts see of a lock and of a pass.
use Rattle.std.specs.Prelude.{◌≡◌, ℕ, ◌+◌, ◌-◌, ◌≤◌, Bool, true, false, List, [], ◌++◌, length}
use Rattle.atomic_table.specs.Seated.{TableId}
use Rattle.hist_model.specs.declared.event.Event.{Event}
use Rattle.hist_model.specs.declared.history.Setup.{Setup}
use Rattle.turn_lock.specs.Lists.{Begins, longer, shorter, times, OnceFrom}

-- the lock itself, the policy, script and limit of the state that it was made with, and that state's history
pub record LockFacts : Type 0 where
  pub id : TableId
  pub setup : Setup
  pub opening : List Event

-- The lock that made the pass, and that lock's policy, script and limit; whether it is the first pass, and how many other passes are out;
-- all that it has seen, the newest first, and the places of the events that its own turns appended
pub record PassFacts : Type 0 where
  pub lock : TableId
  pub setup : Setup
  pub first : Bool
  pub out : ℕ
  pub seen : List Event
  pub places : List ℕ

-- the pass was made by this lock
abbrev pub IsPassOf : LockFacts → PassFacts → Type 0
IsPassOf l p = (p.lock ≡ l.id) × (p.setup ≡ l.setup)

-- it is the first pass, and none is out
abbrev pub IsAlone : PassFacts → Type 0
IsAlone p = (p.first ≡ true) × (p.out ≡ 0)

-- the first pass of a new lock
abbrev pub first_pass : LockFacts → PassFacts
first_pass l = record { lock = l.id; setup = l.setup; first = true; out = 0; seen = l.opening; places = [] }

-- the first pass, and the one that was split from it
abbrev pub split_from : PassFacts → PassFacts
split_from p = record p { out = p.out + 1 }

abbrev pub split_off : PassFacts → PassFacts
split_off p = record p { first = false; out = 0; places = [] }

-- the first pass, once another was joined to it: the longer history, and the places of both
abbrev pub joined_with : PassFacts → PassFacts → PassFacts
joined_with p q = record p { out = p.out - 1; seen = longer p.seen q.seen; places = p.places ++ q.places }

-- the longer history begins with the shorter, and no place stands twice
abbrev pub Joined : PassFacts → PassFacts → PassFacts → Type 0
Joined p q r =
    (r ≡ joined_with p q) × Begins (longer p.seen q.seen) (shorter p.seen q.seen) × ((n : ℕ) → times n (p.places ++ q.places) ≤ 1)

-- every event since the opening stands at one place of the pass
abbrev pub OwnsAll : LockFacts → PassFacts → Type 0
OwnsAll l p = (n : ℕ) → OnceFrom (length l.opening) (length p.seen) n (times n p.places)
