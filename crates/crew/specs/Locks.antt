-- States behind locks, and the passes that threads have of these.
use Rattle.std.specs.Prelude.{◌≡◌, ◌<◌, ℕ, true, List, map, Option}
use Rattle.std.specs.List.{AllZip}
use Rattle.atomic_table.specs.Seated.{TableId}
use Rattle.crew.specs.Duties.{MayServe}
use Rattle.hist_model.specs.Histories.{Seen}
use Rattle.hist_model.specs.declared.event.Event.{Event}
use Rattle.hist_model.specs.declared.history.Setup.{Setup}
use Rattle.turn_lock.specs.Facts.{LockFacts, PassFacts}
use Rattle.turn_lock.specs.Lists.{Begins}

-- which lock it is, and what was put behind it
abbrev pub Key : Type 0
Key = TableId × Setup

abbrev pub key : LockFacts → Key
key l = (l.id, l.setup)

abbrev pub key_of_pass : PassFacts → Key
key_of_pass p = (p.lock, p.setup)

-- the passes are those of the locks, one of each, in order
abbrev pub AreOf : List LockFacts → List PassFacts → Type 0
AreOf ls ps = map key_of_pass ps ≡ map key ls

-- what was put behind a lock
abbrev pub setup_of : LockFacts → Setup
setup_of l = l.setup

-- a thread may serve behind the lock as this worker, or as none
abbrev pub Admits : Option ℕ → LockFacts → Type 0
Admits worker l = MayServe l.setup.limit worker

-- it is its lock's first pass, and so many others are out
abbrev pub IsFirst : ℕ → PassFacts → Type 0
IsFirst n p = (p.first ≡ true) × (p.out ≡ n)

-- one more pass may be split from it
abbrev pub MaySplit : PassFacts → Type 0
MaySplit p = (p.first ≡ true) × (p.out < 65535)

-- a pass may be joined to it
abbrev pub MayJoin : PassFacts → Type 0
MayJoin p = (p.first ≡ true) × (0 < p.out)

-- ---- what passes have seen

abbrev pub seen_of : PassFacts → List Event
seen_of p = p.seen

-- each history begins with the other one at its place
abbrev pub BeginEach : List (List Event) → List (List Event) → Type 0
BeginEach = AllZip Begins

-- each pass has seen all that the other one at its place has
abbrev pub HaveSeen : List PassFacts → List PassFacts → Type 0
HaveSeen ps qs = BeginEach (map seen_of ps) (map seen_of qs)

-- ---- the end

-- of what a pass has seen is so what the type behind its lock says of a history where nothing is left to do
abbrev pub HasEnded : (Setup → List Event → Type 0) → PassFacts → Type 0
HasEnded ends p = ends p.setup p.seen

-- of the history of a state is so what its type says of one where nothing is left to do
abbrev pub IsDone : {S : Type 0} → (S → Setup) → (S → Seen) → (Setup → List Event → Type 0) → S → Type 0
IsDone setup history ends s = ends (setup s) (history s).events
