-- The rule of the lock's table: it holds between any two steps of any threads.
-- The table has three words, the length of the history, the next ticket and the ticket that is served, and one slot,
-- where the state lies between two turns.
use Rattle.std.specs.Prelude.{◌≡◌, ◌⊎◌, ℕ, ◌+◌, ◌-◌, ◌%◌, ◌^◌, ◌<◌, ◌≤◌, List, [], ◌∷◌, ◌++◌, length, Option, Some, None, true, false}
use mathlib.Core.Option.{some, none}
use mathlib.Core.Option as maybe
use lib.ListN.{get_elem?}
use Rattle.atomic_table.specs.Table.{State}
use Rattle.hist_model.specs.declared.event.Event.{Event}
use Rattle.hist_model.specs.declared.history.Setup.{Setup}
use Rattle.hist_model.specs.Histories.{Seen}
use Rattle.turn_lock.specs.declared.view.View.{View}
use Rattle.turn_lock.specs.Stages.{Stage}
use Rattle.turn_lock.specs.Stages.{Idle, Waiting, Playing}
use Rattle.turn_lock.specs.Lists.{Begins, longer, shorter, times, OnceFrom}

-- f of each view, added up
abbrev pub total : (View → ℕ) → List View → ℕ
total f [] = 0
total f (v ∷ vs) = f v + total f vs

abbrev pub living_of : View → ℕ
living_of v = v.living

abbrev pub ticket_of : Stage → ℕ
ticket_of Idle = 0
ticket_of (Waiting t) = 1
ticket_of (Playing t) = 1

-- 1 where the view has a ticket
abbrev pub tickets_of : View → ℕ
tickets_of v = ticket_of v.stage

-- how often the view owns the place p
abbrev pub owns : ℕ → View → ℕ
owns p v = times p v.places

abbrev pub Holds : Stage → ℕ → Type 0
Holds Idle t = ⊥
Holds (Waiting u) t = u ≡ t
Holds (Playing u) t = u ≡ t

abbrev pub Plays : Stage → Type 0
Plays Idle = ⊥
Plays (Waiting u) = ⊥
Plays (Playing u) = Unit {0}

-- A ticket of a pass that waits is not served yet, or just now; the pass that plays has the ticket that is served,
-- and has seen the whole history.
-- Tickets are numbers without a bound here: served tickets were given back, and n are out.
abbrev pub Fits : ℕ → ℕ → List Event → View → Stage → Type 0
Fits served n now v Idle = Unit {0}
Fits served n now v (Waiting t) = (v.living ≡ 1) × (served ≤ t) × (t < served + n)
Fits served n now v (Playing t) = (v.living ≡ 1) × (t ≡ served) × (0 < n) × (v.seen ≡ now)

-- no ticket is with two passes
pub record Tickets (served : ℕ) (now : List Event) (views : List View) : Type 0 where
  pub fits : (j : ℕ) (v : View) → get_elem? views j ≡ some v → Fits served (total tickets_of views) now v v.stage
  pub apart : (j k : ℕ) (v w : View) (t : ℕ) → get_elem? views j ≡ some v
      → get_elem? views k ≡ some w → Holds v.stage t → Holds w.stage t → j ≡ k

-- What one view says of the history: what it has seen is a beginning of it, the shorter history of its last join was one too,
-- a pass that is not spent has the lock's setup, and a spent one owns nothing
abbrev pub Sound : Setup → List Event → View → Type 0
Sound setup now v =
    Begins now v.seen × Begins v.seen v.joined × (v.living ≡ 1 → v.setup ≡ setup) × (v.living ≤ 1) × ((p : ℕ) → owns p v ≤ v.living)

-- What the views say of the history `now`, which the lock began with `opening`, and of each other
pub record Views (setup : Setup) (opening now : List Event) (views : List View) : Type 0 where
  pub each : (j : ℕ) (v : View) → get_elem? views j ≡ some v → Sound setup now v
  -- so that two tickets modulo 2 ^ 64 differ
  pub few : total living_of views ≤ 65536
  pub whole : (j : ℕ) × (v : View) × (get_elem? views j ≡ some v) × (v.living ≡ 1) × (v.seen ≡ now)
  -- the first pass counts those that are out
  pub leads : (j : ℕ) (v : View) → get_elem? views j ≡ some v → v.first ≡ true → (j ≡ 0) × (total living_of views ≡ 1 + v.out)
  pub opened : Begins now opening
  -- each event since the opening is some pass's, and one's alone
  pub owned : (p : ℕ) → OnceFrom (length opening) (length now) p (total (owns p) views)

module _ {S : Type 0} (setup : S → Setup) (history : S → Seen) where
  -- the state is at home with the whole history, and no pass plays, or it is out, and some pass plays
  abbrev pub Slot : Setup → List Event → List View → List (maybe.Option (Option S)) → Type 0
  Slot made now views homes =
      ((x : S) × (homes ≡ some (Some x) ∷ []) × ((history x).events ≡ now) × (setup x ≡ made)
      × ((j : ℕ) (v : View) → get_elem? views j ≡ some v → Plays v.stage → ⊥))
      ⊎ ((homes ≡ none ∷ []) × ((j : ℕ) × (v : View) × (get_elem? views j ≡ some v) × Plays v.stage))

  -- The rule of the lock that was made with the state key: a number of tickets was served, the history is `now`,
  -- and words, slot and views agree with both
  pub record LockRule (key : S) (s : State (Option S) View) : Type 0 where
    pub served : ℕ
    pub now : List Event
    pub words : s.words ≡ length now ∷ (served + total tickets_of s.views) % 2 ^ 64 ∷ served % 2 ^ 64 ∷ []
    pub slot : Slot (setup key) now s.views s.homes
    pub views : Views (setup key) (history key).events now s.views
    pub tickets : Tickets served now s.views

  -- the view of the first pass
  abbrev pub first_view : S → View
  first_view key =
      record { living = 1; first = true; out = 0; setup = setup key; seen = (history key).events; joined = []; places = []; stage = Idle }

-- the views of the first pass and of the new one, after a split
abbrev pub left_of : View → View
left_of v = record v { out = v.out + 1 }

abbrev pub right_of : View → View
right_of v = record v { first = false; out = 0; places = [] }

-- the view of the first pass, after a join
abbrev pub both_of : View → View → View
both_of v w = record v { out = v.out - 1; seen = longer v.seen w.seen; joined = shorter v.seen w.seen; places = v.places ++ w.places }

-- a setup that says nothing
abbrev pub no_setup : Setup
no_setup = record {
  policy = record { rules = [] };
  script = record {
    pidbase = 0;
    pidmax = 0;
    firstid = 0;
    rlimit = 0;
    killable = false;
    root = record { ordinal = 0 };
    figures = record {
      uptime = 0;
      used = 0;
      shared = 0;
      buffers = 0;
      swap_used = 0;
      memory = 0;
      swap = 0;
      host_memory = 0;
      host_swap = 0;
      procs = 0;
    };
    tree = [];
    broker = [];
    map = [];
    filters = [];
    programs = [];
    schedule = [];
  };
  limit = None;
  every = None;
}

-- the view of a pass that was joined to another
abbrev pub spent : View
spent = record { living = 0; first = false; out = 0; setup = no_setup; seen = []; joined = []; places = []; stage = Idle }
