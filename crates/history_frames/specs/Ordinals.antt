-- Ordinals: what was made after n others of its kind has the ordinal n. Tables know by it what events know by a place or a name.
use Rattle.std.specs.Prelude.{ℕ, ◌+◌, ◌==◌, ◌&&◌, Bool, not, if◌then◌else◌, List, [], ◌∷◌, length, Option, Some, None}
use Rattle.hist_model.specs.Look.{Name}
use Rattle.hist_model.specs.Kinds.{makes, shares_now}
use Rattle.hist_model.specs.Tasks.{name_of}
use Rattle.hist_model.specs.declared.event.Event.{Event}
use Rattle.hist_model.specs.declared.event.What.{What}

-- how many steps of a kind there are
unfoldable pub count_of : (What → Bool) → List Event → ℕ
count_of kind [] = 0
count_of kind (e ∷ K) = count_of kind K + (if kind e.what then 1 else 0)

-- the place of the one that came after so many others
unfoldable pub nth_of : (What → Bool) → List Event → ℕ → Option ℕ
nth_of kind [] o = None
nth_of kind (e ∷ K) o = if kind e.what && (count_of kind K == o) then Some (length K) else nth_of kind K o

-- how many tasks were made
abbrev pub tasks_made : List Event → ℕ
tasks_made K = count_of makes K

-- the place of the task that has this ordinal
abbrev pub place_of : List Event → ℕ → Option ℕ
place_of K o = nth_of makes K o

abbrev pub name_at : List Event → Option ℕ → Name
name_at K (Some t) = name_of K t
name_at K None = []

-- its name
abbrev pub task_name_of : List Event → ℕ → Name
task_name_of K o = name_at K (place_of K o)

-- the step makes a group, which is an address space with a descriptor table: a task is made that doesn't share its parent's
abbrev pub makes_group : What → Bool
makes_group w = makes w && not (shares_now w)

-- how many groups were made
abbrev pub groups_made : List Event → ℕ
groups_made K = count_of makes_group K

-- the place of the group that has this ordinal
abbrev pub group_of : List Event → ℕ → Option ℕ
group_of K o = nth_of makes_group K o
