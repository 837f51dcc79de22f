-- Which tables a step leaves as they are: each test looks at the step alone.
use Rattle.std.specs.Prelude.{Bool, true, false, ◌&&◌, not, Ok}
use Rattle.hist_model.specs.Kinds.{closes, notifies}
use Rattle.hist_model.specs.declared.event.What.{What}
use Rattle.hist_model.specs.declared.event.What.TheVariants.{Spawn, Poke, Install, Native, Recv, OpenMem, OpenBase, Act, Plant, LetGo}
use Rattle.tasks.specs.Sound.{keeps_tasks}

-- the step, if it is a worker's, leaves the tasks
abbrev pub leaves_tasks : What → Bool
leaves_tasks what = keeps_tasks what && (not (notifies what) && not (closes what))

-- the step makes no group, stores nothing and changes no slot
abbrev pub keeps_groups : What → Bool
keeps_groups (Spawn child (Ok made)) = false
keeps_groups (Poke addr bytes) = false
keeps_groups (Install answer) = false
keeps_groups (Native answer) = false
keeps_groups (Plant addr bytes cap (Ok u)) = false
keeps_groups what = true

-- the step is no effect that was done, and no native call: it leaves the tree, and spends no cap
abbrev pub keeps_tree : What → Bool
keeps_tree (Act request cap (Ok u)) = false
keeps_tree (Plant addr bytes cap (Ok u)) = false
keeps_tree (Native answer) = false
keeps_tree what = true

-- a worker that takes the step receives, opens or lets go
abbrev pub opens : What → Bool
opens (Recv (Ok notif)) = true
opens (OpenMem pid (Ok u)) = true
opens (OpenBase pid dirfd (Ok u)) = true
opens LetGo = true
opens what = false

-- the step, if it is a worker's, changes the listener alone, or nothing
abbrev pub is_listening : What → Bool
is_listening what = leaves_tasks what && (keeps_groups what && (keeps_tree what && not (opens what)))
