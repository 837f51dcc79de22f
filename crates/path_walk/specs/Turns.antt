-- What a component says, as the definitions have it.
use Rattle.std.specs.Prelude.{◌≤◌, length}
use Rattle.hist_model.specs.Paths as paths
use Rattle.path_walk.specs.Places.{error_number}
use Rattle.path_walk.specs.declared.turns.Ending.{Ending}
use Rattle.path_walk.specs.declared.turns.Ending.TheVariants.{Named, Failed}
use Rattle.path_walk.specs.declared.turns.Turn.{Turn}
use Rattle.path_walk.specs.declared.turns.Turn.TheVariants.{Ends, Goes, Follows}

abbrev pub ending_of : Ending → paths.Place
ending_of (Named dir name) = paths.New dir.ordinal name.now
ending_of (Failed e) = paths.Refused (error_number e)

abbrev pub turn_of : Turn → paths.Turn
turn_of (Ends e) = paths.Ends (ending_of e)
turn_of (Goes n) = paths.Goes n.ordinal
turn_of (Follows target) = paths.Follows target.now

-- a name that a walk ends at has at most 255 bytes
abbrev pub IsShort : Ending → Type 0
IsShort (Named dir name) = length name.now ≤ 255
IsShort (Failed e) = Unit {0}

abbrev pub IsShortTurn : Turn → Type 0
IsShortTurn (Ends e) = IsShort e
IsShortTurn _ = Unit {0}
