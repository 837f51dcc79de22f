-- What the walk's answers mean.
use Rattle.std.specs.Prelude.{ℕ, List, Result, Ok, Err}
use Rattle.hist_model.specs.Paths as paths
use Rattle.path_walk.specs.declared.places.Last.{Last}
use Rattle.path_walk.specs.declared.places.Last.TheVariants as last
use Rattle.path_walk.specs.declared.places.Place.{Place}
use Rattle.path_walk.specs.declared.places.Place.TheVariants as place
use Rattle.path_walk.specs.declared.places.WalkError.{WalkError}
use Rattle.path_walk.specs.declared.places.WalkError.TheVariants.{NoEntry, NotDir, Loop, NameTooLong, Exists, NoBase}
use Rattle.sys_abi.specs.Errnos.{ebadf, eexist, eloop, enametoolong, enoent, enotdir}

abbrev pub last_of : Last → paths.Last
last_of last.Follow = paths.Follow
last_of last.Create = paths.Create

-- the number of an error
abbrev pub error_number : WalkError → ℕ
error_number NoEntry = enoent
error_number NotDir = enotdir
error_number Loop = eloop
error_number NameTooLong = enametoolong
error_number Exists = eexist
error_number NoBase = ebadf

-- the place that is answered, with the name that the walk keeps
abbrev pub place_of : Result Place WalkError → List ℕ → paths.Place
place_of (Ok (place.At n)) name = paths.At n.ordinal
place_of (Ok (place.New dir)) name = paths.New dir.ordinal name
place_of (Err e) name = paths.Refused (error_number e)
