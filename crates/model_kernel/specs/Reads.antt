-- What a worker has read last.
use Rattle.std.specs.Prelude.{ℕ, if◌then◌else◌, List, [], ◌∷◌, Option, Some, None, Ok, Err}
use Rattle.std.specs.Option.{option_map_or}
use Rattle.hist_model.specs.Look.{is_worker}
use Rattle.hist_model.specs.declared.event.Event.{Event}
use Rattle.hist_model.specs.declared.event.What.{What}
use Rattle.hist_model.specs.declared.event.What.TheVariants.{Read}

-- what was read, where something was tried to be read: nothing where that failed
abbrev pub bytes_read : What → Option (List ℕ)
bytes_read (Read addr len (Ok bytes)) = Some bytes
bytes_read (Read addr len (Err errno)) = Some []
bytes_read what = None

-- what an event read that is a read of a worker
abbrev pub read_by : ℕ → Event → Option (List ℕ)
read_by w e = if is_worker e.who w then bytes_read e.what else None

-- what the newest read of a worker gave
unfoldable pub last_read : ℕ → List Event → List ℕ
last_read w [] = []
last_read w (e ∷ K) = option_map_or (λ bytes. bytes) (read_by w e) (last_read w K)
