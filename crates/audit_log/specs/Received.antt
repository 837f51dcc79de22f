-- What is kept of ids while the events are gone through: the newest call with each, and of each notification the call that it names.
use Rattle.std.specs.Prelude.{◌≡◌, ℕ, ◌==◌, if◌then◌else◌, nat_eq, List, Option, Some, None, Ok}
use Rattle.std.specs.HashMap.{get}
use Rattle.hist_model.specs.ReportAudit.{call_with_id}
use Rattle.hist_model.specs.declared.event.Event.{Event}
use Rattle.hist_model.specs.declared.event.What.{What}
use Rattle.hist_model.specs.declared.event.What.TheVariants.{Recv}
use Rattle.audit_log.specs.ByPlace.{ByPlace}
use Rattle.audit_log.specs.declared.received.Ids.{Ids}

-- the place of the call, where the last one that was listed has this id, or else another one
abbrev pub last_or : Option (ℕ × ℕ) → ℕ → Option ℕ → Option ℕ
last_or None x other = other
last_or (Some (id, place)) x other = if id == x then Some place else other

-- the place of the newest call with this id, by the table
abbrev pub place_in : Ids → ℕ → Option ℕ
place_in t x = last_or t.last x (get nat_eq t.places x)

-- the table tells of each id in these events
abbrev pub Names : List Event → Ids → Type 0
Names K t = (x : ℕ) → place_in t x ≡ call_with_id x K

-- the call of the notification that a step receives
abbrev pub received_by : (ℕ → Option ℕ) → What → Option ℕ
received_by call (Recv (Ok notif)) = call notif.id
received_by call _ = None

-- the calls of what was received, by the place of the event that received it
abbrev pub TellsReceived : List Event → (ℕ → Option ℕ) → Type 0
TellsReceived H calls = ByPlace (λ K e. received_by (λ x. call_with_id x K) e.what) H calls
