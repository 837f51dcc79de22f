-- The session of each call, and what is kept to find it: by the place of the call, the row of its last session.
use Rattle.std.specs.Prelude.{◌≡◌, ℕ, ◌<◌, Bool, if◌then◌else◌, List, [], ◌∷◌, length, get_or, set, slice_get, Option, Some, None, Ok}
use Rattle.hist_model.specs.Look.{is_place}
use Rattle.hist_model.specs.ReportAudit.{call_with_id, session_at}
use Rattle.hist_model.specs.Sessions.{or_some}
use Rattle.hist_model.specs.declared.event.Actor.{Actor}
use Rattle.hist_model.specs.declared.event.Actor.TheVariants.{Worker}
use Rattle.hist_model.specs.declared.event.Event.{Event}
use Rattle.hist_model.specs.declared.event.What.{What}
use Rattle.hist_model.specs.declared.event.What.TheVariants.{Recv}
use Rattle.audit_log.specs.Begun.{Begun}
use Rattle.audit_log.specs.SessionStages.{stages_at}
use Rattle.audit_log.specs.declared.session.SessionRecord.{SessionRecord}

-- in the history H, the session that the step after K begins, where the newest call with its notification's id stands at place c
abbrev pub session_by : List Event → ℕ → List Event → Actor → What → Option Begun
session_by H c K (Worker w) (Recv (Ok notif)) =
    if is_place (call_with_id notif.id K) c
    then Some (record { place = length K; worker = w; notif = notif; steps = session_at w (length K) H; stages = stages_at w (length K) H })
    else None
session_by H c K _ _ = None

-- in the history H, the newest session that was begun in K for the call at place c
unfoldable pub session_for : List Event → ℕ → List Event → Option Begun
session_for H c [] = None
session_for H c (e ∷ K) = or_some (session_by H c K e.who e.what) (session_for H c K)

-- ---- What is kept

-- the last of these that passes the test
abbrev pub latest : {A : Type 0} → (A → Bool) → List A → Option A
latest test [] = None
latest test (x ∷ xs) = or_some (latest test xs) (if test x then Some x else None)

-- the session received the notification of the call at place c, by the calls of what was received
abbrev pub is_for : (ℕ → Option ℕ) → ℕ → SessionRecord → Bool
is_for calls c x = is_place (calls x.place) c

-- with one more number for a call, if it is for one
abbrev pub noted : Option ℕ → ℕ → List (Option ℕ) → List (Option ℕ)
noted None n found = found
noted (Some c) n found = set found c (Some n)

-- the session in this row, if there is one
abbrev pub row_at : List SessionRecord → Option ℕ → Option SessionRecord
row_at rows None = None
row_at rows (Some i) = slice_get rows i

-- of each call, by its place, the row of its last session
abbrev pub TellsSessions : (ℕ → Option ℕ) → List SessionRecord → ℕ → List (Option ℕ) → Type 0
TellsSessions calls rows room found = (c : ℕ) → c < room → row_at rows (get_or found c None) ≡ latest (is_for calls c) rows
