-- What is kept of the calls of a history: what came of each, which each notification named, which each installation answered, and so the
-- number that was installed for the call of a received notification.
use Rattle.std.specs.Prelude.{◌≡◌, ℕ, List, ◌∷◌, ◌++◌, length, Option, Ok}
use Rattle.sys_abi.specs.declared.wire.Notif.{Notif}
use Rattle.hist_model.specs.ReportAudit.{call_with_id, installed_at}
use Rattle.hist_model.specs.declared.event.Event.{Event}
use Rattle.hist_model.specs.declared.event.What.TheVariants.{Recv}
use Rattle.audit_log.specs.Places.{call_in}
use Rattle.audit_log.specs.Received.{TellsReceived}
use Rattle.audit_log.specs.Records.{HasEntries, Tells, number_at, record_in}
use Rattle.audit_log.specs.Requests.{AnswersAre, TellsInstalled}
use Rattle.audit_log.specs.declared.kept_calls.CallTable.{CallTable}

-- what is kept is so of the history
pub record TellsCalls (H : List Event) (t : CallTable) : Type 0 where
  pub entries : HasEntries H t.entered
  pub records : Tells H (record_in t.entered)
  pub received : TellsReceived H (call_in t.received)
  pub answered : TellsInstalled H (call_in t.answered)
  pub number : AnswersAre H (length t.answered.places.items)

-- the number for the call of the notification that the event at a place received
abbrev pub number_in : CallTable → ℕ → Option ℕ
number_in t place = number_at (record_in t.entered) (call_in t.received place)

-- the numbers are those of the history
abbrev pub TellsNumbers : List Event → CallTable → Type 0
TellsNumbers H t = (later K : List Event) (e : Event) (notif : Notif) → H ≡ later ++ e ∷ K → e.what ≡ Recv (Ok notif)
    → number_in t (length K) ≡ installed_at H K (call_with_id notif.id K)
