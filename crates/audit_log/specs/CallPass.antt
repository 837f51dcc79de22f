-- What is kept of the calls while the events are gone through.
use Rattle.std.specs.Prelude.{Bool, true, false, List, length, Ok}
use Rattle.hist_model.specs.declared.event.Event.{Event}
use Rattle.hist_model.specs.declared.event.What.{What}
use Rattle.hist_model.specs.declared.event.What.TheVariants.{AddfdPut, Deliver, Enter, Install, Native, Recv, Resume, Spawn}
use Rattle.audit_log.specs.Places.{AreOrdered, call_in}
use Rattle.audit_log.specs.Received.{Names, TellsReceived}
use Rattle.audit_log.specs.Records.{HasEntries, Tells, record_in}
use Rattle.audit_log.specs.Requests.{AnswersAre, TellsInstalled, TellsRequests, queue_in}
use Rattle.audit_log.specs.Tasks.{Knows}
use Rattle.audit_log.specs.declared.call_pass.CallPass.{CallPass}

-- it is so of these events
pub record TellsPast (K : List Event) (p : CallPass) : Type 0 where
  pub entries : HasEntries K p.entered
  pub tells : Tells K (record_in p.entered)
  pub knows : Knows K p.tasks
  pub names : Names K p.ids
  pub asked : TellsRequests K (queue_in p.requests)
  pub receipts : AreOrdered (length K) p.received.places.items (length p.received.calls.items)
  pub received : TellsReceived K (call_in p.received)
  pub answers : AreOrdered (length K) p.answered.places.items (length p.answered.calls.items)
  pub answered : TellsInstalled K (call_in p.answered)
  pub number : AnswersAre K (length p.answered.places.items)

-- a step may tell something of a call
abbrev pub concerns_calls : What → Bool
concerns_calls (Spawn child (Ok a)) = true
concerns_calls (Enter nr args verdict) = true
concerns_calls (Native answer) = true
concerns_calls (Install answer) = true
concerns_calls (Resume back) = true
concerns_calls (Deliver sig effect) = true
concerns_calls (Recv (Ok notif)) = true
concerns_calls (AddfdPut asked (Ok u)) = true
concerns_calls _ = false
