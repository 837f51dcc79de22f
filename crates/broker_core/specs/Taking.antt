-- How a session takes an answer.
use Rattle.std.specs.Prelude.{◌≡◌, ℕ, Bool, List, [], ◌∷◌, ◌++◌, Option, Some, None, Result, Ok, Err, ⊤, ◌||◌, true, false}
use Rattle.hist_model.specs.Kinds.{gives_up, opens, opens_base}
use Rattle.hist_model.specs.Sessions.{outcome_in, put_in, take_in, or_some}
use Rattle.hist_model.specs.declared.copy.Part.{Part}
use Rattle.hist_model.specs.declared.event.What.{What}
use Rattle.hist_model.specs.declared.request.Request.{Request}
use Rattle.arg_capture.specs.Captures.{Captured, continued, wanted, Answers, Follows, HasRoom}
use Rattle.sys_abi.specs.Errnos.{efault}
use Rattle.sys_abi.specs.declared.wire.Notif.{Notif}
use Rattle.broker_core.specs.Answers.{Answer, Done, Bytes, Failed}
use Rattle.broker_core.specs.declared.deed.Deed.{Deed}
use Rattle.broker_core.specs.declared.deed.Deed.TheVariants.{Recv, Check, Read, LetGo}
use Rattle.broker_core.specs.declared.session.Stage.{Stage}
use Rattle.broker_core.specs.declared.session.Stage.TheVariants.{Unchecked, Reading, Judged, Confirmed}
use Rattle.broker_core.specs.declared.session.Session.{Session}

-- ---- What can be taken

-- the piece that is wanted may be answered so, and there is room for it
abbrev pub CanFeed : Captured → Answer → Type 0
CanFeed c (Bytes bytes) = Answers (wanted (continued c [])) (Ok bytes) × HasRoom c.reached
CanFeed c (Failed e) = Answers (wanted (continued c [])) (Err e) × (e ≡ efault) × HasRoom c.reached
CanFeed c _ = ⊥

-- the arguments are being read
abbrev pub is_reading : Stage → Bool
is_reading Reading = true
is_reading _ = false

-- a check is due at this stage
abbrev pub IsCheckable : Stage → Type 0
IsCheckable Unchecked = ⊤
IsCheckable (Judged found) = ⊤
IsCheckable _ = ⊥

-- a session at this stage can take this answer to this deed
abbrev pub CanTake : Deed → Answer → Captured → Stage → Type 0
CanTake Recv a c stage = ⊥
CanTake LetGo a c stage = ⊥
CanTake (Read addr len) a c stage = CanFeed c a × (stage ≡ Reading)
CanTake (Check id) a c stage = IsCheckable stage
CanTake _ a c stage = ⊤

-- ---- The stage afterwards

-- the stage after a good check
abbrev pub confirmed : Stage → Stage
confirmed Unchecked = Reading
confirmed (Judged found) = Confirmed found
confirmed stage = stage

abbrev pub checked : Answer → Stage → Stage
checked Done stage = confirmed stage
checked _ stage = stage

-- what a read answered
abbrev pub heard : Answer → List (Result (List ℕ) ℕ)
heard (Bytes bytes) = Ok bytes ∷ []
heard (Failed e) = Err e ∷ []
heard _ = []

-- the session and the capture are advanced by the answer: a read is fed to the capture, a check changes the stage, and every other deed
-- leaves both as they are
abbrev pub Advances : Deed → Answer → Captured → Captured → Session → Session → Type 0
Advances (Read addr len) a old new s t =
    (t ≡ s)
    × ((parts : List Part) (answers : List (Result (List ℕ) ℕ)) → Follows parts answers old → Follows parts (answers ++ heard a) new)
Advances (Check id) a old new s t = (t ≡ record s { stage = checked a s.stage }) × (new ≡ old)
Advances _ a old new s t = (t ≡ s) × (new ≡ old)

-- what is noted of a step: all but the stage
pub record Noted (what : What) (old new : Session) : Type 0 where
  pub notif : new.notif ≡ old.notif
  pub stage : new.stage ≡ old.stage
  pub granted : new.granted ≡ old.granted
  pub effect : new.effect ≡ old.effect
  pub gave_up : new.gave_up ≡ (gives_up what || old.gave_up)
  pub opened : new.opened ≡ (opens what || old.opened)
  pub based : new.based ≡ (opens_base what || old.based)
  pub outcome : new.outcome ≡ or_some (outcome_in what) old.outcome
  pub put : new.put ≡ or_some (put_in what) old.put
  pub take : new.take ≡ or_some (take_in what) old.take

-- ---- The start of a session

-- the session has just begun
pub record Begins (n : Notif) (s : Session) : Type 0 where
  pub notif : s.notif ≡ n
  pub gave_up : s.gave_up ≡ false
  pub opened : s.opened ≡ false
  pub based : s.based ≡ false
  pub stage : s.stage ≡ Unchecked
  pub granted : s.granted ≡ false
  pub effect : s.effect ≡ None
  pub outcome : s.outcome ≡ None
  pub put : s.put ≡ None
  pub take : s.take ≡ None

abbrev pub BeginsIf : Notif → Option Session → Type 0
BeginsIf n None = ⊥
BeginsIf n (Some s) = Begins n s

-- ---- The request

-- the request of what was found once the second check was good
abbrev pub confirmed_request : Stage → Option Request
confirmed_request (Confirmed (Ok j)) = Some j.request
confirmed_request _ = None
