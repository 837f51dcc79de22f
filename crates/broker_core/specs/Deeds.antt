-- The deed of a worker, by what it remembers of its session.
use Rattle.std.specs.Prelude.{ℕ, not, if◌then◌else◌, Option, Some, None, Result, Ok, Err, ℤ, []}
use Rattle.hist_model.specs.Deeds as deed
use Rattle.hist_model.specs.Legal.{cloexec_of}
use Rattle.hist_model.specs.Sessions.{after_act, inject_deed, addfd_of}
use Rattle.hist_model.specs.Requests.{base_dirfd}
use Rattle.hist_model.specs.Sysinfo.{container_sysinfo}
use Rattle.hist_model.specs.declared.event.Back.TheVariants.{Fail, Continue}
use Rattle.hist_model.specs.declared.policy.Cap.{Cap}
use Rattle.hist_model.specs.declared.policy.Verdict.{Verdict}
use Rattle.hist_model.specs.declared.policy.Verdict.TheVariants.{Grant, Deny, Pass, Inject}
use Rattle.hist_model.specs.declared.request.Request.{Request}
use Rattle.hist_model.specs.declared.request.Request.TheVariants.{Sysinfo}
use Rattle.hist_model.specs.declared.script.Figures.{Figures}
use Rattle.arg_capture.specs.Captures.{Captured, continued, wanted}
use Rattle.broker_core.specs.Answers.{shown}
use Rattle.broker_core.specs.declared.deed.Deed.{Deed}
use Rattle.broker_core.specs.declared.judgement.Judgement.{Judgement}
use Rattle.broker_core.specs.declared.session.Stage.{Stage}
use Rattle.broker_core.specs.declared.session.Stage.TheVariants.{Unchecked, Reading, Judged, Confirmed}
use Rattle.broker_core.specs.declared.session.Session.{Session}
use Rattle.broker_core.specs.declared.worker.Worker.{Worker}

-- what a judgement's effect is done with: a function gives the request of its act
abbrev pub Granting : Type 0
Granting = Judgement → Request

-- the request as the judgement has it
abbrev pub own_request : Granting
own_request j = j.request

-- a granted request is done in the tree, or sysinfo's answer is written; then the outcome is sent
abbrev pub grant_deed : Figures → Session → Option Cap → Request → Request → deed.Deed
grant_deed F s cap effect (Sysinfo addr) = after_act s.notif.id s.outcome (deed.Plant addr (container_sysinfo F) cap)
grant_deed F s cap effect q = after_act s.notif.id s.outcome (deed.Act effect cap)

abbrev pub verdict_deed : Granting → Figures → Session → Judgement → Verdict → deed.Deed
verdict_deed G F s j Grant = grant_deed F s j.cap (G j) j.request
verdict_deed G F s j (Deny e) = deed.Send s.notif.id (Fail e)
verdict_deed G F s j Pass = deed.Send s.notif.id Continue
verdict_deed G F s j (Inject src at) = inject_deed s.notif.id (addfd_of s.notif.id src at (cloexec_of j.request)) s.put s.take

-- after the second check: the fault of the copy, or what the judgement leads to
abbrev pub found_deed : Granting → Figures → Session → Result Judgement ℕ → deed.Deed
found_deed G F s (Err e) = deed.Send s.notif.id (Fail e)
found_deed G F s (Ok j) = verdict_deed G F s j j.verdict

-- the next piece, or the second check where there is none
abbrev pub piece_deed : Session → Option (ℕ × ℕ) → deed.Deed
piece_deed s (Some piece) = deed.Read piece.0 piece.1
piece_deed s None = deed.Check s.notif.id

abbrev pub stage_deed : Granting → Figures → Captured → Session → Stage → deed.Deed
stage_deed G F c s Unchecked = deed.Check s.notif.id
stage_deed G F c s Reading = piece_deed s (wanted (continued c []))
stage_deed G F c s (Judged found) = deed.Check s.notif.id
stage_deed G F c s (Confirmed found) = found_deed G F s found

abbrev pub based_deed : Granting → Figures → Captured → Session → Option ℤ → deed.Deed
based_deed G F c s (Some d) = if not s.based then deed.OpenBase s.notif.pid d else stage_deed G F c s s.stage
based_deed G F c s None = stage_deed G F c s s.stage

-- the next deed of a session
abbrev pub session_deed : Granting → Figures → Captured → Session → deed.Deed
session_deed G F c s =
    if s.gave_up then deed.LetGo else (
    if not s.opened then deed.OpenMem s.notif.pid else based_deed G F c s (base_dirfd s.notif.call.nr s.notif.call.args))

-- the next deed of a worker, with its session if one is open
abbrev pub worker_deed : Granting → Figures → Captured → Option Session → deed.Deed
worker_deed G F c None = deed.Recv
worker_deed G F c (Some s) = session_deed G F c s

-- the deed that is due, as the worker names it
abbrev pub due : Worker → Deed
due w = shown (worker_deed own_request w.figures w.capture w.session)
