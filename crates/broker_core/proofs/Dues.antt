-- What a due deed tells of the session, so that an answer which the deed can have can be taken.
-- By the cases of the session's flags, its stage, the verdict and the request, each of which has one deed.
use Rattle.std.proofs.Common.{◌≡◌, ℕ, Bool, true, false, not, [], refl, Option, Some, None, inl, inr, ◌⊎◌}
use Rattle.std.specs.Prelude.{if◌then◌else◌, ℤ, Result, Ok, Err, ⊤, OnOk}
use Rattle.hist_model.specs.Deeds.{Deed}
use Rattle.hist_model.specs.Legal.{cloexec_of}
use Rattle.hist_model.specs.Requests.{base_dirfd}
use Rattle.hist_model.specs.Sessions.{after_act, inject_deed, addfd_of}
use Rattle.hist_model.specs.Sysinfo.{container_sysinfo}
use Rattle.hist_model.specs.declared.policy.Cap.{Cap}
use Rattle.hist_model.specs.declared.policy.Verdict.{Verdict}
use Rattle.hist_model.specs.declared.policy.Verdict.TheVariants.{Grant, Deny, Pass, Inject}
use Rattle.hist_model.specs.declared.request.Request.{Request}
use Rattle.hist_model.specs.declared.request.Request.TheVariants.{Sysinfo}
use Rattle.hist_model.specs.declared.script.Figures.{Figures}
use Rattle.sys_abi.specs.declared.wire.Addfd.{Addfd}
use Rattle.arg_capture.specs.Captures.{Captured, continued, wanted}
use Rattle.broker_core.specs.Answers.{Answer, Received, Done, Bytes, Number, NotYet, Failed, Fits, shown, is_let_go}
use Rattle.broker_core.specs.Deeds.{Granting, own_request, grant_deed, verdict_deed, piece_deed, stage_deed, based_deed, session_deed, due}
use Rattle.broker_core.specs.Remembered.{IsReady, IsReadyAt, IsReadyIf}
use Rattle.broker_core.specs.Taking.{CanTake, IsCheckable, is_reading}
use Rattle.broker_core.specs.declared.deed.Deed.{Deed as Named}
use Rattle.broker_core.specs.declared.judgement.Judgement.{Judgement}
use Rattle.broker_core.specs.declared.session.Stage.{Stage}
use Rattle.broker_core.specs.declared.session.Stage.TheVariants.{Unchecked, Reading, Judged, Confirmed}
use Rattle.broker_core.specs.declared.session.Session.{Session}
use Rattle.broker_core.specs.declared.worker.Worker.{Worker}

-- the session acts by a judgement that grants, and has not acted yet
pub record Acts (G : Granting) (s : Session) (q : Request) : Type 0 where
  pub judgement : Judgement
  pub stage : s.stage ≡ Confirmed (Ok judgement)
  pub verdict : judgement.verdict ≡ Grant
  pub outcome : s.outcome ≡ None
  pub effect : q ≡ G judgement

module _ (G : Granting) (F : Figures) (c : Captured) (s : Session) where
  -- what a deed of the session tells of it
  abbrev pub Tells : Deed → Type 0
  Tells Deed.Recv = ⊥
  Tells (Deed.Check id) = IsCheckable s.stage ⊎ ((s.stage ≡ Reading) × (wanted (continued c []) ≡ None))
  Tells (Deed.Read addr len) = (s.stage ≡ Reading) × (wanted (continued c []) ≡ Some (addr, len))
  Tells (Deed.Act effect cap) = Acts G s effect
  Tells (Deed.Plant addr bytes cap) = container_sysinfo F ≡ bytes
  Tells _ = ⊤

  tell-if : (b : Bool) (x y : Deed) → Tells x → Tells y → Tells (if b then x else y)
  tell-if true x y h g = h
  tell-if false x y h g = g

  tell-act : (o : Option (Result (Unit {0}) ℕ)) (d : Deed) → (o ≡ None → Tells d) → Tells (after_act s.notif.id o d)
  tell-act None d h = h refl
  tell-act (Some r) d h = tt

  tell-injection : (a : Addfd) (put : Option (Result (Unit {0}) ℕ)) (take : Option (Result ℕ ℕ)) → Tells (inject_deed s.notif.id a put take)
  tell-injection a None take = tt
  tell-injection a (Some (Err e)) take = tt
  tell-injection a (Some (Ok u)) None = tt
  tell-injection a (Some (Ok u)) (Some t) = tt

  module _ (j : Judgement) (e : s.stage ≡ Confirmed (Ok j)) where
    tell-grant : (cap : Option Cap) (q : Request) → j.verdict ≡ Grant → Tells (grant_deed F s cap (G j) q)
    tell-grant cap (Sysinfo addr) v = tell-act s.outcome (Deed.Plant addr (container_sysinfo F) cap) (λ o. refl)
    tell-grant cap q v = tell-act s.outcome (Deed.Act (G j) cap) (λ o. record { judgement = j; stage = e; verdict = v; outcome = o; effect = refl })

    tell-verdict : (v : Verdict) → j.verdict ≡ v → Tells (verdict_deed G F s j v)
    tell-verdict Grant h = tell-grant j.cap j.request h
    tell-verdict (Deny x) h = tt
    tell-verdict Pass h = tt
    tell-verdict (Inject src at) h = tell-injection (addfd_of s.notif.id src at (cloexec_of j.request)) s.put s.take

  tell-piece : (o : Option (ℕ × ℕ)) → s.stage ≡ Reading → wanted (continued c []) ≡ o → Tells (piece_deed s o)
  tell-piece (Some a) e w = (e, w)
  tell-piece None e w = inr (e, w)

  tell-stage : (stage : Stage) → s.stage ≡ stage → Tells (stage_deed G F c s stage)
  tell-stage Unchecked e = inl (rw e tt)
  tell-stage Reading e = tell-piece (wanted (continued c [])) e refl
  tell-stage (Judged f) e = inl (rw e tt)
  tell-stage (Confirmed (Ok j)) e = tell-verdict j e j.verdict refl
  tell-stage (Confirmed (Err x)) e = tt

  tell-based : (d : Option ℤ) → Tells (based_deed G F c s d)
  tell-based None = tell-stage s.stage refl
  tell-based (Some d) = tell-if (not s.based) (Deed.OpenBase s.notif.pid d) (stage_deed G F c s s.stage) tt (tell-stage s.stage refl)

  pub told_session : Tells (session_deed G F c s)
  told_session = tell-if s.gave_up Deed.LetGo _ tt (tell-if (not s.opened) (Deed.OpenMem s.notif.pid) _ tt (tell-based (base_dirfd s.notif.call.nr s.notif.call.args)))

-- ---- What can be taken

is-in-hand : (c : Captured) (s : Session) → s.stage ≡ Reading → IsReadyAt c s.stage → IsReadyAt c Reading
is-in-hand c s e r = rw e at r

can-take : (G : Granting) (F : Figures) (c : Captured) (s : Session) (d : Deed) (a : Answer) → Tells G F c s d → IsReadyAt c s.stage → Fits (shown d) a → is_let_go (shown d) ≡ false
    → CanTake (shown d) a c s.stage
can-take G F c s Deed.Recv a t r f g = absurd t
can-take G F c s Deed.LetGo a t r f g = cc
can-take G F c s (Deed.Check id) a (inl t) r f g = t
can-take G F c s (Deed.Check id) a (inr t) r f g = absurd ((is-in-hand c s t.0 r).1 t.1)
can-take G F c s (Deed.Read addr len) (Bytes bytes) t r f g = ((rw t.1 f, (is-in-hand c s t.0 r).0), t.0)
can-take G F c s (Deed.Read addr len) (Failed e) t r f g = ((rw t.1 tt, f, (is-in-hand c s t.0 r).0), t.0)
can-take G F c s (Deed.Read addr len) (Received x) t r f g = absurd f
can-take G F c s (Deed.Read addr len) Done t r f g = absurd f
can-take G F c s (Deed.Read addr len) (Number x) t r f g = absurd f
can-take G F c s (Deed.Read addr len) NotYet t r f g = absurd f
can-take G F c s d a t r f g = tt

-- a session can take an answer that the due deed can have
pub can_take : (w : Worker) (s : Session) (d : Named) (a : Answer) → w.session ≡ Some s → d ≡ due w → IsReady w → Fits d a → is_let_go d ≡ false → CanTake d a w.capture s.stage
can_take w s d a e h r f g =
    let r' : IsReadyIf w.capture (Some s) = rw e at r in
    let h' : d ≡ shown (session_deed own_request w.figures w.capture s) = rw e at h in
    let f' : Fits (shown (session_deed own_request w.figures w.capture s)) a = rw h' at f in
    rw h' (can-take own_request w.figures w.capture s (session_deed own_request w.figures w.capture s) a (told_session own_request w.figures w.capture s) r' f' (rw h' at g))

-- ---- Room

-- where the arguments are not being read, there is nothing to make room for
pub not_reading : (c : Captured) (stage : Stage) → is_reading stage ≡ false → IsReadyAt c stage
not_reading c Reading h = cc
not_reading c Unchecked h = tt
not_reading c (Judged f) h = tt
not_reading c (Confirmed f) h = tt

pub on_ok : {A E X : Type 0} (r : Result A E) → X → OnOk r X
on_ok (Ok a) x = x
on_ok (Err e) x = tt
