-- What a worker remembers after an answer: its session with one more step, a session that has begun, or none.
-- By the cases of the deed and of its answer, with `known_after` for the steps inside a session.
use Rattle.std.proofs.Common.{◌≡◌, ℕ, true, false, List, [], ◌∷◌, refl, ap, sym, subst, ◌∙◌, Option, Some, None, inl, inr}
use Rattle.std.specs.Prelude.{Ok}
use Rattle.hist_model.specs.Copies.{plan}
use Rattle.hist_model.specs.Deeds.{Deed}
use Rattle.hist_model.specs.Kinds.{starts, skips}
use Rattle.hist_model.specs.Sessions.{joined}
use Rattle.hist_model.specs.declared.event.What.{What}
use Rattle.hist_model.specs.declared.event.What.TheVariants as step
use Rattle.hist_model.specs.declared.policy.Rule.{Rule}
use Rattle.hist_model.specs.declared.request.Request.{Request}
use Rattle.hist_model.specs.declared.request.Request.TheVariants.{Sysinfo}
use Rattle.arg_capture.specs.Captures.{Captured, Follows}
use Rattle.sys_abi.specs.declared.wire.Notif.{Notif}
use Rattle.broker_core.specs.Answers.{Answer, Received, Done, Bytes, Number, NotYet, Failed, Fits, shown, deed_of, step_of, with_step, is_let_go, is_not_yet}
use Rattle.broker_core.specs.Remembered.{Knows, KnowsIf, Idle}
use Rattle.broker_core.specs.Taking.{Begins, BeginsIf, CanTake}
use Rattle.broker_core.specs.declared.deed.Deed.{Deed as Named}
use Rattle.broker_core.specs.declared.deed.Deed.TheVariants as named
use Rattle.broker_core.specs.declared.session.Stage.{Stage}
use Rattle.broker_core.specs.declared.session.Session.{Session}

-- ---- The start of a session

-- a receive begins a session
began : (rules : List Rule) (c : Captured) (n : Notif) (s : Session) → Begins n s → Follows (plan n.call.nr n.call.args) [] c → Knows rules (step.Recv (Ok n) ∷ []) c s
began rules c n s b f = record {
  notif = ap Some (sym b.notif);
  stays = refl;
  gave_up = sym b.gave_up;
  opened = sym b.opened;
  based = sym b.based;
  good = rw b.stage refl;
  checks = λ g. rw b.stage refl;
  outcome = sym b.outcome;
  put = sym b.put;
  take = sym b.take;
  stage = rw (b.stage, b.notif, b.granted) (f, refl);
  effect = rw b.effect tt;
}

begins-anew : (rules : List Rule) (own : List What) (c : Captured) (n : Notif) (s : Session) → Begins n s → Follows (plan n.call.nr n.call.args) [] c
    → KnowsIf rules (with_step (step.Recv (Ok n)) own) c (Some s)
begins-anew rules [] c n s b f = began rules c n s b f
begins-anew rules (a ∷ own) c n s b f = began rules c n s b f

pub begins_if : (rules : List Rule) (own : List What) (c : Captured) (n : Notif) (o : Option Session) → BeginsIf n o → Follows (plan n.call.nr n.call.args) [] c
    → KnowsIf rules (with_step (step.Recv (Ok n)) own) c o
begins_if rules own c n None b f = absurd b
begins_if rules own c n (Some s) b f = begins-anew rules own c n s b f

-- ---- The end of a session

idle-after : (own : List What) → Idle (joined step.LetGo own)
idle-after [] = inl refl
idle-after (a ∷ own) = inr refl

let-go : (d : Deed) → is_let_go (shown d) ≡ true → d ≡ Deed.LetGo
let-go Deed.LetGo h = refl
let-go d h = cc

pub idle_after : (d : Deed) (a : Answer) (own : List What) → is_let_go (shown d) ≡ true → Fits (shown d) a → Idle (with_step (step_of d a) own)
idle_after d a own e f =
    let q : d ≡ Deed.LetGo = let-go d e in
    let f' : Fits named.LetGo a = rw q at f in
    rw q (by-answer a f')
  where
    by-answer : (a : Answer) → Fits named.LetGo a → Idle (with_step (step_of Deed.LetGo a) own)
    by-answer Done f = idle-after own
    by-answer (Received n) f = absurd f
    by-answer (Bytes bytes) f = absurd f
    by-answer (Number n) f = absurd f
    by-answer NotYet f = absurd f
    by-answer (Failed e) f = absurd f

-- ---- Inside a session

-- no answer yet is a skip, and is not remembered
unanswered : (d : Deed) (own : List What) → with_step (step_of d NotYet) own ≡ own
unanswered Deed.Recv own = refl
unanswered d own = refl

pub not_yet : (d : Deed) (a : Answer) (own : List What) → is_not_yet a ≡ true → with_step (step_of d a) own ≡ own
not_yet d NotYet own h = unanswered d own
not_yet d a own h = cc

-- the request of a deed, if it has one
abbrev pub request_or : Deed → Request
request_or (Deed.Act request cap) = request
request_or d = Sysinfo 0

-- the bytes of a deed, if it has any
abbrev pub bytes_or : Deed → List ℕ
bytes_or (Deed.Plant addr bytes cap) = bytes
bytes_or d = []

pub named_back : (d : Deed) → d ≡ deed_of (request_or d) (bytes_or d) (shown d)
named_back (Deed.Act request cap) = refl
named_back (Deed.Plant addr bytes cap) = refl
named_back d = refl

-- what a session can take is a step of it, unless there is no answer yet
answered : (q : Request) (b : List ℕ) (d : Named) (a : Answer) (c : Captured) (stage : Stage) → CanTake d a c stage → Fits d a → is_not_yet a ≡ false
    → (skips (step_of (deed_of q b d) a) ≡ false) × (starts (step_of (deed_of q b d) a) ≡ false)
answered q b named.Recv a c stage t f n = absurd t
answered q b named.LetGo a c stage t f n = absurd t
answered q b named.AddfdTake (Number x) c stage t f n = (refl, refl)
answered q b named.AddfdTake (Failed e) c stage t f n = (refl, refl)
answered q b named.AddfdTake NotYet c stage t f n = cc
answered q b named.AddfdTake Done c stage t f n = absurd f
answered q b named.AddfdTake (Received x) c stage t f n = absurd f
answered q b named.AddfdTake (Bytes bytes) c stage t f n = absurd f
answered q b (named.Read addr len) (Bytes bytes) c stage t f n = (refl, refl)
answered q b (named.Read addr len) (Failed e) c stage t f n = (refl, refl)
answered q b (named.Read addr len) NotYet c stage t f n = absurd f
answered q b (named.Read addr len) Done c stage t f n = absurd f
answered q b (named.Read addr len) (Received x) c stage t f n = absurd f
answered q b (named.Read addr len) (Number x) c stage t f n = absurd f
answered q b d Done c stage t f n = (refl, refl)
answered q b d (Failed e) c stage t f n = (refl, refl)
answered q b d (Received x) c stage t f n = absurd f
answered q b d (Bytes x) c stage t f n = absurd f
answered q b d (Number x) c stage t f n = absurd f
answered q b d NotYet c stage t f n = absurd f

none-some : {A : Type 0} {x : A} → None ≡ Some x → ⊥
none-some h = cc

-- an open session is of some steps, and goes on with the next
goes-on : (rules : List Rule) (own : List What) (what : What) (c d : Captured) (old new : Session) → skips what ≡ false → starts what ≡ false
    → Knows rules own c old → Knows rules (what ∷ own) d new → Knows rules (with_step what own) d new
goes-on rules [] what c d old new k s h g = absurd (none-some h.notif)
goes-on rules (a ∷ own) what c d old new k s h g = rw (k, s) g

pub one_more : (rules : List Rule) (own : List What) (c c' : Captured) (old new : Session) (d : Deed) (n : Named) (a : Answer) → n ≡ shown d → CanTake n a c old.stage → Fits n a
    → is_not_yet a ≡ false → ((q : Request) (b : List ℕ) → Knows rules (step_of (deed_of q b n) a ∷ own) c' new) → Knows rules own c old → Knows rules (with_step (step_of d a) own) c' new
one_more rules own c c' old new d n a e t f y g k =
    let q : d ≡ deed_of (request_or d) (bytes_or d) n = named_back d ∙ ap (deed_of (request_or d) (bytes_or d)) (sym e) in
    let p = answered (request_or d) (bytes_or d) n a c old.stage t f y in
    let r : Knows rules (with_step (step_of (deed_of (request_or d) (bytes_or d) n) a) own) c' new = goes-on rules own (step_of (deed_of (request_or d) (bytes_or d) n) a) c c' old new p.0 p.1 k (g (request_or d) (bytes_or d)) in
    rw (ap (λ x. step_of x a) q) r

-- what fits a deed fits it under another name
pub fits_as : (n m : Named) (a : Answer) → n ≡ m → Fits n a → Fits m a
fits_as n m a e f = subst (λ x. Fits x a) e f
