-- What `ready` makes: a judgement of the session's own copy, and the granted request. The session's steps stay what is remembered.
-- By cases on the progress of the copy, and field by field of `Knows`.
use Rattle.std.proofs.Common.{◌≡◌, ℕ, Bool, true, false, List, [], refl, ap, sym, ◌∙◌, Option, Some, None}
use Rattle.std.specs.Prelude.{Result, Ok, Err}
use Rattle.std.proofs.lemmas.List.{append-nil}
use Rattle.hist_model.specs.Copies.{Progress, Wants, Complete, Faulty, plan, progress}
use Rattle.hist_model.specs.Decisions.{granted_by}
use Rattle.hist_model.specs.Legal.{copied}
use Rattle.hist_model.specs.Requests.{request}
use Rattle.hist_model.specs.Sessions.{reads_of}
use Rattle.hist_model.specs.declared.event.What.{What}
use Rattle.hist_model.specs.declared.policy.Rule.{Rule}
use Rattle.hist_model.specs.declared.request.ArgCopy.{ArgCopy}
use Rattle.hist_model.specs.declared.request.Request.{Request}
use Rattle.arg_capture.specs.Captures.{Captured, Reached, continued, Follows, Finishes, IsKept, reached_progress, unless_faulty}
use Rattle.sys_abi.specs.declared.wire.Notif.{Notif}
use Rattle.broker_core.specs.Judged.{judgement_of, judgement_as}
use Rattle.broker_core.specs.Remembered.{Knows, IsAtStage, IsEffect, IsFound, answers_of, good_checks}
use Rattle.broker_core.specs.declared.judgement.Judgement.{Judgement}
use Rattle.broker_core.specs.declared.session.Stage.TheVariants.{Reading, Judged, Confirmed}
use Rattle.broker_core.specs.declared.session.Session.{Session}

-- ---- The judgement

pub found_copy : (rules : List Rule) (n : Notif) (p : Progress) (copy : ArgCopy) (j : Judgement) → Finishes p (Ok copy)
    → j ≡ judgement_of rules (request n.call.nr n.call.args copy.texts) → IsFound rules false n p (Ok j)
found_copy rules n (Wants a l) copy j h e = absurd h
found_copy rules n (Complete texts) copy j h e = e ∙ ap (λ t. judgement_of rules (request n.call.nr n.call.args t)) h
found_copy rules n (Faulty f) copy j h e = absurd h

pub found_fault : (rules : List Rule) (n : Notif) (p : Progress) (f : ℕ) → Finishes p (Err f) → IsFound rules false n p (Err f)
found_fault rules n (Wants a l) f h = absurd h
found_fault rules n (Complete texts) f h = absurd h
found_fault rules n (Faulty e) f h = h

-- a judgement whose request is made the granted one
pub granted_judgement : (rules : List Rule) (q : Request) (j k : Judgement) → j ≡ judgement_as false rules q
    → k ≡ record j { request = granted_by rules j.rule j.request } → k ≡ judgement_as true rules q
granted_judgement rules q j k e h = h ∙ ap (λ (i : Judgement). record i { request = granted_by rules i.rule i.request }) e

-- ---- What is remembered

module _ (rules : List Rule) (own : List What) (c : Captured) (s : Session) (k : Knows rules own c s) where
  -- the stage is that of another capture
  with_capture : (d : Captured) → IsAtStage rules s.granted s.notif own d s.stage → Knows rules own d s
  with_capture d h = record {
    notif = k.notif;
    stays = k.stays;
    gave_up = k.gave_up;
    opened = k.opened;
    based = k.based;
    good = k.good;
    checks = k.checks;
    outcome = k.outcome;
    put = k.put;
    take = k.take;
    stage = h;
    effect = k.effect;
  }

  -- what is copied is as far as the capture
  pub copied_so_far : Follows (plan s.notif.call.nr s.notif.call.args) (answers_of own) c → copied s.notif (reads_of own) ≡ continued c []
  copied_so_far f = sym (f [] ∙ ap (progress (plan s.notif.call.nr s.notif.call.args)) (append-nil (answers_of own)))

same-progress : (r t : Reached) (a b : Option ℕ) (later : List (Result (List ℕ) ℕ)) → IsKept r t → b ≡ a → unless_faulty b (reached_progress t later) ≡ unless_faulty a (reached_progress r later)
same-progress r t a b later h e = rw (e, h.0, h.1, h.2) refl

-- a capture with more room
pub known_room : (rules : List Rule) (own : List What) (c d : Captured) (s : Session) → s.stage ≡ Reading → IsKept c.reached d.reached → d.fault ≡ c.fault
    → Knows rules own c s → Knows rules own d s
known_room rules own c d s e h f k =
    let a : IsAtStage rules s.granted s.notif own c Reading = rw e at k.stage in
    let b : IsAtStage rules s.granted s.notif own d Reading = (λ later. same-progress c.reached d.reached c.fault d.fault later h f ∙ a.0 later, a.1) in
    with_capture rules own c s k d (rw e b)

-- the judgement in the place of the reading
effect-judged : (g : Bool) (f : Result Judgement ℕ) (o : Option Request) → IsEffect g Reading o → IsEffect g (Judged f) o
effect-judged g f None h = tt
effect-judged g f (Some q) h = h

pub known_judged : (rules : List Rule) (own : List What) (c d : Captured) (s t : Session) (f : Result Judgement ℕ) → s.stage ≡ Reading
    → IsFound rules false s.notif (continued c []) f → t ≡ record s { stage = Judged f } → Knows rules own c s → Knows rules own d t
known_judged rules own c d s t f e h q k =
    let a : IsAtStage rules s.granted s.notif own c Reading = rw e at k.stage in
    let b : IsFound rules s.granted s.notif (copied s.notif (reads_of own)) f = rw (a.1, copied_so_far rules own c s k a.0) h in
    let n : good_checks s.stage ≡ 1 = ap good_checks e in
    let x : IsEffect s.granted Reading s.effect = rw e at k.effect in
    rw q (record {
      notif = k.notif;
      stays = k.stays;
      gave_up = k.gave_up;
      opened = k.opened;
      based = k.based;
      good = k.good ∙ n;
      checks = λ z. k.checks z ∙ n;
      outcome = k.outcome;
      put = k.put;
      take = k.take;
      stage = b;
      effect = effect-judged s.granted f s.effect x;
    })

-- ---- The granted request

found-as : (rules : List Rule) (g h : Bool) (n : Notif) (p : Progress) (j k : Judgement)
    → ((q : Request) → j ≡ judgement_as g rules q → k ≡ judgement_as h rules q) → IsFound rules g n p (Ok j) → IsFound rules h n p (Ok k)
found-as rules g h n (Wants a l) j k f e = absurd e
found-as rules g h n (Complete texts) j k f e = f (request n.call.nr n.call.args texts) e
found-as rules g h n (Faulty x) j k f e = absurd e

pub known_granted : (rules : List Rule) (own : List What) (c : Captured) (s t : Session) (j k : Judgement) → s.stage ≡ Confirmed (Ok j)
    → ((q : Request) → j ≡ judgement_as s.granted rules q → k ≡ judgement_as t.granted rules q)
    → t ≡ record s { stage = Confirmed (Ok k); granted = t.granted; effect = t.effect } → IsEffect t.granted (Confirmed (Ok k)) t.effect
    → Knows rules own c s → Knows rules own c t
known_granted rules own c s t j k e f q x r =
    let a : IsFound rules s.granted s.notif (copied s.notif (reads_of own)) (Ok j) = rw e at r.stage in
    let b : IsFound rules t.granted s.notif (copied s.notif (reads_of own)) (Ok k) = found-as rules s.granted t.granted s.notif (copied s.notif (reads_of own)) j k f a in
    let n : good_checks s.stage ≡ 2 = ap good_checks e in
    by-parts t.granted t.effect q b n x
  where
    by-parts : (g : Bool) (o : Option Request) → t ≡ record s { stage = Confirmed (Ok k); granted = g; effect = o }
        → IsFound rules g s.notif (copied s.notif (reads_of own)) (Ok k) → good_checks s.stage ≡ 2 → IsEffect g (Confirmed (Ok k)) o → Knows rules own c t
    by-parts g o q b n x = rw q (record {
      notif = r.notif;
      stays = r.stays;
      gave_up = r.gave_up;
      opened = r.opened;
      based = r.based;
      good = r.good ∙ n;
      checks = λ z. r.checks z ∙ n;
      outcome = r.outcome;
      put = r.put;
      take = r.take;
      stage = b;
      effect = x;
    })
