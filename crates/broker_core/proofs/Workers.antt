-- What a worker remembers gives its next deed, what that deed tells of the session, and the start and end of a session.
-- By cases on the session, its stage and the judgement, with the fields of `Knows`, and by induction on the steps.
use Rattle.std.proofs.Common.{◌≡◌, ℕ, suc, Bool, true, false, not, List, [], ◌∷◌, refl, ap, sym, subst, ◌∙◌, Option, Some, None, inl, inr, arith}
use Rattle.std.specs.Prelude.{if◌then◌else◌, ◌==◌, ℤ, Result, Ok, Err, slice_get}
use Rattle.std.proofs.lemmas.Bool.{cases_Bool, ne_eqb}
use Rattle.hist_model.specs.Copies.{Progress, Wants, Complete, Faulty}
use Rattle.hist_model.specs.Decisions.{decide, cap_of, granted_by, granted_where}
use Rattle.hist_model.specs.Deeds.{Deed}
use Rattle.hist_model.specs.Kinds.{checks}
use Rattle.hist_model.specs.Legal.{rules_of, copied, copy_fault, cloexec_of, decision, grant_decision, judged}
use Rattle.hist_model.specs.Requests.{base_dirfd, request}
use Rattle.hist_model.specs.Sessions.{Rules, after_act, deed_for, notif_of, deed, any_of, number_of, reads_of, copied_deed, decided_deed, judged_deed, based_deed as based, checked_deed as checked}
use Rattle.hist_model.specs.Sysinfo.{container_sysinfo}
use Rattle.hist_model.specs.declared.event.What.{What}
use Rattle.hist_model.specs.declared.policy.Cap.{Cap}
use Rattle.hist_model.specs.declared.policy.Policy.{Policy}
use Rattle.hist_model.specs.declared.policy.Rule.{Rule}
use Rattle.hist_model.specs.declared.policy.Verdict.{Verdict}
use Rattle.hist_model.specs.declared.policy.Verdict.TheVariants.{Grant, Deny, Pass, Inject}
use Rattle.hist_model.specs.declared.request.Request.{Request}
use Rattle.hist_model.specs.declared.request.Request.TheVariants.{Mount, Sysinfo}
use Rattle.hist_model.specs.declared.script.Figures.{Figures}
use Rattle.arg_capture.specs.Captures.{Captured, continued, wanted}
use Rattle.sys_abi.specs.declared.wire.Notif.{Notif}
use Rattle.broker_core.specs.Answers.{shown}
use Rattle.broker_core.specs.Deeds.{Granting, own_request, due, grant_deed, verdict_deed, found_deed, piece_deed, stage_deed, based_deed, session_deed, worker_deed}
use Rattle.broker_core.specs.Judged.{request_as, judgement_as}
use Rattle.broker_core.specs.Remembered.{Knows, KnowsIf, Remembers, Idle, IsAtStage, IsEffect, IsFound, good_checks}
use Rattle.broker_core.specs.declared.deed.Deed.{Deed as Named}
use Rattle.broker_core.specs.declared.judgement.Judgement.{Judgement}
use Rattle.broker_core.specs.declared.session.Stage.{Stage}
use Rattle.broker_core.specs.declared.session.Stage.TheVariants.{Unchecked, Reading, Judged, Confirmed}
use Rattle.broker_core.specs.declared.session.Session.{Session}
use Rattle.broker_core.specs.declared.worker.Worker.{Worker}
use Rattle.broker_core.proofs.Judging.{copied_so_far}
use Rattle.broker_core.proofs.Dues.{Acts, Tells, told_session}

-- ---- Granted requests

-- what a rule grants is of the same call, with the same flags, and granting it again changes nothing
same-effect : (F : Figures) (s : Session) (cap : Option Cap) (e : Request) (o : Option Rule) (q : Request) → grant_deed F s cap e (granted_where o q) ≡ grant_deed F s cap e q
same-effect F s cap e None q = refl
same-effect F s cap e (Some rule) (Mount source target fstype options via flags shift) = refl
same-effect F s cap e (Some rule) q = refl

same-flags : (o : Option Rule) (q : Request) → cloexec_of (granted_where o q) ≡ cloexec_of q
same-flags None q = refl
same-flags (Some rule) (Mount source target fstype options via flags shift) = refl
same-flags (Some rule) q = refl

granted-twice : (o : Option Rule) (q : Request) → granted_where o (granted_where o q) ≡ granted_where o q
granted-twice None q = refl
granted-twice (Some rule) (Mount source target fstype options via flags shift) = refl
granted-twice (Some rule) q = refl

-- what the rules grant of a judgement's request
abbrev pub granting : List Rule → Granting
granting rules j = granted_by rules j.rule j.request

granted-as : (rules : List Rule) (g : Bool) (i : ℕ) (q : Request) → granted_by rules i (request_as g rules i q) ≡ granted_by rules i q
granted-as rules true i q = granted-twice (slice_get rules i) q
granted-as rules false i q = refl

effect-as : (F : Figures) (s : Session) (cap : Option Cap) (e : Request) (rules : List Rule) (g : Bool) (i : ℕ) (q : Request) → grant_deed F s cap e (request_as g rules i q) ≡ grant_deed F s cap e q
effect-as F s cap e rules true i q = same-effect F s cap e (slice_get rules i) q
effect-as F s cap e rules false i q = refl

flags-as : (rules : List Rule) (g : Bool) (i : ℕ) (q : Request) → cloexec_of (request_as g rules i q) ≡ cloexec_of q
flags-as rules true i q = same-flags (slice_get rules i) q
flags-as rules false i q = refl

-- ---- The next deed

any-number : (p : What → Bool) (own : List What) → any_of p own ≡ not (number_of p own == 0)
any-number p [] = refl
any-number p (a ∷ own) = elim (cases_Bool (p a)) [
  | inl h ↦ let n : (suc (number_of p own) ≡ 0 → ⊥) = omega arith in rw (h, ne_eqb (suc (number_of p own)) 0 n) refl
  | inr h ↦ rw h (any-number p own)
]

module _ (P : Policy) (F : Figures) (own : List What) (c : Captured) (s : Session) (k : Knows P.rules own c s) where
  granted-known : (i : ℕ) (q : Request) → decided_deed s.notif.id own (grant_decision P F i q) ≡ grant_deed F s (cap_of P.rules i) (granted_by P.rules i q) q
  granted-known i (Sysinfo addr) = rw k.outcome refl
  granted-known i q = rw k.outcome refl

  verdict-known : (g : Bool) (q : Request) (i : ℕ) (v : Verdict)
      → decided_deed s.notif.id own (decision P F q i v) ≡ verdict_deed (granting P.rules) F s (record { request = request_as g P.rules i q; rule = i; verdict = v; cap = cap_of P.rules i }) v
  verdict-known g q i Grant =
      granted-known i q ∙ sym (ap (λ e. grant_deed F s (cap_of P.rules i) e (request_as g P.rules i q)) (granted-as P.rules g i q) ∙ effect-as F s (cap_of P.rules i) (granted_by P.rules i q) P.rules g i q)
  verdict-known g q i (Deny e) = refl
  verdict-known g q i Pass = refl
  verdict-known g q i (Inject src at) = rw (k.put, k.take, flags-as P.rules g i q) refl

  -- a copy that was found to be complete or to have a fault wants nothing
  found-whole : (p : Progress) (f : Result Judgement ℕ) → IsFound P.rules s.granted s.notif p f → wanted p ≡ None
  found-whole (Wants addr len) f h = absurd h
  found-whole (Complete texts) f h = refl
  found-whole (Faulty e) f h = refl

  found-known : (p : Progress) (f : Result Judgement ℕ) → copied s.notif (reads_of own) ≡ p → IsFound P.rules s.granted s.notif p f
      → judged_deed (rules_of P F) s.notif own ((rules_of P F).fault s.notif (reads_of own)) ≡ found_deed (granting P.rules) F s f
  found-known (Wants addr len) f e h = absurd h
  found-known (Complete texts) (Ok j) e h =
      let q = request s.notif.call.nr s.notif.call.args texts in
      let d = decide P.rules q in
      ap (λ x. judged_deed (rules_of P F) s.notif own (copy_fault x)) e
      ∙ ap (λ x. decided_deed s.notif.id own (judged P F s.notif x)) e
      ∙ verdict-known s.granted q d.0 d.1
      ∙ sym (ap (λ (i : Judgement). verdict_deed (granting P.rules) F s i i.verdict) h)
  found-known (Complete texts) (Err x) e h = absurd h
  found-known (Faulty x) (Ok j) e h = absurd h
  found-known (Faulty x) (Err y) e h = ap (λ z. judged_deed (rules_of P F) s.notif own (copy_fault z)) e ∙ ap (λ z. found_deed (granting P.rules) F s (Err z)) (sym h)

  -- a piece, or the second check
  piece-known : (o : Option (ℕ × ℕ)) → number_of checks own ≡ 1 → copied_deed (rules_of P F) s.notif own o ≡ piece_deed s o
  piece-known (Some a) m = refl
  piece-known None m = rw m refl

  -- after a check
  after-check : any_of checks own ≡ true → checked (rules_of P F) s.notif own ≡ copied_deed (rules_of P F) s.notif own ((rules_of P F).next_piece s.notif (reads_of own))
  after-check h = rw h refl

  any-check : (n : ℕ) → number_of checks own ≡ n → any_of checks own ≡ not (n == 0)
  any-check n m = any-number checks own ∙ ap (λ x. not (x == 0)) m

  stage-known : (stage : Stage) → IsAtStage P.rules s.granted s.notif own c stage → number_of checks own ≡ good_checks stage
      → checked (rules_of P F) s.notif own ≡ stage_deed (granting P.rules) F c s stage
  stage-known Unchecked a m = let q : any_of checks own ≡ false = any-check 0 m in rw q refl
  stage-known Reading a m =
      let w : (rules_of P F).next_piece s.notif (reads_of own) ≡ wanted (continued c []) = ap wanted (copied_so_far P.rules own c s k a.0) in
      after-check (any-check 1 m) ∙ ap (copied_deed (rules_of P F) s.notif own) w ∙ piece-known (wanted (continued c [])) m
  stage-known (Judged f) a m =
      let w : (rules_of P F).next_piece s.notif (reads_of own) ≡ None = found-whole (copied s.notif (reads_of own)) f a in
      after-check (any-check 1 m) ∙ ap (copied_deed (rules_of P F) s.notif own) w ∙ piece-known None m
  stage-known (Confirmed f) a m =
      let w : (rules_of P F).next_piece s.notif (reads_of own) ≡ None = found-whole (copied s.notif (reads_of own)) f a in
      after-check (any-check 2 m) ∙ ap (copied_deed (rules_of P F) s.notif own) w ∙ twice m ∙ found-known (copied s.notif (reads_of own)) f refl a
    where
      twice : number_of checks own ≡ 2 → copied_deed (rules_of P F) s.notif own None ≡ judged_deed (rules_of P F) s.notif own ((rules_of P F).fault s.notif (reads_of own))
      twice m = rw m refl

  based-known : s.gave_up ≡ false → (d : Option ℤ) → based (rules_of P F) s.notif own d ≡ based_deed (granting P.rules) F c s d
  based-known g None = stage-known s.stage k.stage (k.checks g)
  based-known g (Some d) = rw k.based (ap (λ x. if not s.based then Deed.OpenBase s.notif.pid d else x) (stage-known s.stage k.stage (k.checks g)))

  -- the deed by the definitions is the one by what is remembered
  pub known_deed : deed (rules_of P F) own ≡ session_deed (granting P.rules) F c s
  unfolding deed
  known_deed = rw (k.notif, k.stays, k.gave_up, k.opened) (elim (cases_Bool s.gave_up) [
    | inl h ↦ rw h refl
    | inr h ↦ rw h (ap (λ d. if not s.opened then Deed.OpenMem s.notif.pid else d) (based-known h (base_dirfd s.notif.call.nr s.notif.call.args)))
  ])

-- no session is open at the start
pub idle_start : Idle []
idle_start = inl refl

idle-deed : (R : Rules) (own : List What) → Idle own → deed R own ≡ Deed.Recv
unfolding deed
idle-deed R [] h = refl
idle-deed R (a ∷ own) (inl h) = cc
idle-deed R (a ∷ own) (inr h) = by-notif (notif_of (a ∷ own))
  where
    by-notif : (o : Option Notif) → deed_for R o (a ∷ own) ≡ Deed.Recv
    by-notif None = refl
    by-notif (Some n) = rw h refl

-- the deed of a worker is the one by its steps
pub worker_known : (P : Policy) (F : Figures) (own : List What) (c : Captured) (o : Option Session) → KnowsIf P.rules own c o
    → worker_deed (granting P.rules) F c o ≡ deed (rules_of P F) own
worker_known P F own c None h = sym (idle-deed (rules_of P F) own h)
worker_known P F own c (Some s) k = sym (known_deed P F own c s k)

-- which request is granted doesn't change what the worker names
module _ (G H : Granting) (F : Figures) (c : Captured) where
  alike-if : (b : Bool) (x y z : Deed) → shown y ≡ shown z → shown (if b then x else y) ≡ shown (if b then x else z)
  alike-if true x y z h = refl
  alike-if false x y z h = h

  alike-act : (id : ℕ) (o : Option (Result (Unit {0}) ℕ)) (e f : Request) (cap : Option Cap) → shown (after_act id o (Deed.Act e cap)) ≡ shown (after_act id o (Deed.Act f cap))
  alike-act id None e f cap = refl
  alike-act id (Some r) e f cap = refl

  module _ (s : Session) where
    alike-grant : (cap : Option Cap) (e f q : Request) → shown (grant_deed F s cap e q) ≡ shown (grant_deed F s cap f q)
    alike-grant cap e f (Sysinfo addr) = refl
    alike-grant cap e f q = alike-act s.notif.id s.outcome e f cap

    alike-verdict : (j : Judgement) (v : Verdict) → shown (verdict_deed G F s j v) ≡ shown (verdict_deed H F s j v)
    alike-verdict j Grant = alike-grant j.cap (G j) (H j) j.request
    alike-verdict j v = refl

    alike-stage : (stage : Stage) → shown (stage_deed G F c s stage) ≡ shown (stage_deed H F c s stage)
    alike-stage (Confirmed (Ok j)) = alike-verdict j j.verdict
    alike-stage (Confirmed (Err e)) = refl
    alike-stage stage = refl

    alike-based : (d : Option ℤ) → shown (based_deed G F c s d) ≡ shown (based_deed H F c s d)
    alike-based None = alike-stage s.stage
    alike-based (Some d) = alike-if (not s.based) (Deed.OpenBase s.notif.pid d) _ _ (alike-stage s.stage)

    alike-session : shown (session_deed G F c s) ≡ shown (session_deed H F c s)
    alike-session = alike-if s.gave_up Deed.LetGo _ _ (alike-if (not s.opened) (Deed.OpenMem s.notif.pid) _ _ (alike-based (base_dirfd s.notif.call.nr s.notif.call.args)))

  alike : (o : Option Session) → shown (worker_deed G F c o) ≡ shown (worker_deed H F c o)
  alike None = refl
  alike (Some s) = alike-session s

-- what is due is the deed by the steps
pub due_deed : (P : Policy) (own : List What) (w : Worker) (d : Named) → d ≡ due w → Remembers P own w → d ≡ shown (deed (rules_of P w.figures) own)
due_deed P own w d h k = h ∙ alike own_request (granting P.rules) w.figures w.capture w.session ∙ ap shown (worker_known P w.figures own w.capture w.session k)

-- where no session is open a receive is due
pub receives_next : (P : Policy) (F : Figures) (own : List What) (c : Captured) (o : Option Session) → o ≡ None → KnowsIf P.rules own c o → deed (rules_of P F) own ≡ Deed.Recv
receives_next P F own c o e h = let i : KnowsIf P.rules own c None = rw e at h in idle-deed (rules_of P F) own i

-- ---- The bytes of a plant

-- they are the answer of sysinfo
pub planted_known : (P : Policy) (F : Figures) (own : List What) (c : Captured) (o : Option Session) (addr : ℕ) (bytes : List ℕ) (cap : Option Cap) → KnowsIf P.rules own c o
    → deed (rules_of P F) own ≡ Deed.Plant addr bytes cap → container_sysinfo F ≡ bytes
planted_known P F own c None addr bytes cap h d = let e : Deed.Recv ≡ Deed.Plant addr bytes cap = sym (idle-deed (rules_of P F) own h) ∙ d in cc
planted_known P F own c (Some s) addr bytes cap k d =
    let t : Tells (granting P.rules) F c s (session_deed (granting P.rules) F c s) = told_session (granting P.rules) F c s in
    subst (λ x. Tells (granting P.rules) F c s x) (sym (known_deed P F own c s k) ∙ d) t

-- ---- The request of an act

found-granted : (rules : List Rule) (g : Bool) (n : Notif) (p : Progress) (j : Judgement) → g ≡ true → IsFound rules g n p (Ok j) → granting rules j ≡ j.request
found-granted rules g n (Wants a l) j t h = absurd h
found-granted rules g n (Faulty e) j t h = absurd h
found-granted rules g n (Complete texts) j t h =
    let q = request n.call.nr n.call.args texts in
    let e : j ≡ judgement_as true rules q = rw t at h in
    ap (granting rules) e ∙ granted-twice (slice_get rules (decide rules q).0) q ∙ sym (ap (λ (i : Judgement). i.request) e)

effect-of : (g : Bool) (stage : Stage) (o : Option Request) (j : Judgement) (q : Request) → stage ≡ Confirmed (Ok j) → o ≡ Some q → IsEffect g stage o → (g ≡ true) × (q ≡ j.request)
effect-of g stage o j q e f h = rw (e, f) at h

-- what the event of a due act keeps is the request of the deed
pub effect_known : (P : Policy) (F : Figures) (own : List What) (c : Captured) (s : Session) (x q : Request) (limit : Option Cap) → Knows P.rules own c s → s.effect ≡ Some x
    → deed (rules_of P F) own ≡ Deed.Act q limit → x ≡ q
effect_known P F own c s x q limit k e d =
    let t : Tells (granting P.rules) F c s (session_deed (granting P.rules) F c s) = told_session (granting P.rules) F c s in
    let a : Acts (granting P.rules) s q = subst (λ x. Tells (granting P.rules) F c s x) (sym (known_deed P F own c s k) ∙ d) t in
    let f = effect-of s.granted s.stage s.effect a.judgement x a.stage e k.effect in
    let b : IsFound P.rules s.granted s.notif (copied s.notif (reads_of own)) (Ok a.judgement) = rw a.stage at k.stage in
    f.1 ∙ sym (found-granted P.rules s.granted s.notif (copied s.notif (reads_of own)) a.judgement f.0 b) ∙ sym a.effect

pub effect_taken : (P : Policy) (F : Figures) (own : List What) (c : Captured) (o : Option Session) (s : Session) (x q : Request) (limit : Option Cap) → o ≡ Some s → KnowsIf P.rules own c o → s.effect ≡ Some x
    → deed (rules_of P F) own ≡ Deed.Act q limit → x ≡ q
effect_taken P F own c o s x q limit e h f d = let k : KnowsIf P.rules own c (Some s) = rw e at h in effect_known P F own c s x q limit k f d
