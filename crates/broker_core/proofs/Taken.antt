-- What a session takes is remembered as one more of its steps.
-- By the cases of the deed and of its answer, and field by field of `Knows` and `Noted`.
use Rattle.std.proofs.Common.{◌≡◌, ℕ, suc, Bool, true, false, ◌||◌, List, [], ◌∷◌, ◌++◌, reverse, refl, ap, sym, ◌∙◌, Option, Some, None, arith}
use Rattle.std.specs.Prelude.{Result, Ok, Err}
use Rattle.std.proofs.lemmas.List.{reverse-append}
use Rattle.hist_model.specs.Copies.{plan}
use Rattle.hist_model.specs.Kinds.{starts, is_letgo, gives_up, opens, opens_base, checks, is_good_check, is_read}
use Rattle.hist_model.specs.Legal.{read_answers}
use Rattle.hist_model.specs.Sessions.{reads_of, number_of, fetched_by, outcome_in, put_in, take_in, or_some}
use Rattle.hist_model.specs.declared.event.What.{What}
use Rattle.hist_model.specs.declared.event.What.TheVariants as step
use Rattle.hist_model.specs.declared.policy.Rule.{Rule}
use Rattle.hist_model.specs.declared.request.Request.{Request}
use Rattle.arg_capture.specs.Captures.{Captured, Follows}
use Rattle.sys_abi.specs.declared.wire.Notif.{Notif}
use Rattle.broker_core.specs.Answers.{Answer, Received, Done, Bytes, Number, NotYet, Failed, deed_of, step_of}
use Rattle.broker_core.specs.Remembered.{Knows, IsAtStage, IsEffect, answers_of, good_checks}
use Rattle.broker_core.specs.Taking.{CanTake, IsCheckable, Advances, Noted, confirmed}
use Rattle.broker_core.specs.declared.deed.Deed.{Deed}
use Rattle.broker_core.specs.declared.deed.Deed.TheVariants.{Recv, OpenMem, OpenBase, Check, Read, Act, Plant, AddfdPut, AddfdTake, Send, LetGo}
use Rattle.broker_core.specs.declared.session.Stage.{Stage}
use Rattle.broker_core.specs.declared.session.Stage.TheVariants.{Unchecked, Reading, Judged, Confirmed}
use Rattle.broker_core.specs.declared.session.Session.{Session}

-- ---- Plain steps

-- the step neither begins nor ends a session, and neither checks nor reads
abbrev is_plain : What → Bool
is_plain (step.Recv (Ok n)) = false
is_plain (step.Check x answer) = false
is_plain (step.Read a l answer) = false
is_plain step.LetGo = false
is_plain _ = true

record Plain (what : What) : Type 0 where
  starts : starts what ≡ false
  letgo : is_letgo what ≡ false
  checks : checks what ≡ false
  good : is_good_check what ≡ false
  read : is_read what ≡ false

plain-parts : (what : What) → is_plain what ≡ true → Plain what
plain-parts (step.Recv (Ok n)) h = cc
plain-parts (step.Check x answer) h = cc
plain-parts (step.Read a l answer) h = cc
plain-parts step.LetGo h = cc
plain-parts (step.Recv (Err e)) h = record { starts = refl; letgo = refl; checks = refl; good = refl; read = refl }
plain-parts what h = record { starts = refl; letgo = refl; checks = refl; good = refl; read = refl }

-- the deed neither begins nor ends a session, and neither checks nor reads
abbrev IsPlainDeed : Deed → Type 0
IsPlainDeed Recv = ⊥
IsPlainDeed (Check id) = ⊥
IsPlainDeed (Read addr len) = ⊥
IsPlainDeed LetGo = ⊥
IsPlainDeed _ = Unit {0}

plain-step : (q : Request) (b : List ℕ) (d : Deed) (a : Answer) → IsPlainDeed d → is_plain (step_of (deed_of q b d) a) ≡ true
plain-step q b d a h = grind arith

-- ---- The fields that a step changes

-- the step tells nothing that is noted
abbrev TellsNothing : Deed → Type 0
TellsNothing Recv = Unit {0}
TellsNothing (Read addr len) = Unit {0}
TellsNothing LetGo = Unit {0}
TellsNothing _ = ⊥

pub tells_nothing : (q : Request) (b : List ℕ) (d : Deed) (a : Answer) (s : Session) → TellsNothing d → Noted (step_of (deed_of q b d) a) s s
tells_nothing q b d a s h = grind arith

-- what a step makes of the stage
record Staged (rules : List Rule) (own : List What) (what : What) (c : Captured) (s : Session) (stage : Stage) : Type 0 where
  good : number_of is_good_check (what ∷ own) ≡ good_checks stage
  checks : (gives_up what || s.gave_up) ≡ false → number_of checks (what ∷ own) ≡ good_checks stage
  at : IsAtStage rules s.granted s.notif (what ∷ own) c stage
  effect : IsEffect s.granted stage s.effect

-- a step that begins no session fetches nothing
no-fetch : (what : What) → starts what ≡ false → fetched_by what ≡ None
no-fetch (step.Recv (Ok n)) h = cc
no-fetch (step.Recv (Err e)) h = refl
no-fetch what h = refl

known-step : (rules : List Rule) (own : List What) (what : What) (c d : Captured) (s m t : Session) → starts what ≡ false → is_letgo what ≡ false
    → Knows rules own c s → m ≡ record s { stage = m.stage } → Staged rules own what d s m.stage → Noted what m t → Knows rules (what ∷ own) d t
known-step rules own what c d s m t z l k e f n = record {
  notif = rw (no-fetch what z, n.notif, ap (λ (r : Session). r.notif) e) k.notif;
  stays = rw (l, k.stays) refl;
  gave_up = ap (λ b. gives_up what || b) (k.gave_up ∙ sym (ap (λ (r : Session). r.gave_up) e)) ∙ sym n.gave_up;
  opened = ap (λ b. opens what || b) (k.opened ∙ sym (ap (λ (r : Session). r.opened) e)) ∙ sym n.opened;
  based = ap (λ b. opens_base what || b) (k.based ∙ sym (ap (λ (r : Session). r.based) e)) ∙ sym n.based;
  good = f.good ∙ ap good_checks (sym n.stage);
  checks = λ g. f.checks (ap (λ b. gives_up what || b) (sym (ap (λ (r : Session). r.gave_up) e)) ∙ sym n.gave_up ∙ g) ∙ ap good_checks (sym n.stage);
  outcome = ap (or_some (outcome_in what)) (k.outcome ∙ sym (ap (λ (r : Session). r.outcome) e)) ∙ sym n.outcome;
  put = ap (or_some (put_in what)) (k.put ∙ sym (ap (λ (r : Session). r.put) e)) ∙ sym n.put;
  take = ap (or_some (take_in what)) (k.take ∙ sym (ap (λ (r : Session). r.take) e)) ∙ sym n.take;
  stage = rw (n.granted, n.notif, n.stage, ap (λ (r : Session). r.granted) e, ap (λ (r : Session). r.notif) e) f.at;
  effect = rw (n.granted, n.stage, n.effect, ap (λ (r : Session). r.granted) e, ap (λ (r : Session). r.effect) e) f.effect;
}

-- ---- The stage

or-false : (a b : Bool) → (a || b) ≡ false → b ≡ false
or-false true b h = cc
or-false false b h = h

-- a step that reads nothing leaves how far the arguments have come
not-read : (rules : List Rule) (g : Bool) (n : Notif) (own : List What) (what : What) (c : Captured) (stage : Stage) → is_read what ≡ false
    → IsAtStage rules g n own c stage → IsAtStage rules g n (what ∷ own) c stage
not-read rules g n own what c Unchecked h a = rw h a
not-read rules g n own what c Reading h a = rw h a
not-read rules g n own what c (Judged f) h a = rw h a
not-read rules g n own what c (Confirmed f) h a = rw h a

-- a good check
confirmed-at : (rules : List Rule) (g : Bool) (n : Notif) (own : List What) (c : Captured) (stage : Stage) → IsCheckable stage
    → IsAtStage rules g n own c stage → IsAtStage rules g n own c (confirmed stage)
confirmed-at rules g n own c Unchecked h a = a
confirmed-at rules g n own c (Judged f) h a = a
confirmed-at rules g n own c Reading h a = absurd h
confirmed-at rules g n own c (Confirmed f) h a = absurd h

confirmed-count : (stage : Stage) → IsCheckable stage → suc (good_checks stage) ≡ good_checks (confirmed stage)
confirmed-count Unchecked h = refl
confirmed-count (Judged f) h = refl
confirmed-count Reading h = absurd h
confirmed-count (Confirmed f) h = absurd h

confirmed-effect : (g : Bool) (stage : Stage) (o : Option Request) → IsCheckable stage → IsEffect g stage o → IsEffect g (confirmed stage) o
confirmed-effect g stage None h x = tt
confirmed-effect g Unchecked (Some q) h x = absurd x
confirmed-effect g (Judged f) (Some q) h x = absurd x
confirmed-effect g Reading (Some q) h x = absurd h
confirmed-effect g (Confirmed f) (Some q) h x = absurd h

reverse-cons : {A : Type 0} (x : A) (xs : List A) → reverse (x ∷ xs) ≡ reverse xs ++ x ∷ []
reverse-cons x xs = reverse-append (x ∷ []) xs

module _ (rules : List Rule) (own : List What) (c : Captured) (s : Session) (k : Knows rules own c s) where
  staged-plain : (what : What) → Plain what → Staged rules own what c s s.stage
  staged-plain what p = record {
    good = rw p.good k.good;
    checks = λ g. rw p.checks (k.checks (or-false (gives_up what) s.gave_up g));
    at = not-read rules s.granted s.notif own what c s.stage p.read k.stage;
    effect = k.effect;
  }

  staged-good : (x : ℕ) → IsCheckable s.stage → Staged rules own (step.Check x (Ok tt)) c s (confirmed s.stage)
  staged-good x h = record {
    good = ap suc k.good ∙ confirmed-count s.stage h;
    checks = λ g. ap suc (k.checks g) ∙ confirmed-count s.stage h;
    at = not-read rules s.granted s.notif own (step.Check x (Ok tt)) c (confirmed s.stage) refl (confirmed-at rules s.granted s.notif own c s.stage h k.stage);
    effect = confirmed-effect s.granted s.stage s.effect h k.effect;
  }

  staged-bad : (x e : ℕ) → Staged rules own (step.Check x (Err e)) c s s.stage
  staged-bad x e = record {
    good = k.good;
    checks = λ g. cc;
    at = not-read rules s.granted s.notif own (step.Check x (Err e)) c s.stage refl k.stage;
    effect = k.effect;
  }

  staged-read : (d : Captured) (addr len : ℕ) (answer : Result (List ℕ) ℕ) → s.stage ≡ Reading
      → (Follows (plan s.notif.call.nr s.notif.call.args) (answers_of own) c → Follows (plan s.notif.call.nr s.notif.call.args) (answers_of own ++ answer ∷ []) d)
      → Staged rules own (step.Read addr len answer) d s s.stage
  staged-read d addr len answer e h =
      let a : IsAtStage rules s.granted s.notif own c Reading = rw e at k.stage in
      let q : answers_of (step.Read addr len answer ∷ own) ≡ answers_of own ++ answer ∷ [] = reverse-cons answer (read_answers (reads_of own)) in
      let f : Follows (plan s.notif.call.nr s.notif.call.args) (answers_of (step.Read addr len answer ∷ own)) d = rw q (h a.0) in
      let b : IsAtStage rules s.granted s.notif (step.Read addr len answer ∷ own) d Reading = (f, a.1) in
      record { good = k.good; checks = λ g. k.checks g; at = rw e b; effect = k.effect }

-- ---- One more step

stays-stage : (s m : Session) → m ≡ s → m ≡ record s { stage = m.stage }
stays-stage s m e = e ∙ ap (λ x. record s { stage = x }) (sym (ap (λ (r : Session). r.stage) e))

stage-is : (s m : Session) (stage : Stage) → m ≡ record s { stage = stage } → m ≡ record s { stage = m.stage }
stage-is s m stage e = e ∙ ap (λ x. record s { stage = x }) (sym (ap (λ (r : Session). r.stage) e))

module _ (rules : List Rule) (own : List What) (c d : Captured) (s m t : Session) (k : Knows rules own c s) where
  after-plain : (what : What) → Plain what → m ≡ s → d ≡ c → Noted what m t → Knows rules (what ∷ own) d t
  after-plain what p e h n =
      let f : Staged rules own what d s m.stage = rw (h, ap (λ (r : Session). r.stage) e) (staged-plain rules own c s k what p) in
      known-step rules own what c d s m t p.starts p.letgo k (stays-stage s m e) f n

  after-check : (stage : Stage) (what : What) → starts what ≡ false → is_letgo what ≡ false → Staged rules own what c s stage
      → m ≡ record s { stage = stage } → d ≡ c → Noted what m t → Knows rules (what ∷ own) d t
  after-check stage what z l f e h n =
      let g : Staged rules own what d s m.stage = rw (h, ap (λ (r : Session). r.stage) e) f in
      known-step rules own what c d s m t z l k (stage-is s m stage e) g n

  after-read : (addr len : ℕ) (answer : Result (List ℕ) ℕ) → s.stage ≡ Reading → m ≡ s
      → (Follows (plan s.notif.call.nr s.notif.call.args) (answers_of own) c → Follows (plan s.notif.call.nr s.notif.call.args) (answers_of own ++ answer ∷ []) d)
      → Noted (step.Read addr len answer) m t → Knows rules (step.Read addr len answer ∷ own) d t
  after-read addr len answer z e h n =
      let f : Staged rules own (step.Read addr len answer) d s m.stage = rw (ap (λ (r : Session). r.stage) e) (staged-read rules own c s k d addr len answer z h) in
      known-step rules own (step.Read addr len answer) c d s m t refl refl k (stays-stage s m e) f n

  skipped : Plain step.Skip
  skipped = record { starts = refl; letgo = refl; checks = refl; good = refl; read = refl }

  pub known_after : (q : Request) (b : List ℕ) (deed : Deed) (a : Answer) → CanTake deed a c s.stage → Advances deed a c d s m → Noted (step_of (deed_of q b deed) a) m t
      → Knows rules (step_of (deed_of q b deed) a ∷ own) d t
  known_after q b Recv a h v n = absurd h
  known_after q b LetGo a h v n = absurd h
  known_after q b (Read addr len) (Bytes bytes) h v n = after-read addr len (Ok bytes) h.1 v.0 (v.1 _ _) n
  known_after q b (Read addr len) (Failed e) h v n = after-read addr len (Err e) h.1 v.0 (v.1 _ _) n
  known_after q b (Read addr len) (Received x) h v n = absurd h.0
  known_after q b (Read addr len) Done h v n = absurd h.0
  known_after q b (Read addr len) (Number x) h v n = absurd h.0
  known_after q b (Read addr len) NotYet h v n = absurd h.0
  known_after q b (Check id) Done h v n = after-check (confirmed s.stage) (step.Check id (Ok tt)) refl refl (staged-good rules own c s k id h) v.0 v.1 n
  known_after q b (Check id) (Failed e) h v n = after-check s.stage (step.Check id (Err e)) refl refl (staged-bad rules own c s k id e) v.0 v.1 n
  known_after q b (Check id) (Received x) h v n = after-plain step.Skip skipped v.0 v.1 n
  known_after q b (Check id) (Bytes x) h v n = after-plain step.Skip skipped v.0 v.1 n
  known_after q b (Check id) (Number x) h v n = after-plain step.Skip skipped v.0 v.1 n
  known_after q b (Check id) NotYet h v n = after-plain step.Skip skipped v.0 v.1 n
  known_after q b (OpenMem pid) a h v n = after-plain (step_of (deed_of q b (OpenMem pid)) a) (plain-parts _ (plain-step q b (OpenMem pid) a tt)) v.0 v.1 n
  known_after q b (OpenBase pid dirfd) a h v n = after-plain (step_of (deed_of q b (OpenBase pid dirfd)) a) (plain-parts _ (plain-step q b (OpenBase pid dirfd) a tt)) v.0 v.1 n
  known_after q b (Act cap) a h v n = after-plain (step_of (deed_of q b (Act cap)) a) (plain-parts _ (plain-step q b (Act cap) a tt)) v.0 v.1 n
  known_after q b (Plant addr cap) a h v n = after-plain (step_of (deed_of q b (Plant addr cap)) a) (plain-parts _ (plain-step q b (Plant addr cap) a tt)) v.0 v.1 n
  known_after q b (AddfdPut asked) a h v n = after-plain (step_of (deed_of q b (AddfdPut asked)) a) (plain-parts _ (plain-step q b (AddfdPut asked) a tt)) v.0 v.1 n
  known_after q b AddfdTake a h v n = after-plain (step_of (deed_of q b AddfdTake) a) (plain-parts _ (plain-step q b AddfdTake a tt)) v.0 v.1 n
  known_after q b (Send id back) a h v n = after-plain (step_of (deed_of q b (Send id back)) a) (plain-parts _ (plain-step q b (Send id back) a tt)) v.0 v.1 n
