-- A worker that took the newest step is replaced by one that goes on from its ledger.
-- By the law that a legal history's ledgers hand over, in both its forms, and by cases on what the successor came to.
use Rattle.std.proofs.Common.{◌≡◌, ℕ, ◌<◌, ◌^◌, Bool, true, false, List, [], ◌∷◌, length, sym, ap, subst, ◌∙◌, Option, Some, None, Result, Ok, Err, inl, inr, arith}
use Rattle.std.specs.Prelude.{OnOk}
use Rattle.hist_model.specs.Kinds.{is_letgo}
use Rattle.hist_model.specs.Legal.{rules_of, system_of}
use Rattle.hist_model.specs.Sessions.{Rules, any_of, notif_of, session}
use Rattle.hist_model.specs.Steps.{IsLegal}
use Rattle.hist_model.specs.declared.event.Event.{Event}
use Rattle.hist_model.specs.declared.event.What.{What}
use Rattle.hist_model.specs.declared.policy.Policy.{Policy}
use Rattle.hist_model.specs.declared.script.Figures.{Figures}
use Rattle.hist_model.specs.declared.script.Script.{Script}
use Rattle.sys_abi.specs.declared.wire.Notif.{Notif}
use Rattle.sys_abi.specs.declared.memory.OrNoMemory.{OrNoMemory}
use Rattle.sys_abi.specs.declared.memory.OrNoMemory.TheVariants.{Refused, NoMemory}
use Rattle.broker_core.specs.Answers.{Answer, answer_of}
use Rattle.broker_core.specs.Remembered.{Idle, KnowsIf, Remembers}
use Rattle.broker_core.specs.declared.session.Session.{Session}
use Rattle.broker_core.specs.declared.worker.Worker.{Worker}
use Rattle.worker_ledger.specs.Heard.{all_heard}
use Rattle.worker_ledger.specs.Ledgers.{AreAnswers, ledger_text}
use Rattle.worker_ledger.specs.Notes.{Notes}
use Rattle.worker_ledger.specs.Successors.{Comes, IsLedger, Resumed, resumed}
use Rattle.worker_ledger.specs.declared.ledger.Ledger.{Ledger}
use Rattle.worker_ledger.specs.declared.successor.LedgerError.{LedgerError}
use Rattle.worker_ledger.specs.declared.successor.Successor.{Successor}
use Rattle.handover.specs.Keeping.{Keeps, newest_of}
use Rattle.handover.specs.Ledgers.{AreAlike, GoesOnAs, HandsOver, is_step_of, last_answer, ledger_of, taken, told_in}
use Rattle.handover.specs.Replacing.{GoesOnIn, IsLedgerIn, IsOneBehind, IsStepAt, IsWritten, written}
use Rattle.handover.proofs.Handed.{before_step, behind_hands_over, hands_over, last_step}
use Rattle.handover.proofs.Kept.{keeps_noted}

-- ---- The ledger

pub none_behind : (w : ℕ) (H : List Event) (l : Ledger) → IsOneBehind w H l → None ≡ newest_of H → ⊥
none_behind w [] l b n = b
none_behind w (e ∷ K) l b n = cc

pub none_at : (w : ℕ) (H : List Event) → IsStepAt w H → None ≡ newest_of H → ⊥
none_at w [] s n = s
none_at w (e ∷ K) s n = cc

pub step_at : (w : ℕ) (H : List Event) (l : Ledger) → IsOneBehind w H l → IsStepAt w H
step_at w [] l b = b
step_at w (e ∷ K) l b = b.0

newest-same : (e f : Event) (K : List Event) → Some e ≡ newest_of (f ∷ K) → e ≡ f
newest-same e f K h = cc

-- the newest step was noted in it
pub note_keeps : {E : Type 0} (P : Policy) (S : Script) (H : List Event) (w : ℕ) (e : Event) (old new : Ledger) (lets_go : Bool) (a : Answer) (r : Result (Unit {0}) E) → IsLegal (system_of S) (rules_of P S.figures) H
    → length H < 2 ^ 62 → IsOneBehind w H old → Some e ≡ newest_of H → lets_go ≡ is_letgo e.what → a ≡ answer_of e.what → OnOk r (Notes lets_go a old new) → new.no ≡ old.no → OnOk r (Keeps H w new)
note_keeps P S [] w e old new g a r l few b is gq aq n same_no = absurd b
note_keeps P S (f ∷ K) w e old new g a (Err x) l few b is gq aq n same_no = tt
note_keeps P S (f ∷ K) w e old new g a (Ok u) l few b is gq aq n same_no =
    let same : e ≡ f = newest-same e f K is in
    let go : g ≡ is_letgo f.what = gq ∙ ap (λ (x : Event). is_letgo x.what) same in
    let an : a ≡ answer_of f.what = aq ∙ ap (λ (x : Event). answer_of x.what) same in
    keeps_noted P S f K w l few b.0 old new b.1 (subst (λ (y : Answer). Notes (is_letgo f.what) y old new) an (subst (λ (y : Bool). Notes y a old new) go n)) same_no

written-as : (K : List Event) (w : ℕ) (l : Ledger) (text : List ℕ) → Keeps K w l → text ≡ ledger_text l.no l.count (all_heard l.own.items) → AreAnswers (all_heard l.own.items)
    → (text ≡ ledger_of K w) × AreAnswers (told_in K w)
written-as K w l text k t a = (
  t ∙ (ap (λ (n : ℕ). ledger_text n l.count (all_heard l.own.items)) k.number ∙ (ap (λ (n : ℕ). ledger_text w n (all_heard l.own.items)) k.count ∙ ap (ledger_text w (taken K w)) k.told)),
  subst (λ (x : List Answer). AreAnswers x) k.told a,
)

-- its text before the step, and after it
pub written_behind : (w : ℕ) (H : List Event) (l : Ledger) (text : List ℕ) → IsOneBehind w H l → text ≡ ledger_text l.no l.count (all_heard l.own.items) → AreAnswers (all_heard l.own.items) → IsWritten true w H text
written_behind w [] l text b t a = absurd b
written_behind w (e ∷ K) l text b t a = written-as K w l text b.1 t a

pub written_after : (w : ℕ) (H : List Event) (l : Ledger) (text : List ℕ) → Keeps H w l → text ≡ ledger_text l.no l.count (all_heard l.own.items) → AreAnswers (all_heard l.own.items) → IsWritten false w H text
written_after w [] l text k t a = written-as [] w l text k t a
written_after w (e ∷ K) l text k t a = written-as (e ∷ K) w l text k t a

-- ---- The successor

-- a worker that remembers steps remembers those that are alike
session-closed : (steps : List What) (n : Notif) → notif_of steps ≡ Some n → any_of is_letgo steps ≡ false → Idle steps → ⊥
session-closed steps n is stays (inl e) = let none : notif_of [] ≡ Some n = subst (λ (o : List What). notif_of o ≡ Some n) e is in cc
session-closed steps n is stays (inr h) = let both : false ≡ true = sym stays ∙ h in cc

remembers-alike : (P : Policy) (own steps : List What) (x : Worker) → AreAlike own steps → Remembers P steps x → Remembers P own x
remembers-alike P own steps x (inl e) r = subst (λ (o : List What). Remembers P o x) e r
remembers-alike P own steps x (inr h) r = by x.session r
  where
    by : (o : Option Session) → KnowsIf P.rules steps x.capture o → KnowsIf P.rules own x.capture o
    by None k = h.0
    by (Some s) k = absurd (session-closed steps s.notif k.notif k.stays h.1)

-- what came of a ledger that hands over: the worker that goes on, or want of memory
abbrev pub Succeeds : Policy → Figures → List Event → ℕ → Result Successor (OrNoMemory LedgerError) → Type 0
Succeeds P F H w (Ok s) = GoesOnIn P F H w s
Succeeds P F H w (Err NoMemory) = Unit {0}
Succeeds P F H w (Err (Refused e)) = ⊥

succeeds-from : (P : Policy) (F : Figures) (H : List Event) (w count : ℕ) (o : Result Resumed LedgerError) (r : Result Successor (OrNoMemory LedgerError)) → GoesOnAs H w o → count ≡ taken H w → Comes P F w count o r → Succeeds P F H w r
succeeds-from P F H w count (Ok x) (Ok s) g q c = record {
  remembers = remembers-alike P (session H w) x.steps s.worker g.0 c.remembers;
  figures = c.figures;
  keeps = record { number = c.number; count = c.count ∙ q; told = c.told ∙ g.1 };
}
succeeds-from P F H w count (Ok x) (Err NoMemory) g q c = tt
succeeds-from P F H w count (Ok x) (Err (Refused e)) g q c = c
succeeds-from P F H w count (Err x) r g q c = absurd g

module _ (P : Policy) (S : Script) (w : ℕ) where
  abbrev R : Rules
  R = rules_of P S.figures

  -- the ledger before the newest step hands over, and that after it
  hands-written : (b : Bool) (e : Event) (K : List Event) → IsLegal (system_of S) R (e ∷ K) → length (e ∷ K) < 2 ^ 62 → is_step_of w e ≡ true → HandsOver R (e ∷ K) w (written b (e ∷ K))
  hands-written true e K l few s = behind_hands_over P S (e ∷ K) K w l (omega arith) (before_step e K w s)
  hands-written false e K l few s = hands_over P S (e ∷ K) w (l, omega arith, omega arith)

  from-written : (b : Bool) (e : Event) (K : List Event) (text : List ℕ) (count : ℕ) (a : Answer) (r : Result Successor (OrNoMemory LedgerError)) → IsLegal (system_of S) R (e ∷ K) → length (e ∷ K) < 2 ^ 62
      → is_step_of w e ≡ true → IsWritten b w (e ∷ K) text → count ≡ taken (e ∷ K) w → a ≡ answer_of e.what
      → ((c : ℕ) (own : List Answer) → IsLedger R w text c own → Comes P S.figures w count (resumed R count (Some a) c own) r) → Succeeds P S.figures (e ∷ K) w r
  from-written b e K text count a r l few s t q an heard = succeeds-from P S.figures (e ∷ K) w count (resumed R count (Some a) (taken W w) (told_in W w)) r goes q (heard (taken W w) (told_in W w) ledger)
    where
      W : List Event
      W = written b (e ∷ K)

      hands : IsLedger R w (ledger_of W w) (taken W w) (told_in W w) × GoesOnAs (e ∷ K) w (resumed R (taken (e ∷ K) w) (last_answer (e ∷ K) w) (taken W w) (told_in W w))
      hands = hands-written b e K l few s t.1

      ledger : IsLedger R w text (taken W w) (told_in W w)
      ledger = subst (λ (x : List ℕ). IsLedger R w x (taken W w) (told_in W w)) (sym t.0) hands.0

      goes : GoesOnAs (e ∷ K) w (resumed R count (Some a) (taken W w) (told_in W w))
      goes =
          subst (λ (n : ℕ). GoesOnAs (e ∷ K) w (resumed R n (Some a) (taken W w) (told_in W w))) (sym q)
          (subst (λ (o : Option Answer). GoesOnAs (e ∷ K) w (resumed R (taken (e ∷ K) w) o (taken W w) (told_in W w))) (last_step e K w s ∙ ap Some (sym an)) hands.1)

  -- so its successor goes on as the worker
  pub succeeds : (H : List Event) (e : Event) (text : List ℕ) (count : ℕ) (a : Answer) (r : Result Successor (OrNoMemory LedgerError)) → IsLegal (system_of S) R H → length H < 2 ^ 62 → IsStepAt w H → IsLedgerIn w H text
      → count ≡ taken H w → Some e ≡ newest_of H → a ≡ answer_of e.what → ((c : ℕ) (own : List Answer) → IsLedger R w text c own → Comes P S.figures w count (resumed R count (Some a) c own) r)
      → Succeeds P S.figures H w r
  succeeds [] e text count a r l few s t q is an heard = absurd s
  succeeds (f ∷ K) e text count a r l few s t q is an heard =
      from-written t.0 f K text count a r l few s t.1 q (an ∙ ap (λ (x : Event). answer_of x.what) (newest-same e f K is)) heard

  -- by the container's figures, however they are named
  pub succeeds_by : (F : Figures) (H : List Event) (e : Event) (text : List ℕ) (count : ℕ) (a : Answer) (r : Result Successor (OrNoMemory LedgerError)) → F ≡ S.figures → IsLegal (system_of S) R H → length H < 2 ^ 62 → IsStepAt w H
      → IsLedgerIn w H text → count ≡ taken H w → Some e ≡ newest_of H → a ≡ answer_of e.what
      → ((c : ℕ) (own : List Answer) → IsLedger (rules_of P F) w text c own → Comes P F w count (resumed (rules_of P F) count (Some a) c own) r) → Succeeds P S.figures H w r
  succeeds_by F H e text count a r f l few s t q is an heard =
      succeeds H e text count a r l few s t q is an
      (subst (λ (G : Figures). (c : ℕ) (own : List Answer) → IsLedger (rules_of P G) w text c own → Comes P G w count (resumed (rules_of P G) count (Some a) c own) r) f heard)

pub succeeded : (P : Policy) (F : Figures) (H : List Event) (w : ℕ) (r : Result Successor (OrNoMemory LedgerError)) (s : Successor) → r ≡ Ok s → Succeeds P F H w r → GoesOnIn P F H w s
succeeded P F H w r s e h = subst (λ (x : Result Successor (OrNoMemory LedgerError)). Succeeds P F H w x) e h

pub not_refused : (P : Policy) (F : Figures) (H : List Event) (w : ℕ) (r : Result Successor (OrNoMemory LedgerError)) (e : LedgerError) → r ≡ Err (Refused e) → Succeeds P F H w r → ⊥
not_refused P F H w r e is h = subst (λ (x : Result Successor (OrNoMemory LedgerError)). Succeeds P F H w x) is h
