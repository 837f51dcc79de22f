-- An answer that may stand in a ledger, and one to a deed, fit the deed.
-- By the cases of the deed and of the answer.
use Rattle.std.proofs.Common.{◌≡◌, ℕ, Bool, true, false, List, [], ◌∷◌, length, refl, sym, ap, subst, ◌∙◌, arith}
use Rattle.std.specs.Prelude.{nat_le, ◌==◌}
use Rattle.std.proofs.lemmas.Bool.{and_parts, eqb-true, leb-true}
use Rattle.sys_abi.specs.Errnos.{enoent, efault}
use Rattle.broker_core.specs.Answers.{Answer, Received, Done, Bytes, Number, NotYet, Failed, Fits}
use Rattle.broker_core.specs.declared.deed.Deed.{Deed}
use Rattle.broker_core.specs.declared.deed.Deed.TheVariants.{Recv, OpenMem, OpenBase, Check, Read, Act, Plant, AddfdPut, AddfdTake, Send, LetGo}
use Rattle.broker_core.specs.Answers.{shown}
use Rattle.broker_core.specs.Remembered.{Remembers}
use Rattle.broker_core.specs.declared.worker.Worker.{Worker}
use Rattle.hist_model.specs.Legal.{rules_of}
use Rattle.hist_model.specs.Sessions.{deed}
use Rattle.hist_model.specs.declared.event.What.{What}
use Rattle.hist_model.specs.declared.policy.Policy.{Policy}
use Rattle.hist_model.specs.declared.script.Figures.{Figures}
use Rattle.worker_ledger.specs.Heard.{all_heard, heard}
use Rattle.worker_ledger.specs.declared.heard.Heard.{Heard}
use Rattle.std.specs.Prelude.{◌-◌, ◌^◌, ◌<◌, ◌+◌, nat_lt, if◌then◌else◌, Option, Some, None, Result, Ok, Err}
use Rattle.std.proofs.lemmas.Bool.{eq-eqb, ne_eqb}
use Rattle.std.proofs.lemmas.Bool.Decides.{nat_tests}
use Rattle.broker_core.specs.Answers.{is_let_go, is_not_yet}
use Rattle.hist_model.specs.Sessions.{Rules}
use Rattle.sys_abi.specs.declared.memory.OrNoMemory.TheVariants.{Refused, NoMemory}
use Rattle.sys_abi.specs.declared.memory.OrNoMemory.{OrNoMemory}
use Rattle.worker_ledger.specs.Notes.{HasText, next_count, noted}
use Rattle.worker_ledger.specs.declared.ledger.Ledger.{Ledger}
use Rattle.worker_ledger.specs.declared.successor.LedgerError.{LedgerError}
use Rattle.worker_ledger.specs.declared.successor.LedgerError.TheVariants.{NotLedger, Stale, Unfit}
use Rattle.worker_ledger.specs.declared.successor.Successor.{Successor}
use Rattle.worker_ledger.specs.Successors.{AllStand, Comes, Found, HasResumed, IsLedger, IsResumed, Replays, ReplaysOne, Resumed, ResumesIf, TakesLast, after_answer, after_answers, caught, due_after, is_answer_to, may_stand, resumed, with_last}

no-way : {A : Type 0} → false ≡ true → A
no-way e = absurd (cc e)

pub stands_fits : (d : Deed) (a : Answer) → may_stand d a ≡ true → Fits d a
stands_fits Recv (Received n) h = tt
stands_fits Recv Done h = no-way h
stands_fits Recv (Bytes bs) h = no-way h
stands_fits Recv (Number n) h = no-way h
stands_fits Recv NotYet h = no-way h
stands_fits Recv (Failed e) h = no-way h
stands_fits (Read addr len) (Bytes bs) h =
    let p = and_parts (nat_le 1 (length bs)) (nat_le (length bs) len) h in
    (leb-true 1 (length bs) p.0, leb-true (length bs) len p.1)
stands_fits (Read addr len) (Failed e) h = eqb-true e efault h
stands_fits (Read addr len) (Received n) h = no-way h
stands_fits (Read addr len) Done h = no-way h
stands_fits (Read addr len) (Number n) h = no-way h
stands_fits (Read addr len) NotYet h = no-way h
stands_fits AddfdTake (Number n) h = tt
stands_fits AddfdTake (Failed e) h = tt
stands_fits AddfdTake (Received n) h = no-way h
stands_fits AddfdTake Done h = no-way h
stands_fits AddfdTake (Bytes bs) h = no-way h
stands_fits AddfdTake NotYet h = no-way h
stands_fits LetGo a h = no-way h
stands_fits (OpenMem p) Done h = tt
stands_fits (OpenMem p) (Failed e) h = tt
stands_fits (OpenMem p) a h = no-way h
stands_fits (OpenBase p d) Done h = tt
stands_fits (OpenBase p d) (Failed e) h = tt
stands_fits (OpenBase p d) a h = no-way h
stands_fits (Check x) Done h = tt
stands_fits (Check x) (Failed e) h = tt
stands_fits (Check x) a h = no-way h
stands_fits (Act c) Done h = tt
stands_fits (Act c) (Failed e) h = tt
stands_fits (Act c) a h = no-way h
stands_fits (Plant a c) Done h = tt
stands_fits (Plant a c) (Failed e) h = tt
stands_fits (Plant a c) x h = no-way h
stands_fits (AddfdPut s) Done h = tt
stands_fits (AddfdPut s) (Failed e) h = tt
stands_fits (AddfdPut s) a h = no-way h
stands_fits (Send x b) Done h = tt
stands_fits (Send x b) (Failed e) h = tt
stands_fits (Send x b) a h = no-way h

pub answer_fits : (d : Deed) (a : Answer) → is_answer_to d a ≡ true → Fits d a
answer_fits Recv (Failed e) h = eqb-true e enoent h
answer_fits Recv a h = stands_fits Recv a h
answer_fits LetGo Done h = tt
answer_fits LetGo a h = stands_fits LetGo a h
answer_fits d a h = stands_fits d a h

-- ---- Replaying

-- the deed that a worker names is that of its steps
pub due_stands : (P : Policy) (F G : Figures) (own : List What) (n : Deed) (a : Answer) (b : Bool) → G ≡ F → n ≡ shown (deed (rules_of P G) own) → b ≡ may_stand n a → may_stand (shown (deed (rules_of P F) own)) a ≡ b
due_stands P F G own n a b f d e = sym (e ∙ ap (λ m. may_stand m a) d ∙ ap (λ H. may_stand (shown (deed (rules_of P H) own)) a) f)

pub taken_as : (P : Policy) (F G : Figures) (own : List What) (a : Answer) (w : Worker) → G ≡ F → Remembers P (after_answer (rules_of P G) own a) w → Remembers P (after_answer (rules_of P F) own a) w
taken_as P F G own a w f h = subst (λ H. Remembers P (after_answer (rules_of P H) own a) w) f h

-- where so many answers are left, which are replayed from these steps on
pub record IsReplayed (P : Policy) (F : Figures) (own : List What) (all left : List Answer) (w : Worker) : Type 0 where
  pub steps : List What
  pub remembers : Remembers P steps w
  pub stand : AllStand (rules_of P F) steps left → AllStand (rules_of P F) own all
  pub stood : AllStand (rules_of P F) own all → AllStand (rules_of P F) steps left
  pub after : after_answers (rules_of P F) steps left ≡ after_answers (rules_of P F) own all

pub replayed_more : (P : Policy) (F : Figures) (own : List What) (all left : List Answer) (a : Answer) (w x : Worker) → (is : IsReplayed P F own all (a ∷ left) w)
    → ReplaysOne P F is.steps a true x → IsReplayed P F own all left x
replayed_more P F own all left a w x is one = record {
  steps = after_answer (rules_of P F) is.steps a;
  remembers = one.1;
  stand = λ h. is.stand (one.0, h);
  stood = λ h. (is.stood h).1;
  after = is.after;
}

pub replayed_all : (P : Policy) (F : Figures) (own : List What) (all : List Answer) (w : Worker) → IsReplayed P F own all [] w → Replays P F own all true w
replayed_all P F own all w is = (is.stand tt, subst (λ steps. Remembers P steps w) is.after is.remembers)

pub replayed_not : (P : Policy) (F : Figures) (own : List What) (all left : List Answer) (a : Answer) (w x : Worker) → (is : IsReplayed P F own all (a ∷ left) w)
    → ReplaysOne P F is.steps a false x → Replays P F own all false x
replayed_not P F own all left a w x is one = λ h. absurd (true-false (sym (is.stood h).0 ∙ one))
  where
    true-false : true ≡ false → ⊥
    true-false e = cc

-- one more answer is replayed
pub replay_step : (P : Policy) (F G : Figures) (own : List What) (all before left : List Heard) (h : Heard) (a : Answer) (b : Bool) (w x : Worker) → G ≡ F → before ≡ h ∷ left → a ≡ heard h → b ≡ true
    → IsReplayed P F own (all_heard all) (all_heard before) w → ((steps : List What) → Remembers P steps w → ReplaysOne P G steps a b x) → IsReplayed P F own (all_heard all) (all_heard left) x
replay_step P F G own all before left h a b w x f e q t is one =
    let rest : IsReplayed P F own (all_heard all) (heard h ∷ all_heard left) w = subst (λ hs. IsReplayed P F own (all_heard all) (all_heard hs) w) e is in
    let o : ReplaysOne P F rest.steps (heard h) true x = subst (λ v. ReplaysOne P F rest.steps (heard h) v x) t (subst (λ v. ReplaysOne P F rest.steps v b x) q (subst (λ v. ReplaysOne P v rest.steps a b x) f (one rest.steps rest.remembers))) in
    replayed_more P F own (all_heard all) (all_heard left) (heard h) w x rest o

-- or it may not stand
pub replay_stop : (P : Policy) (F G : Figures) (own : List What) (all before left : List Heard) (h : Heard) (a : Answer) (b : Bool) (w x : Worker) → G ≡ F → before ≡ h ∷ left → a ≡ heard h → b ≡ false
    → IsReplayed P F own (all_heard all) (all_heard before) w → ((steps : List What) → Remembers P steps w → ReplaysOne P G steps a b x) → Replays P F own (all_heard all) false x
replay_stop P F G own all before left h a b w x f e q t is one =
    let rest : IsReplayed P F own (all_heard all) (heard h ∷ all_heard left) w = subst (λ hs. IsReplayed P F own (all_heard all) (all_heard hs) w) e is in
    let o : ReplaysOne P F rest.steps (heard h) false x = subst (λ v. ReplaysOne P F rest.steps (heard h) v x) t (subst (λ v. ReplaysOne P F rest.steps v b x) q (subst (λ v. ReplaysOne P v rest.steps a b x) f (one rest.steps rest.remembers))) in
    replayed_not P F own (all_heard all) (all_heard left) (heard h) w x rest o

pub replay_end : (P : Policy) (F : Figures) (own : List What) (all left : List Heard) (w : Worker) → left ≡ [] → IsReplayed P F own (all_heard all) (all_heard left) w → Replays P F own (all_heard all) true w
replay_end P F own all left w e is = replayed_all P F own (all_heard all) w (subst (λ hs. IsReplayed P F own (all_heard all) (all_heard hs) w) e is)

pub none_left : (left : List Heard) → length left ≡ 0 → left ≡ []
none_left [] e = refl
none_left (h ∷ left) e = absurd (omega arith)

-- ---- Resuming

pub resumed_some : (P : Policy) (F G : Figures) (answers own : List Heard) (b : Bool) (w : Worker) → G ≡ F → answers ≡ own → b ≡ true → Replays P G [] (all_heard answers) b w
    → AllStand (rules_of P F) [] (all_heard own) × Remembers P (after_answers (rules_of P F) [] (all_heard own)) w
resumed_some P F G answers own b w f e t r = subst (λ H. Replays P H [] (all_heard own) true w) f (subst (λ v. Replays P G [] (all_heard own) v w) t (subst (λ hs. Replays P G [] (all_heard hs) b w) e r))

pub resumed_none : (P : Policy) (F G : Figures) (answers own : List Heard) (b : Bool) (w : Worker) → G ≡ F → answers ≡ own → b ≡ false → Replays P G [] (all_heard answers) b w
    → AllStand (rules_of P F) [] (all_heard own) → ⊥
resumed_none P F G answers own b w f e t r = subst (λ H. Replays P H [] (all_heard own) false w) f (subst (λ v. Replays P G [] (all_heard own) v w) t (subst (λ hs. Replays P G [] (all_heard hs) b w) e r))

pub due_is : (P : Policy) (F G : Figures) (own : List What) (n : Deed) → G ≡ F → n ≡ shown (deed (rules_of P G) own) → n ≡ due_after P F own
due_is P F G own n f e = e ∙ ap (λ H. shown (deed (rules_of P H) own)) f

-- ---- The last answer

never-yet : (d : Deed) → is_answer_to d NotYet ≡ true → ⊥
never-yet Recv h = no-way h
never-yet (OpenMem p) h = no-way h
never-yet (OpenBase p d) h = no-way h
never-yet (Check x) h = no-way h
never-yet (Read a n) h = no-way h
never-yet (Act c) h = no-way h
never-yet (Plant a c) h = no-way h
never-yet (AddfdPut s) h = no-way h
never-yet AddfdTake h = no-way h
never-yet (Send x b) h = no-way h
never-yet LetGo h = no-way h

is-there : (d : Deed) (a : Answer) → is_answer_to d a ≡ true → is_not_yet a ≡ false
is-there d (Received n) h = refl
is-there d Done h = refl
is-there d (Bytes bs) h = refl
is-there d (Number n) h = refl
is-there d (Failed e) h = refl
is-there d NotYet h = absurd (never-yet d h)

module _ (P : Policy) (taken : ℕ) (last : Option Answer) (s : Successor) (own : List What) where
  abbrev R : Rules
  R = rules_of P s.worker.figures

  abbrev told : List Answer
  told = all_heard s.ledger.own.items

  abbrev outcome : Result Resumed LedgerError
  outcome = caught R taken last s.ledger.count own told

  other : (s.ledger.count ≡ taken → ⊥) → (s.ledger.count == taken) ≡ false
  other n = ne_eqb s.ledger.count taken n

  pub comes_unfit : (a : Answer) (b : Bool) (t : Successor) → (s.ledger.count ≡ taken → ⊥) → s.ledger.count + 1 ≡ taken → last ≡ Some a → b ≡ false → TakesLast P s own a b t → Comes P s.worker.figures s.ledger.no taken outcome (Err (Refused Unfit))
  comes_unfit a b t n m e f l =
      let k : is_answer_to (due_after P s.worker.figures own) a ≡ false = subst (λ v. TakesLast P s own a v t) f l in
      rw (other n, eq-eqb (s.ledger.count + 1) taken m, e, k) refl

  pub comes_last : (a : Answer) (b : Bool) (t : Successor) → (s.ledger.count ≡ taken → ⊥) → s.ledger.count + 1 ≡ taken → taken < 2 ^ 64 → last ≡ Some a → b ≡ true → TakesLast P s own a b t → Comes P s.worker.figures s.ledger.no taken outcome (Ok t)
  comes_last a b t n m small e f l =
      let k = subst (λ v. TakesLast P s own a v t) f l in
      let there = is-there (due_after P s.worker.figures own) a k.0 in
      let c : t.ledger.count ≡ next_count s.ledger.count = k.2.0 ∙ rw there refl in
      let h : all_heard t.ledger.own.items ≡ noted (is_let_go (due_after P s.worker.figures own)) a told = k.2.1 ∙ rw there refl in
      let below : nat_lt s.ledger.count (2 ^ 64 - 1) ≡ true = grind (arith, nat_tests) in
      let q : t.ledger.count ≡ taken = c ∙ rw below m in
      rw (other n, eq-eqb (s.ledger.count + 1) taken m, e, k.0) (record { remembers = k.1; figures = k.3; number = k.4; count = q; told = h })

-- ---- What comes of a text

-- the successor of a ledger that was read has taken its answers
pub resumed_text : (P : Policy) (F : Figures) (w : ℕ) (bytes : List ℕ) (l : Ledger) (o : Option Successor) → HasText bytes w l → ResumesIf P F l o → IsResumed P F w bytes o
resumed_text P F w bytes l (Some s) t k =
    let u : HasText bytes w s.ledger = subst (λ m. HasText bytes w m) (sym k.3) t in record {
      ledger = record { small = u.small; told = u.told; stand = subst (λ m. AllStand (rules_of P F) [] (all_heard m.own.items)) (sym k.3) k.0; text = u.text };
      only = λ count own is. u.only count own is.small is.told is.text;
      remembers = subst (λ m. Remembers P (after_answers (rules_of P F) [] (all_heard m.own.items)) s.worker) (sym k.3) k.1;
      figures = k.2;
      number = u.number;
    }
resumed_text P F w bytes l None t k = λ count own is.
    let parts = t.only count own is.small is.told is.text in
    k (subst (λ told. AllStand (rules_of P F) [] told) (sym parts.1) is.stand)

-- what comes of it is what the definitions have
pub came : (P : Policy) (F : Figures) (w taken : ℕ) (last : Option Answer) (bytes : List ℕ) (s : Successor) (result : Result Successor (OrNoMemory LedgerError)) → HasResumed P F w bytes s
    → ((own : List What) → Remembers P own s.worker → Comes P s.worker.figures s.ledger.no taken (caught (rules_of P s.worker.figures) taken last s.ledger.count own (all_heard s.ledger.own.items)) result)
    → (count : ℕ) (own : List Answer) → IsLedger (rules_of P F) w bytes count own → Comes P F w taken (resumed (rules_of P F) taken last count own) result
came P F w taken last bytes s result is h count own l =
    let parts = is.only count own l in
    let Made : Figures → ℕ → ℕ → List Answer → Type 0 = λ G v n told. Comes P G v taken (caught (rules_of P G) taken last n (after_answers (rules_of P F) [] (all_heard s.ledger.own.items)) told) result in
    let a : Made F s.ledger.no s.ledger.count (all_heard s.ledger.own.items) = subst (λ G. Made G s.ledger.no s.ledger.count (all_heard s.ledger.own.items)) is.figures (h (after_answers (rules_of P F) [] (all_heard s.ledger.own.items)) is.remembers) in
    let b : Made F w s.ledger.count (all_heard s.ledger.own.items) = subst (λ v. Made F v s.ledger.count (all_heard s.ledger.own.items)) is.number a in
    let d : Made F w count (all_heard s.ledger.own.items) = subst (λ n. Made F w n (all_heard s.ledger.own.items)) parts.0 b in
    subst (λ told. Comes P F w taken (caught (rules_of P F) taken last count (after_answers (rules_of P F) [] told) told) result) parts.1 d

not-none : (P : Policy) (F : Figures) (w taken count : ℕ) (same next : Bool) (r : Resumed) (x : Result Resumed LedgerError) → (Comes P F w taken x (Err (Refused NotLedger)) → ⊥)
    → Comes P F w taken (if same then Ok r else (if next then x else Err (Stale count taken))) (Err (Refused NotLedger)) → ⊥
not-none P F w taken count true next r x n h = h
not-none P F w taken count false true r x n h = n h
not-none P F w taken count false false r x n h = cc

not-last : (P : Policy) (F : Figures) (w taken : ℕ) (fits : Bool) (r : Resumed) → Comes P F w taken (if fits then Ok r else Err Unfit) (Err (Refused NotLedger)) → ⊥
not-last P F w taken true r h = h
not-last P F w taken false r h = cc

not-with : (P : Policy) (F : Figures) (w taken : ℕ) (R : Rules) (own : List What) (told : List Answer) (last : Option Answer) → Comes P F w taken (with_last R own told last) (Err (Refused NotLedger)) → ⊥
not-with P F w taken R own told None h = cc
not-with P F w taken R own told (Some a) h = not-last P F w taken (is_answer_to (shown (deed R own)) a) _ h

-- and the bytes were a ledger
pub was_found : (P : Policy) (F : Figures) (w taken : ℕ) (last : Option Answer) (bytes : List ℕ) (s : Successor) (result : Result Successor (OrNoMemory LedgerError)) → HasResumed P F w bytes s
    → ((own : List What) → Remembers P own s.worker → Comes P s.worker.figures s.ledger.no taken (caught (rules_of P s.worker.figures) taken last s.ledger.count own (all_heard s.ledger.own.items)) result)
    → Found (rules_of P F) w bytes result
was_found P F w taken last bytes s (Ok t) is h = (s.ledger.count, all_heard s.ledger.own.items, is.ledger)
was_found P F w taken last bytes s (Err NoMemory) is h = tt
was_found P F w taken last bytes s (Err (Refused (Stale a b))) is h = (s.ledger.count, all_heard s.ledger.own.items, is.ledger)
was_found P F w taken last bytes s (Err (Refused Unfit)) is h = (s.ledger.count, all_heard s.ledger.own.items, is.ledger)
was_found P F w taken last bytes s (Err (Refused NotLedger)) is h = λ count own l.
    not-none P F w taken count (count == taken) (count + 1 == taken) _ _ (not-with P F w taken (rules_of P F) (after_answers (rules_of P F) [] own) own last) (came P F w taken last bytes s (Err (Refused NotLedger)) is h count own l)
