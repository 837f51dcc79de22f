-- What is found of one event: the first clause of an effect or an answer that it breaks, or that it leaves a call to nobody.
-- By the definition at each clause, since only the last one is broken by what is left.
use Rattle.std.proofs.Common.{◌≡◌, ℕ, Bool, true, false, List, [], ◌∷◌, ◌++◌, Option, Some, None, Result, refl, sym, ap, arith, subst, ◌∙◌}
use Rattle.std.specs.Prelude.{if◌then◌else◌, is_some, option_map}
use Rattle.std.proofs.Math.Bool.{and-false, or-false}
use Rattle.hist_model.specs.Look.{ev}
use Rattle.hist_model.specs.Steps.{session_call}
use Rattle.hist_model.specs.declared.event.Actor.{Actor}
use Rattle.hist_model.specs.declared.event.Actor.TheVariants.{Listener, Start, Task, Worker}
use Rattle.hist_model.specs.declared.event.Back.{Back}
use Rattle.hist_model.specs.declared.event.Event.{Event}
use Rattle.hist_model.specs.declared.event.What.{What}
use Rattle.hist_model.specs.declared.event.What.TheVariants.{Act, AddfdPut, Plant, Send}
use Rattle.hist_model.specs.declared.policy.Policy.{Policy}
use Rattle.hist_model.specs.declared.script.Script.{Script}
use Rattle.broker_verdict.specs.Seats.{is_effect}
use Rattle.broker_verdict.specs.Trusted.{breaks, breaks_by, broken_at, class_at, class_of, clauses, did_nothing, first_broken, graver, later_clauses, leaves_unanswered, lessened}
use Rattle.broker_verdict.specs.declared.clause.Clause.{Clause}
use Rattle.broker_verdict.specs.declared.clause.Clause.TheVariants.{AnswerWithoutCall, EffectWithoutCall, Unanswered}
use Rattle.judge_pass.specs.Clauses.{clauses_of_answers, clauses_of_effects}
use Rattle.judge_pass.specs.Stands.{clause_in, Judges, place_of_call, Stands}
use Rattle.judge_pass.specs.Takes.{acts_or_answers}
use Rattle.judge_pass.specs.declared.judge.Fault.{Fault}
use Rattle.judge_pass.specs.declared.judge.Judge.{Judge}
use Rattle.judge_pass.proofs.FirstBroken.{first_of_both, first_without_call, or_first}

-- the first clause of an effect or an answer that the event breaks
abbrev pub first_done : Policy → Script → List Event → Actor → What → Option Clause
first_done P S K who what = first_broken (λ clause. breaks_by P S clause K who what) clauses

-- that it leaves a call to nobody
abbrev pub if_left : Bool → Option Clause
if_left b = if b then Some Unanswered else None

-- ---- the clauses of effects and answers, and the last one

abbrev clauses_of_workers : List Clause
clauses_of_workers = EffectWithoutCall ∷ (clauses_of_effects ++ AnswerWithoutCall ∷ clauses_of_answers)

nothing-after : (o : Option Clause) → or_first o None ≡ o
nothing-after None = refl
nothing-after (Some clause) = refl

never-by : (P : Policy) (S : Script) (K : List Event) (who : Actor) (what : What) → breaks_by P S Unanswered K who what ≡ false
never-by P S K Start what = refl
never-by P S K (Task n) what = refl
never-by P S K Listener what = refl
never-by P S K (Worker w) what = by (session_call K w) refl
  where
    by : (o : Option ℕ) → session_call K w ≡ o → breaks_by P S Unanswered K (Worker w) what ≡ false
    by None q = rw q refl
    by (Some c) q = rw q (simp (and-false, or-false))

module _ (P : Policy) (S : Script) (K : List Event) (e : Event) where
  front-same : first_broken (λ clause. breaks P S clause K e) clauses_of_workers ≡ first_broken (λ clause. breaks_by P S clause K e.who e.what) clauses_of_workers
  front-same = simp or-false

  last-same : first_broken (λ clause. breaks P S clause K e) (Unanswered ∷ []) ≡ if_left (leaves_unanswered Unanswered K e)
  last-same = rw (never-by P S K e.who e.what) refl

  front-only : first_done P S K e.who e.what ≡ first_broken (λ clause. breaks_by P S clause K e.who e.what) clauses_of_workers
  front-only =
      let none : first_broken (λ clause. breaks_by P S clause K e.who e.what) (Unanswered ∷ []) ≡ None = rw (never-by P S K e.who e.what) refl in
      first_of_both (λ clause. breaks_by P S clause K e.who e.what) clauses_of_workers (Unanswered ∷ [])
      ∙ ap (or_first (first_broken (λ clause. breaks_by P S clause K e.who e.what) clauses_of_workers)) none ∙ nothing-after _

  pub done-or-left : broken_at P S K e ≡ or_first (first_done P S K e.who e.what) (if_left (leaves_unanswered Unanswered K e))
  done-or-left =
      first_of_both (λ clause. breaks P S clause K e) clauses_of_workers (Unanswered ∷ [])
      ∙ ap (λ (o : Option Clause). or_first o (first_broken (λ clause. breaks P S clause K e) (Unanswered ∷ []))) (front-same ∙ sym front-only)
      ∙ ap (or_first (first_done P S K e.who e.what)) last-same

  later-same : first_broken (λ later. breaks P S later K e) later_clauses ≡ first_broken (λ later. breaks_by P S later K e.who e.what) later_clauses
  later-same = simp or-false

  -- the class of what an event breaks
  pub class-here : (clause : Clause) → class_at P S K e clause
      ≡ lessened (graver (class_of clause) (first_broken (λ later. breaks_by P S later K e.who e.what) later_clauses)) (did_nothing e.what)
  class-here clause = ap (λ (later : Option Clause). lessened (graver (class_of clause) later) (did_nothing e.what)) later-same

-- ---- steps that are neither effects nor answers

pub nothing-done : (P : Policy) (S : Script) (K : List Event) (w : ℕ) (what : What) → acts_or_answers what ≡ false → first_done P S K (Worker w) what ≡ None
nothing-done P S K w what h = by (session_call K w) refl what h
  where
    by : (o : Option ℕ) → session_call K w ≡ o → (what : What) → acts_or_answers what ≡ false → first_done P S K (Worker w) what ≡ None
    by o q (Act r cap answer) h = cc
    by o q (Plant addr bytes cap answer) h = cc
    by o q (AddfdPut asked answer) h = cc
    by o q (Send x back answer) h = cc
    by None q what h = rw q refl
    by (Some c) q what h = rw q refl

pub other-kind : (what : What) → is_effect what ≡ false → ((x : ℕ) (back : Back) (a : Result (Unit {0}) ℕ) → what ≡ Send x back a → ⊥) → acts_or_answers what ≡ false
other-kind (Act r cap answer) f n = cc
other-kind (Plant addr bytes cap answer) f n = cc
other-kind (AddfdPut asked answer) f n = cc
other-kind (Send x back answer) f n = absurd (n x back answer refl)
other-kind what f n = refl

-- an effect that breaks nothing is for a call
pub has-call : (P : Policy) (S : Script) (K : List Event) (w : ℕ) (what : What) → is_effect what ≡ true → None ≡ first_done P S K (Worker w) what → is_some (session_call K w) ≡ true
has-call P S K w what h none = by (session_call K w) refl
  where
    by : (o : Option ℕ) → session_call K w ≡ o → is_some (session_call K w) ≡ true
    by (Some c) q = rw q refl
    by None q = let no : None ≡ Some EffectWithoutCall = none ∙ first_without_call P S K w what h q in cc

pub effect-leaves : (K : List Event) (w : ℕ) (what : What) → is_effect what ≡ true → leaves_unanswered Unanswered K (ev (Worker w) what) ≡ false
effect-leaves K w what h = grind (arith, h)

pub send-leaves : (K : List Event) (w : ℕ) (what : What) (x : ℕ) (back : Back) (a : Result (Unit {0}) ℕ) → what ≡ Send x back a → leaves_unanswered Unanswered K (ev (Worker w) what) ≡ false
send-leaves K w what x back a q = ap (λ (v : What). leaves_unanswered Unanswered K (ev (Worker w) v)) q

-- ---- an event that is judged

some-fault : (f g : Fault) → Some f ≡ Some g → f ≡ g
some-fault f g q = cc

abbrev pub fault_left : ℕ → Fault
fault_left call = record { clause = Unanswered; class = class_of Unanswered; call = Some call }

module _ (P : Policy) (S : Script) (K : List Event) (new : Judge) where
  -- it breaks a clause of an effect or an answer
  pub judges-broken : (w : ℕ) (what : What) (clause : Clause) (fault : Fault) → Some clause ≡ first_done P S K (Worker w) what → fault.clause ≡ clause
      → fault.class ≡ class_at P S K (ev (Worker w) what) clause → place_of_call K fault.call ≡ session_call K w → Stands P S K new → Judges P S K (ev (Worker w) what) (Some fault) new
  judges-broken w what clause fault first same grave hand s = record {
    clause =
        ap (λ (x : Clause). Some x) same
        ∙ sym (done-or-left P S K (ev (Worker w) what) ∙ ap (λ (o : Option Clause). or_first o (if_left (leaves_unanswered Unanswered K (ev (Worker w) what)))) (sym first));
    class = λ f q. let z = some-fault fault f q in rw (← z, same) grave;
    call = λ f q a. let z = some-fault fault f q in rw (← z) hand;
    kept = λ f q a. s;
    stands = λ none. cc;
  }

  -- it breaks none of them, and may leave a call
  pub judges-left : (e : Event) (left : Option ℕ) (found : Option Fault) → first_done P S K e.who e.what ≡ None → is_some left ≡ leaves_unanswered Unanswered K e → found ≡ option_map fault_left left
      → Stands P S (e ∷ K) new → Judges P S K e found new
  judges-left e left found none is same stands = record {
    clause = by left found same is;
    class = λ f q. grave left f (sym same ∙ q);
    call = λ f q a. absurd (a (about left f (sym same ∙ q)));
    kept = λ f q a. absurd (a (about left f (sym same ∙ q)));
    stands = λ q. stands;
  }
    where
      here : (b : Bool) → leaves_unanswered Unanswered K e ≡ b → broken_at P S K e ≡ if_left b
      here b q = done-or-left P S K e ∙ rw (none, q) refl

      by : (left : Option ℕ) (found : Option Fault) → found ≡ option_map fault_left left → is_some left ≡ leaves_unanswered Unanswered K e → clause_in found ≡ broken_at P S K e
      by None found q h = rw q (sym (here false (sym h)))
      by (Some call) found q h = rw q (sym (here true (sym h)))

      grave : (left : Option ℕ) (f : Fault) → option_map fault_left left ≡ Some f → f.class ≡ class_at P S K e f.clause
      grave None f q = cc
      grave (Some call) f q = let z = some-fault (fault_left call) f q in rw (← z) refl

      about : (left : Option ℕ) (f : Fault) → option_map fault_left left ≡ Some f → f.clause ≡ Unanswered
      about None f q = cc
      about (Some call) f q = let z = some-fault (fault_left call) f q in rw (← z) refl

  -- it breaks nothing
  pub judges-none : (e : Event) → first_done P S K e.who e.what ≡ None → leaves_unanswered Unanswered K e ≡ false → Stands P S (e ∷ K) new → Judges P S K e None new
  judges-none e none quiet stands = judges-left e None None none (sym quiet) refl stands

-- it is the newest one
pub judges-newest : (P : Policy) (S : Script) (H K older : List Event) (e newest : Event) (found : Option Fault) (new : Judge) → H ≡ e ∷ K → H ≡ newest ∷ older → Judges P S older newest found new → Judges P S K e found new
judges-newest P S H K older e newest found new at there h =
    let both : e ∷ K ≡ newest ∷ older = sym at ∙ there in
    let k : K ≡ older = cc in
    let q : e ≡ newest = cc in
    subst (λ (x : Event). Judges P S K x found new) (sym q) (subst (λ (L : List Event). Judges P S L newest found new) (sym k) h)
