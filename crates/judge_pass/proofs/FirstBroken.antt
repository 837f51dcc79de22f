-- The first clause that an effect or an answer breaks, by parts.
-- By the definition at each clause in turn, for each kind of event.
use Rattle.std.proofs.Common.{◌≡◌, ℕ, Bool, true, false, List, [], ◌∷◌, ◌++◌, Option, Some, None, Result, refl, ◌∙◌}
use Rattle.std.specs.Prelude.{if◌then◌else◌, Ok, Err}
use Rattle.std.proofs.Math.Bool.{or-false}
use Rattle.hist_model.specs.Steps.{session_call}
use Rattle.hist_model.specs.declared.event.Actor.TheVariants.{Worker}
use Rattle.hist_model.specs.declared.event.Back.{Back}
use Rattle.hist_model.specs.declared.event.Event.{Event}
use Rattle.hist_model.specs.declared.event.What.{What}
use Rattle.hist_model.specs.declared.event.What.TheVariants.{Act, AddfdPut, Plant, Send}
use Rattle.hist_model.specs.declared.policy.Policy.{Policy}
use Rattle.hist_model.specs.declared.script.Script.{Script}
use Rattle.broker_verdict.specs.Answers.{answers_other, is_second}
use Rattle.broker_verdict.specs.Effects.{asks_other}
use Rattle.broker_verdict.specs.Seats.{is_effect}
use Rattle.broker_verdict.specs.Trusted.{answer_breaks, breaks_by, clauses, effect_breaks, first_broken, later_clauses}
use Rattle.broker_verdict.specs.declared.clause.Clause.{Clause}
use Rattle.broker_verdict.specs.declared.clause.Clause.TheVariants.{AnsweredAlready, AnswerWithoutCall, EffectWithoutCall}
use Rattle.judge_pass.specs.Clauses.{clauses_of_accepted, clauses_of_answers, clauses_of_effects, clauses_of_outcome, clauses_of_policy, clauses_of_reads}

pub first_of_effect : (P : Policy) (S : Script) (K : List Event) (w c : ℕ) (what : What) → is_effect what ≡ true → session_call K w ≡ Some c
    → first_broken (λ clause. breaks_by P S clause K (Worker w) what) clauses ≡ first_broken (λ clause. effect_breaks P S clause K w c what) clauses_of_effects
first_of_effect P S K w c (Act q cap answer) h s = rw s (simp or-false)
first_of_effect P S K w c (Plant addr bytes cap answer) h s = rw s (simp or-false)
first_of_effect P S K w c (AddfdPut asked answer) h s = rw s (simp or-false)
first_of_effect P S K w c _ h s = let e : false ≡ true = h in absurd (cc)

pub first_without_call : (P : Policy) (S : Script) (K : List Event) (w : ℕ) (what : What) → is_effect what ≡ true → session_call K w ≡ None
    → first_broken (λ clause. breaks_by P S clause K (Worker w) what) clauses ≡ Some EffectWithoutCall
first_without_call P S K w what h s = rw (s, h) refl

-- the clauses behind the check
pub later_of_effect : (P : Policy) (S : Script) (K : List Event) (w c : ℕ) (what : What) → is_effect what ≡ true → session_call K w ≡ Some c
    → first_broken (λ later. breaks_by P S later K (Worker w) what) later_clauses ≡ first_broken (λ clause. effect_breaks P S clause K w c what) later_clauses
later_of_effect P S K w c (Act q cap answer) h s = rw s (simp or-false)
later_of_effect P S K w c (Plant addr bytes cap answer) h s = rw s (simp or-false)
later_of_effect P S K w c (AddfdPut asked answer) h s = rw s (simp or-false)
later_of_effect P S K w c _ h s = let e : false ≡ true = h in absurd (cc)

pub no_later_without_call : (P : Policy) (S : Script) (K : List Event) (w : ℕ) (what : What) → session_call K w ≡ None
    → first_broken (λ later. breaks_by P S later K (Worker w) what) later_clauses ≡ None
no_later_without_call P S K w what s = rw s refl

-- ---- the first of two lists

abbrev pub or_first : Option Clause → Option Clause → Option Clause
or_first (Some clause) more = Some clause
or_first None more = more

or_none : (o : Option Clause) → or_first o None ≡ o
or_none (Some clause) = refl
or_none None = refl

pub first_of_both : (broken : Clause → Bool) (some more : List Clause) → first_broken broken (some ++ more) ≡ or_first (first_broken broken some) (first_broken broken more)
first_of_both broken [] more = refl
first_of_both broken (clause ∷ some) more = by_test (broken clause) refl (first_of_both broken some more)
  where
    by_test : (b : Bool) → broken clause ≡ b → first_broken broken (some ++ more) ≡ or_first (first_broken broken some) (first_broken broken more)
        → first_broken broken ((clause ∷ some) ++ more) ≡ or_first (first_broken broken (clause ∷ some)) (first_broken broken more)
    by_test true q ih = rw q refl
    by_test false q ih = rw q ih

-- the first clause of an effect, where one about its reads is broken, or none of them
abbrev pub first_of : Policy → Script → List Event → ℕ → ℕ → What → List Clause → Option Clause
first_of P S K w c what some = first_broken (λ clause. effect_breaks P S clause K w c what) some

pub then_reads : (P : Policy) (S : Script) (K : List Event) (w c : ℕ) (what : What) → asks_other K c what ≡ false
    → first_of P S K w c what clauses_of_effects ≡ or_first (first_of P S K w c what clauses_of_reads) (first_of P S K w c what later_clauses)
then_reads P S K w c what h = rw h (first_of_both (λ clause. effect_breaks P S clause K w c what) clauses_of_reads later_clauses)

-- ---- answers

pub first_of_answer : (P : Policy) (S : Script) (K : List Event) (w c id : ℕ) (back : Back) (answer : Result (Unit {0}) ℕ) → session_call K w ≡ Some c
    → first_broken (λ clause. breaks_by P S clause K (Worker w) (Send id back answer)) clauses
    ≡ first_broken (λ clause. answer_breaks P S clause K w c (Send id back answer)) clauses_of_answers
first_of_answer P S K w c id back answer s = rw s refl

pub answer_without_call : (P : Policy) (S : Script) (K : List Event) (w id : ℕ) (back : Back) (answer : Result (Unit {0}) ℕ) → session_call K w ≡ None
    → first_broken (λ clause. breaks_by P S clause K (Worker w) (Send id back answer)) clauses ≡ Some AnswerWithoutCall
answer_without_call P S K w id back answer s = rw s refl

-- the first clause of an answer among some
abbrev pub first_said : Policy → Script → List Event → ℕ → ℕ → What → List Clause → Option Clause
first_said P S K w c what some = first_broken (λ clause. answer_breaks P S clause K w c what) some

pub then_accepted : (P : Policy) (S : Script) (K : List Event) (w c id : ℕ) (back : Back) → answers_other K c id ≡ false
    → first_said P S K w c (Send id back (Ok tt)) clauses_of_answers ≡ first_said P S K w c (Send id back (Ok tt)) clauses_of_accepted
then_accepted P S K w c id back h =
    rw h (first_of_both (λ clause. answer_breaks P S clause K w c (Send id back (Ok tt))) clauses_of_accepted (AnsweredAlready ∷ []) ∙ or_none _)

pub then_policy : (P : Policy) (S : Script) (K : List Event) (w c id : ℕ) (back : Back)
    → first_said P S K w c (Send id back (Ok tt)) clauses_of_accepted
    ≡ or_first (first_said P S K w c (Send id back (Ok tt)) clauses_of_policy) (first_said P S K w c (Send id back (Ok tt)) clauses_of_outcome)
then_policy P S K w c id back = first_of_both (λ clause. answer_breaks P S clause K w c (Send id back (Ok tt))) clauses_of_policy clauses_of_outcome

-- an answer that its call wasn't given
pub then_second : (P : Policy) (S : Script) (K : List Event) (w c id e : ℕ) (back : Back) → answers_other K c id ≡ false
    → first_said P S K w c (Send id back (Err e)) clauses_of_answers ≡ (if is_second K w (Err e) then Some AnsweredAlready else None)
then_second P S K w c id e back h = rw h refl
