-- Which clause an answer breaks by what came of an effect.
-- By the definition, for each kind of answer.
use Rattle.std.proofs.Common.{◌≡◌, ℕ, ℤ, pos, Bool, true, false, List, Some, None, refl, ap, ◌∙◌}
use Rattle.std.specs.Prelude.{◌&&◌, is_some, not, if◌then◌else◌, Ok}
use Rattle.std.specs.Ordering.{int_eq}
use Rattle.std.proofs.lemmas.Bool.{eq-eqb}
use Rattle.hist_model.specs.Calls.{id}
use Rattle.hist_model.specs.declared.event.Back.{Back}
use Rattle.hist_model.specs.declared.event.Back.TheVariants.{Fail, Value}
use Rattle.hist_model.specs.declared.event.Event.{Event}
use Rattle.hist_model.specs.declared.event.What.TheVariants.{Send}
use Rattle.hist_model.specs.declared.policy.Policy.{Policy}
use Rattle.hist_model.specs.declared.script.Script.{Script}
use Rattle.broker_verdict.specs.Answers.{allows_error, answers_other, has_effect, has_known, number_told, outcome_at, what_done}
use Rattle.broker_verdict.specs.Choices.{by_registers}
use Rattle.broker_verdict.specs.Seats.{effect_of}
use Rattle.broker_verdict.specs.declared.clause.Clause.{Clause}
use Rattle.broker_verdict.specs.declared.clause.Clause.TheVariants.{AnsweredAlready, GrantedNotDone, OtherOutcome}
use Rattle.judge_pass.specs.Clauses.{clauses_of_outcome, clauses_of_policy, clauses_of_words}
use Rattle.judge_pass.proofs.FirstBroken.{first_said}

unless : (b : Bool) (clause : Clause) → (if b then None else Some clause) ≡ (if not b then Some clause else None)
unless true clause = refl
unless false clause = refl

pub other_number : (P : Policy) (S : Script) (K : List Event) (w c x n : ℕ) (value : ℤ) → number_told K w c ≡ Some n
    → (if int_eq (pos n) value then None else Some OtherOutcome) ≡ first_said P S K w c (Send x (Value value) (Ok tt)) clauses_of_outcome
other_number P S K w c x n value h = rw h (unless (int_eq (pos n) value) OtherOutcome)

pub no_number : (P : Policy) (S : Script) (K : List Event) (w c x : ℕ) (value : ℤ) → number_told K w c ≡ None
    → Some GrantedNotDone ≡ first_said P S K w c (Send x (Value value) (Ok tt)) clauses_of_outcome
no_number P S K w c x value h = rw h refl

-- an error, where it is found whether the seat's effect allows it
pub other_error : (P : Policy) (S : Script) (K : List Event) (w c x e : ℕ) (b : Bool)
    → b ≡ not (has_effect K w && not (allows_error (outcome_at K (effect_of K w)) (what_done K (effect_of K w)) e))
    → (if b then None else Some OtherOutcome) ≡ first_said P S K w c (Send x (Fail e) (Ok tt)) clauses_of_outcome
other_error P S K w c x e b h = rw h (twice (has_effect K w && not (allows_error (outcome_at K (effect_of K w)) (what_done K (effect_of K w)) e)))
  where
    twice : (y : Bool) → (if not y then None else Some OtherOutcome) ≡ (if y then Some OtherOutcome else None)
    twice true = refl
    twice false = refl

-- ---- what the policy says, without an effect

and_false : (b : Bool) → (b && false) ≡ false
and_false true = refl
and_false false = refl

-- a copy is known, or something is said by registers
pub with_cause : (P : Policy) (S : Script) (K : List Event) (w c x : ℕ) (back : Back)
    → (not (has_known K w c) && not (is_some (by_registers P K c))) ≡ false
    → first_said P S K w c (Send x back (Ok tt)) clauses_of_words ≡ first_said P S K w c (Send x back (Ok tt)) clauses_of_policy
with_cause P S K w c x back h = rw (h, and_false (not (has_effect K w))) refl

pub not_first : (b : Bool) → (if not b then None else Some AnsweredAlready) ≡ (if b then Some AnsweredAlready else None)
not_first true = refl
not_first false = refl

pub own_id : (K : List Event) (c x y : ℕ) → id K c ≡ x → x ≡ y → answers_other K c y ≡ false
own_id K c x y h same = ap not (eq-eqb (id K c) y (h ∙ same))
