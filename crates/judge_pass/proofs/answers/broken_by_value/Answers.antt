-- By the number that may be told.
use Rattle.std.proofs.Common.{rules, ◌≡◌, Bool, reverse, Some, None, pos, w64, to_z, of_z, ap, sym, ◌∙◌}
use Rattle.std.specs.Prelude.{if◌then◌else◌}
use Rattle.std.specs.Ordering.{int_eq}
use Rattle.broker_verdict.specs.Answers.{number_told}
use Rattle.broker_verdict.specs.declared.clause.Clause.TheVariants.{OtherOutcome}
use Rattle.judge_pass.proofs.SaidOutcome.{no_number, other_number}
use Rattle.judge_pass.proofs.answers.broken_by_value.Goals as goal

pub returns-in-Some : goal.returns-in-Some
returns-in-Some c = λ P S at id h hand.
    let K = reverse c.args.before.now in
    let told : number_told K c.args.worker at ≡ Some c.in-Some.number = sym (c.in_ok-number.ensures P S at h hand) ∙ c.in-Some.is in
    let same : to_z w64 (of_z w64 c.args.value) ≡ c.args.value = search rules in
    let is : c.is_number.result ≡ int_eq (pos c.in-Some.number) c.args.value = c.is_number.ensures ∙ ap (int_eq (pos c.in-Some.number)) same in
    c.broken_unless.ensures ∙ ap (λ (b : Bool). if b then None else Some OtherOutcome) is ∙ other_number P S K c.args.worker at id c.in-Some.number c.args.value told

pub returns-in-None : goal.returns-in-None
returns-in-None c = λ P S at id h hand.
    let K = reverse c.args.before.now in
    let told : number_told K c.args.worker at ≡ None = sym (c.in_ok-number.ensures P S at h hand) ∙ c.in-None.is in
    no_number P S K c.args.worker at id c.args.value told
