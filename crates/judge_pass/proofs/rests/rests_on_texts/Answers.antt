-- By what is found of the texts that the act names.
use Rattle.std.proofs.Common.{rules, ◌≡◌, w32, to_z, of_z, ap, sym, ◌∙◌}
use Rattle.hist_model.specs.Copies.{plan}
use Rattle.broker_verdict.specs.Effects.{texts_of}
use Rattle.broker_verdict.specs.SeatCopies.{plan_of}
use Rattle.judge_pass.proofs.Rested.{fit, plan_known, unfit}
use Rattle.judge_pass.proofs.rests.rests_on_texts.Goals as goal

pub returns-then-not-can_have : goal.returns-then-not-can_have
returns-then-not-can_have c = λ P K w at cap answer is same.
    let called = c.args.called.now in
    let same_nr : to_z w32 (of_z w32 called.nr) ≡ called.nr = search rules in
    let parts : c.of.result ≡ plan_of K at = plan_known K at called c.of.result is (c.of.ensures.parts ∙ ap (λ x. plan x called.args) same_nr) in
    let texts : c.as_slice.result.now ≡ texts_of c.args.request.now = c.as_slice.ensures.value ∙ c.in_ok-texts.ensures in
    unfit P K w at c.args.request.now cap answer (rw (parts, texts) at (sym c.if-not-can_have.ensures))

pub returns : goal.returns
returns c = λ P K w at cap answer is same.
    let called = c.args.called.now in
    let same_nr : to_z w32 (of_z w32 called.nr) ≡ called.nr = search rules in
    let parts : c.of.result ≡ plan_of K at = plan_known K at called c.of.result is (c.of.ensures.parts ∙ ap (λ x. plan x called.args) same_nr) in
    let parts2 : c.of-2.result ≡ plan_of K at = plan_known K at called c.of-2.result is (c.of-2.ensures.parts ∙ ap (λ x. plan x called.args) same_nr) in
    let texts : c.as_slice.result.now ≡ texts_of c.args.request.now = c.as_slice.ensures.value ∙ c.in_ok-texts.ensures in
    let texts2 : c.as_slice-3.result.now ≡ texts_of c.args.request.now = c.as_slice-3.ensures.value ∙ c.in_ok-texts.ensures in
    let all : c.as_slice-2.result.now ≡ c.args.seat.now.reads.items = c.as_slice-2.ensures.value in
    fit P K w at c.args.request.now cap answer c.args.seat.now.reads.items c.in_ok-rank.rank same (rw (parts, texts) at (sym c.if-not-can_have.ensures))
    (λ least. rw (← all, ← parts2, ← texts2) (c.in_ok-rank.ensures least))
