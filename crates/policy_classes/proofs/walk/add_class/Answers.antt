-- Each class is passed that is of other rules; one of the same is lessened, and else the class is added.
use Rattle.std.proofs.Common.{◌≡◌, [], ◌∷◌, ◌++◌, ap, sym, refl, ◌∙◌, arith}
use Rattle.std.proofs.lemmas.List.{get_or_default}
use Rattle.policy_classes.specs.declared.found.Class.{Class}
use Rattle.policy_classes.specs.Classes.{is_same, with_class}
use Rattle.policy_classes.proofs.Put.{all_passed, one_passed, put_lessened}
use Rattle.policy_classes.proofs.walk.add_class.Goals as goal

pub loop-place-init : goal.loop-place-init
loop-place-init c = (refl, refl)

pub loop-place-preserved : goal.loop-place-preserved
loop-place-preserved c =
    let added : Class = record { old_place = c.args.old_place; new_place = c.args.new_place; witness = c.args.witness.now } in (
      c.loop-place.invariant.0,
      one_passed c.loop-place.classes.items added c.loop-place.place c.index.result.now (omega arith)
          (ap (λ x. is_same x added) (sym c.index.ensures) ∙ sym c.is_of.ensures ∙ c.if-is_of.false) c.loop-place.invariant.1,
    )

pub returns-then-is_of : goal.returns-then-is_of
returns-then-is_of c =
    let added : Class = record { old_place = c.args.old_place; new_place = c.args.new_place; witness = c.args.witness.now } in
    let same : c.index_mut.result.now ≡ c.index.result.now = c.index_mut.ensures.value ∙ get_or_default c.loop-place.classes.items c.loop-place.place c.index_mut.result.now c.index.result.now (omega arith) ∙ sym c.index.ensures in
    put_lessened c.loop-place.classes.items added c.loop-place.place c.index_mut.result.now c.index_mut.result.now c.lessen.new.class (omega arith)
    c.index_mut.ensures.value c.in_ok-lessen.ensures (ap (λ x. is_same x added) same ∙ sym c.is_of.ensures ∙ c.if-is_of.true) c.loop-place.invariant.1
    ∙ ap (λ xs. with_class xs added) c.loop-place.invariant.0

pub returns : goal.returns
returns c =
    let added : Class = record { old_place = c.args.old_place; new_place = c.args.new_place; witness = c.args.witness.now } in
    c.in_ok-push.ensures.items ∙ ap (λ q. c.loop-place.classes.items ++ (record { old_place = c.args.old_place; new_place = c.args.new_place; witness = q }) ∷ []) c.in_ok-witness.ensures
    ∙ sym (all_passed c.loop-place.classes.items added c.loop-place.place (omega arith) c.loop-place.invariant.1)
    ∙ ap (λ xs. with_class xs added) c.loop-place.invariant.0
