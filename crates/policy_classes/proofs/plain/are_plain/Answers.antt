-- Each turn shows one more rule to be plain, and at the end these are all.
use Rattle.std.proofs.Common.{arith, rules}
use Rattle.policy_classes.proofs.PlainRules.{not_plain, plain_more, plain_whole}
use Rattle.policy_classes.proofs.plain.are_plain.Goals as goal

pub loop-place-preserved : goal.loop-place-preserved
loop-place-preserved c =
    plain_more c.args.rules.now c.args.atoms.now c.loop-place.place c.index-rules-place.result c.index-atoms-place.result c.items.result.now (omega arith)
    c.requires (cc (c.items.ensures, c.index-atoms-place.is)) c.loop-place.invariant (c.is_plain.ensures.0 (search rules)).0
    (c.is_plain.ensures.0 (search rules)).1

pub returns : goal.returns
returns c = ((λ t. plain_whole c.args.rules.now c.loop-place.place (omega arith) c.loop-place.invariant), λ h. search rules)

pub returns-then-not-is_plain : goal.returns-then-not-is_plain
returns-then-not-is_plain c = (
  (λ t. search rules),
  λ h. absurd (not_plain c.args.rules.now c.args.atoms.now c.loop-place.place c.index-rules-place.result c.index-atoms-place.result
      c.items.result.now (omega arith) c.requires (cc (c.items.ensures, c.index-atoms-place.is))
      (λ both. let so = c.is_plain.ensures.1 both in let isnt = c.if-not-is_plain.true in search rules) h),
)
