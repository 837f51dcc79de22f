use Rattle.std.proofs.Common.{◌<◌, length, Some, refl, sym, ◌∙◌, arith}
use Rattle.std.proofs.lemmas.Bool.{eq-eqb}
use Rattle.mount_tree.specs.Chains.{bucket_of}
use Rattle.mount_tree.specs.Keys.{key_of}
use Rattle.mount_tree.proofs.Chained.{first_leads, next_leads, found_chained, none_chained}
use Rattle.mount_tree.proofs.index.Index.find_chained.Goals as goal

pub loop-place-init : goal.loop-place-init
loop-place-init g c =
    let count = length c.args.self.now.heads in
    let k = key_of (Some c.args.owner) c.args.name.now in
    let b = bucket_of count c.args.owner c.args.name.now in
    let below : b < count = rw c.bucket.ensures.bucket at c.bucket.ensures.below in
    let at = rw c.bucket.ensures.bucket at c.index-place.ensures in
    first_leads _ k c.args.self.now b _ c.requires.chains (eq-eqb b b refl) below (rw (← c.self.view_is) (rw (← c.self.view_is) at at))

pub returns-then-is_key : goal.returns-then-is_key
returns-then-is_key g c =
    found_chained g.T.Row.key c.args.rows.now _ _ _ c.loop-place.place c.index-rows-n.result (omega arith) c.loop-place.invariant (rw (← c.index-rows-n.is) (sym c.is_key.ensures ∙ c.if-is_key.true))

pub loop-place-smaller : goal.loop-place-smaller
loop-place-smaller g c =
    let count = length c.args.self.now.heads in
    let k = key_of (Some c.args.owner) c.args.name.now in
    let b = bucket_of count c.args.owner c.args.name.now in
    (next_leads g.T.Row.key c.args.rows.now k c.args.self.now b c.loop-place.place c.index-place-in-loop-place.result.now c.index-rows-n.result c.requires.chains (eq-eqb b b refl) (omega arith) c.loop-place.invariant
    (rw (← c.index-rows-n.is) (sym c.is_key.ensures ∙ c.if-is_key.false)) (rw (← c.self.view_is) c.index-place-in-loop-place.ensures)).0

pub loop-place-preserved : goal.loop-place-preserved
loop-place-preserved g c =
    let count = length c.args.self.now.heads in
    let k = key_of (Some c.args.owner) c.args.name.now in
    let b = bucket_of count c.args.owner c.args.name.now in
    (next_leads g.T.Row.key c.args.rows.now k c.args.self.now b c.loop-place.place c.index-place-in-loop-place.result.now c.index-rows-n.result c.requires.chains (eq-eqb b b refl) (omega arith) c.loop-place.invariant
    (rw (← c.index-rows-n.is) (sym c.is_key.ensures ∙ c.if-is_key.false)) (rw (← c.self.view_is) c.index-place-in-loop-place.ensures)).1

pub returns : goal.returns
returns g c = none_chained g.T.Row.key c.args.rows.now _ _ _ c.loop-place.place (omega arith) c.loop-place.invariant
