use Rattle.std.proofs.Common.{◌≡◌, ◌∙◌, ◌+◌, ◌<◌, ◌≤◌, List, ap, arith, length, map, sym, subst, take}
use Rattle.turn_lock.specs.Facts.{IsPassOf, PassFacts}
use Rattle.crew.proofs.Passes.{at-here, at-others, out-all, out-more, pass-at, pass-more, replaced, same-number, split-first}
use Rattle.crew.proofs.Seen.{seen-still}
use Rattle.crew.specs.Locks.{IsFirst, MaySplit, key, key_of_pass}
use Rattle.crew.proofs.locks.split_all.Goals as goal

pub split-pass-requires-clause-own : goal.split-pass-requires-clause-own
split-pass-requires-clause-own g c =
    let ls = c.args.locks.now.items in
    let within : c.loop-place.place < length ls = omega (arith, c.loop-place-test.true, c.len-count.ensures) in
    pass-at ls c.loop-place.place c.index.result.now within c.index.ensures c.loop-place.firsts.items c.loop-place.invariant.own c.index_mut.result.now c.index_mut.ensures.value

pub split-pass-requires-clause-first : goal.split-pass-requires-clause-first
split-pass-requires-clause-first g c =
    let ls = c.args.locks.now.items in
    let number = same-number ls c.loop-place.firsts.items c.loop-place.invariant.own in
    let within : c.loop-place.place < length c.loop-place.firsts.items = omega (arith, c.loop-place-test.true, c.len-count.ensures, number) in
    at-here MaySplit c.loop-place.place c.loop-place.firsts.items c.index_mut.result.now within c.index_mut.ensures.value c.loop-place.invariant.may

pub loop-place-preserved : goal.loop-place-preserved
loop-place-preserved g c =
    let i = c.loop-place.invariant in
    let place = c.loop-place.place in
    let ls = c.args.locks.now.items in
    let ps = c.loop-place.firsts.items in
    let lock = c.index.result.now in
    let old = c.index_mut.result.now in
    let new = c.split-pass.new.pass in
    let number = same-number ls ps i.own in
    let within : place < length ls = omega (arith, c.loop-place-test.true, c.len-count.ensures) in
    let within-firsts : place < length ps = omega (arith, within, number) in
    let of = pass-at ls place lock within c.index.ensures ps i.own old c.index_mut.ensures.value in
    record {
      own = replaced ls place lock within c.index.ensures ps i.own old new c.index_mut.ensures.value (subst (IsPassOf lock) (sym c.split-pass.ensures.first) of);
      may = at-others MaySplit place ps new within-firsts i.may;
      first = λ n h.
          out-more (n + 1) n place ps new within-firsts (split-first n old new c.split-pass.ensures.first (at-here (IsFirst n) place ps old within-firsts c.index_mut.ensures.value (i.first n h).1)) (i.first n h);
      seen = seen-still ps place old new c.index_mut.ensures.value (ap (λ (p : PassFacts). p.seen) c.split-pass.ensures.first) ∙ i.seen;
      number = omega (arith, i.number);
      room = omega (arith, i.room);
      passes =
          subst (λ (qs : List PassFacts). map key_of_pass qs ≡ take (place + 1) (map key ls)) (sym c.push_reserved.ensures.items)
          (pass-more ls place lock within c.index.ensures c.loop-place.passes.items c.split-pass.result i.passes (subst (IsPassOf lock) (sym c.split-pass.ensures.other) of));
    }

pub returns-clause-first : goal.returns-clause-first
returns-clause-first g c =
    let i = c.loop-place.invariant in
    let ps = c.loop-place.firsts.items in
    let number = same-number c.args.locks.now.items ps i.own in
    let all : length ps ≤ c.loop-place.place = omega (arith, c.loop-place-test.false, c.len-count.ensures, number) in
    λ n h. out-all (n + 1) n c.loop-place.place ps all (i.first n h)
