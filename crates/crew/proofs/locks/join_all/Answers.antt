use Rattle.std.proofs.Common.{◌≡◌, ◌+◌, ◌<◌, ◌≤◌, List, arith, drop, length, map, refl, sym, subst}
use Rattle.turn_lock.specs.Facts.{IsPassOf, PassFacts}
use Rattle.crew.proofs.Passes.{at-here, at-others, join-first, next-pass, out-all, out-more, pass-at, pass-less, replaced, same-number}
use Rattle.std.proofs.lemmas.List.Elements.{All-nil}
use Rattle.crew.proofs.Seen.{joined-begins, same-seen, seen-more}
use Rattle.crew.specs.Locks.{IsFirst, MayJoin, key, key_of_pass, seen_of}
use Rattle.crew.proofs.locks.join_all.Goals as goal

pub join-requires-clause-own : goal.join-requires-clause-own
join-requires-clause-own g c =
    let i = c.loop-place.invariant in
    let ls = c.args.locks.now.items in
    let within : c.loop-place.place < length ls = omega (arith, c.loop-place-test.true, c.len-place-end.ensures) in (
      pass-at ls c.loop-place.place c.index.result.now within c.index.ensures c.loop-place.firsts.items i.own c.index_mut.result.now c.index_mut.ensures.value,
      next-pass ls c.loop-place.place c.index.result.now within c.index.ensures c.loop-place.passes.items c.remove-pass.result i.passes c.remove-pass.ensures.value,
    )

pub join-requires-clause-first : goal.join-requires-clause-first
join-requires-clause-first g c =
    let number = same-number c.args.locks.now.items c.loop-place.firsts.items c.loop-place.invariant.own in
    let within : c.loop-place.place < length c.loop-place.firsts.items = omega (arith, c.loop-place-test.true, c.len-place-end.ensures, number) in
    at-here MayJoin c.loop-place.place c.loop-place.firsts.items c.index_mut.result.now within c.index_mut.ensures.value c.loop-place.invariant.may

pub loop-place-init : goal.loop-place-init
loop-place-init g c = record {
  own = c.requires.own;
  may = c.requires.may;
  first = λ n h. (All-nil (IsFirst n), h);
  seen = same-seen c.args.firsts.now.items c.args.firsts.now.items refl;
  passes = c.requires.passes;
}

pub loop-place-preserved : goal.loop-place-preserved
loop-place-preserved g c =
    let i = c.loop-place.invariant in
    let place = c.loop-place.place in
    let ls = c.args.locks.now.items in
    let ps = c.loop-place.firsts.items in
    let lock = c.index.result.now in
    let old = c.index_mut.result.now in
    let new = c.join.new.pass in
    let number = same-number ls ps i.own in
    let within : place < length ls = omega (arith, c.loop-place-test.true, c.len-place-end.ensures) in
    let within-firsts : place < length ps = omega (arith, within, number) in
    let of = pass-at ls place lock within c.index.ensures ps i.own old c.index_mut.ensures.value in
    record {
      own = replaced ls place lock within c.index.ensures ps i.own old new c.index_mut.ensures.value (subst (IsPassOf lock) (sym c.join.ensures.0) of);
      may = at-others MayJoin place ps new within-firsts i.may;
      first = λ n h.
          out-more n (n + 1) place ps new within-firsts
          (join-first n old c.remove-pass.result new c.join.ensures.0 (at-here (IsFirst (n + 1)) place ps old within-firsts c.index_mut.ensures.value (i.first n h).1)) (i.first n h);
      seen = seen-more ps (map seen_of c.args.firsts.now.items) place old new within-firsts c.index_mut.ensures.value (joined-begins old c.remove-pass.result new c.join.ensures) i.seen;
      passes =
          subst (λ (qs : List PassFacts). map key_of_pass qs ≡ drop (place + 1) (map key ls)) (sym c.remove-pass.ensures.items)
          (pass-less ls place lock within c.index.ensures c.loop-place.passes.items i.passes);
    }

pub returns-clause-first : goal.returns-clause-first
returns-clause-first g c =
    let i = c.loop-place.invariant in
    let ps = c.loop-place.firsts.items in
    let number = same-number c.args.locks.now.items ps i.own in
    let all : length ps ≤ c.loop-place.place = omega (arith, c.loop-place-test.false, c.len-place-end.ensures, number) in
    λ n h. out-all n (n + 1) c.loop-place.place ps all (i.first n h)
