use Rattle.std.proofs.Common.{◌<◌, ◌≤◌, All, arith, length, map, refl, sym, subst}
use Rattle.std.proofs.lemmas.List.{take_all}
use Rattle.std.proofs.lemmas.List.Elements.{All-get_or, All-nil, All-set}
use Rattle.hist_model.specs.declared.history.Setup.{Setup}
use Rattle.crew.proofs.Passes.{pass-at, replaced, same-number}
use Rattle.crew.proofs.Seen.{same-seen, seen-more, so-far}
use Rattle.crew.specs.Locks.{HasEnded, IsFirst, seen_of}
use Rattle.crew.proofs.locks.see_ends.Goals as goal

pub loop-place-init : goal.loop-place-init
loop-place-init g c = record {
  own = c.requires.own;
  first = c.requires.first;
  seen = same-seen c.args.firsts.now.items c.args.firsts.now.items refl;
  over = All-nil (HasEnded g.S.Crewed.ends);
}

pub see_end-requires : goal.see_end-requires
see_end-requires g c =
    let i = c.loop-place.invariant in
    let ls = c.args.locks.now.items in
    let ps = c.loop-place.firsts.items in
    let within : c.loop-place.place < length ls = omega (arith, c.loop-place-test.true, c.len-place-end.ensures) in
    let number = same-number ls ps i.own in
    let within-firsts : c.loop-place.place < length ps = omega (arith, within, number) in
    record {
      own = (
        pass-at ls c.loop-place.place c.index.result.now within c.index.ensures ps i.own c.index_mut.result.now c.index_mut.ensures.value,
        subst (IsFirst 0) (sym c.index_mut.ensures.value) (All-get_or (IsFirst 0) ps c.loop-place.place c.index_mut.result.now within-firsts i.first),
      );
    }

pub returns-in_err-see_end-clause-own : goal.returns-in_err-see_end-clause-own
returns-in_err-see_end-clause-own g c =
    let i = c.loop-place.invariant in
    let ls = c.args.locks.now.items in
    let within : c.loop-place.place < length ls = omega (arith, c.loop-place-test.true, c.len-place-end.ensures) in
    replaced ls c.loop-place.place c.index.result.now within c.index.ensures c.loop-place.firsts.items i.own c.index_mut.result.now c.see_end.new.pass c.index_mut.ensures.value c.see_end.ensures.own.0

pub returns-in_err-see_end-clause-seen : goal.returns-in_err-see_end-clause-seen
returns-in_err-see_end-clause-seen g c =
    let i = c.loop-place.invariant in
    let ps = c.loop-place.firsts.items in
    let number = same-number c.args.locks.now.items ps i.own in
    let within : c.loop-place.place < length ps = omega (arith, c.loop-place-test.true, c.len-place-end.ensures, number) in
    seen-more ps (map seen_of c.args.firsts.now.items) c.loop-place.place c.index_mut.result.now c.see_end.new.pass within c.index_mut.ensures.value c.see_end.ensures.begins i.seen

pub loop-place-preserved : goal.loop-place-preserved
loop-place-preserved g c =
    let i = c.loop-place.invariant in
    let place = c.loop-place.place in
    let ls = c.args.locks.now.items in
    let ps = c.loop-place.firsts.items in
    let old = c.index_mut.result.now in
    let new = c.see_end.new.pass in
    let told = c.see_end.ensures in
    let number = same-number ls ps i.own in
    let within : place < length ls = omega (arith, c.loop-place-test.true, c.len-place-end.ensures) in
    let within-firsts : place < length ps = omega (arith, within, number) in
    let ends = g.S.Crewed.ends in
    let over : HasEnded ends new = subst (λ (made : Setup). ends made new.seen) (sym told.own.0.1) c.in_ok-see_end.ensures.served in
    record {
      own = replaced ls place c.index.result.now within c.index.ensures ps i.own old new c.index_mut.ensures.value told.own.0;
      first = All-set (IsFirst 0) ps place new told.own.1 i.first;
      seen = seen-more ps (map seen_of c.args.firsts.now.items) place old new within-firsts c.index_mut.ensures.value told.begins i.seen;
      over = so-far (HasEnded ends) ps place new within-firsts over i.over;
    }

pub returns-clause-ended : goal.returns-clause-ended
returns-clause-ended g c =
    let i = c.loop-place.invariant in
    let ps = c.loop-place.firsts.items in
    let number = same-number c.args.locks.now.items ps i.own in
    let all : length ps ≤ c.loop-place.place = omega (arith, c.loop-place-test.false, c.len-place-end.ensures, number) in
    subst (All (HasEnded g.S.Crewed.ends)) (take_all c.loop-place.place ps all) i.over
