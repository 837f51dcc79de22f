use Rattle.std.proofs.Common.{◌∙◌, ◌<◌, All, Option, arith, length, sym, subst, ℕ}
use Rattle.std.proofs.lemmas.List.Elements.{All-push}
use Rattle.crew.specs.Locks.{Admits, AreOf, IsFirst}
use Rattle.crew.specs.declared.hands.Hand.{Hand}
use Rattle.crew.proofs.Passes.{calling-may, other-may}
use Rattle.crew.proofs.hands.add_hands.Goals as goal

pub loop-place-preserved : goal.loop-place-preserved
loop-place-preserved g c =
    let i = c.loop-place.invariant in
    let ls = c.args.locks.now.items in
    let within : c.loop-place.place < length c.args.crew.now.others.items = omega (arith, c.loop-place-test.true, c.len-count.ensures) in
    let may = other-may c.args.crew.now ls c.loop-place.place c.index.result.now c.requires.may within c.index.ensures in
    record {
      own = c.new_hand.ensures.own;
      first = c.in_ok-hand.ensures.first c.loop-place.place i.first;
      seen = c.new_hand.ensures.seen ∙ i.seen;
      room = omega (arith, i.room);
      number = omega (arith, i.number, c.push_reserved.ensures.len);
      hands =
          subst (All (λ (h : Hand). AreOf ls h.passes.items × All (Admits h.turn.errand.worker) ls)) (sym c.push_reserved.ensures.items)
          (All-push (λ (h : Hand). AreOf ls h.passes.items × All (Admits h.turn.errand.worker) ls) c.loop-place.others.items _ i.hands
          (c.in_ok-hand.ensures.hand.0, subst (λ (worker : Option ℕ). All (Admits worker) ls) (sym c.in_ok-hand.ensures.hand.1) may));
    }

pub returns-clause-first : goal.returns-clause-first
returns-clause-first g c =
    let i = c.loop-place.invariant in
    c.in_ok-calling.ensures.first (length c.loop-place.others.items) (subst (λ (n : ℕ). All (IsFirst n) c.loop-place.firsts.items) i.number i.first)

pub returns-clause-calling : goal.returns-clause-calling
returns-clause-calling g c =
    let ls = c.args.locks.now.items in (
      c.in_ok-calling.ensures.hand.0,
      subst (λ (worker : Option ℕ). All (Admits worker) ls) (sym c.in_ok-calling.ensures.hand.1) (calling-may c.args.crew.now ls c.requires.may),
    )
