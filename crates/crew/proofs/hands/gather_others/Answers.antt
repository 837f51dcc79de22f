use Rattle.std.proofs.Common.{◌≡◌, ◌+◌, All, arith, length, map, refl, subst, Option, ℕ}
use Rattle.std.proofs.lemmas.List.Elements.{All-pop}
use Rattle.std.specs.Prelude.{IfSome}
use Rattle.crew.specs.Locks.{AreOf, IsFirst, seen_of}
use Rattle.crew.proofs.Seen.{each-trans, same-seen}
use Rattle.crew.specs.declared.hands.Hand.{Hand}
use Rattle.crew.proofs.hands.gather_others.Goals as goal

pub loop-hand-preserved : goal.loop-hand-preserved
loop-hand-preserved g c =
    let i = c.loop-hand.invariant in
    let fewer : length c.loop-hand.hands.items ≡ length c.pop.new.self.items + 1 = omega (arith, c.in-Some.ensures.cases) in
    record {
      own = c.join_all.ensures.own;
      first = c.join_all.ensures.first (length c.pop.new.self.items) (subst (λ (n : ℕ). All (IsFirst n) c.loop-hand.firsts.items) fewer i.first);
      seen = each-trans (map seen_of c.join_all.new.firsts.items) (map seen_of c.loop-hand.firsts.items) (map seen_of c.args.firsts.now.items) c.join_all.ensures.seen i.seen;
      hands = (All-pop (λ (h : Hand). AreOf c.args.locks.now.items h.passes.items) c.loop-hand.hands.items c.pop.new.self.items c.pop.result c.pop.ensures.items i.hands).0;
    }

pub join_all-requires-clause-passes : goal.join_all-requires-clause-passes
join_all-requires-clause-passes g c =
    let each = AreOf c.args.locks.now.items in
    let last = (All-pop (λ (h : Hand). each h.passes.items) c.loop-hand.hands.items c.pop.new.self.items c.pop.result c.pop.ensures.items c.loop-hand.invariant.hands).1 in
    subst (λ (o : Option Hand). IfSome o (λ (h : Hand). each h.passes.items)) c.in-Some.is last

pub loop-hand-init : goal.loop-hand-init
loop-hand-init g c = record {
  own = c.requires.own;
  first = c.requires.first;
  seen = same-seen c.args.firsts.now.items c.args.firsts.now.items refl;
  hands = c.requires.hands;
}
