use Rattle.std.proofs.Common.{◌≡◌, ◌∙◌, ◌<◌, ◌++◌, ◌∷◌, All, List, [], ap, arith, length, rules, sym, subst}
use Rattle.std.proofs.lemmas.List.Elements.{All-push}
use Rattle.turn_lock.specs.Facts.{LockFacts, PassFacts}
use Rattle.crew.proofs.Closing.{all-made, one-made, one-owned}
use Rattle.crew.specs.Locks.{AreOf, IsFirst, seen_of, setup_of}
use Rattle.crew.proofs.locks.lock_all.Goals as goal

pub loop-alloc-preserved : goal.loop-alloc-preserved
loop-alloc-preserved g c =
    let i = c.loop-alloc.invariant in
    let lock = c.in-Ok.lock in
    let pass = c.in-Ok.first in
    let told = c.in-Ok.ensures in
    let some : 0 < length c.loop-alloc.states.items = omega (arith, c.remove-state.ensures.len) in
    let locks : c.push.new.self.items ≡ c.loop-alloc.locks.items ++ lock ∷ [] = c.in_ok-push.ensures.items in
    let firsts : c.push-in-loop-alloc.new.self.items ≡ c.loop-alloc.firsts.items ++ pass ∷ [] = c.in_ok-push-2.ensures.items in
    record {
      setups = rw (locks, c.remove-state.ensures.items)
          (one-made g.S.Journalled.setup setup_of c.loop-alloc.locks.items lock c.remove-state.result c.loop-alloc.states.items c.args.states.items i.setups some c.remove-state.ensures.value told.lock.0);
      own =
          subst (λ (ls : List LockFacts). AreOf ls c.push-in-loop-alloc.new.self.items) (sym locks)
          (subst (AreOf (c.loop-alloc.locks.items ++ lock ∷ [])) (sym firsts) (one-owned c.loop-alloc.locks.items c.loop-alloc.firsts.items lock pass i.own told.pass));
      first =
          subst (All (IsFirst 0)) (sym firsts)
          (All-push (IsFirst 0) c.loop-alloc.firsts.items pass i.first (ap (λ (p : PassFacts). p.first) told.pass, ap (λ (p : PassFacts). p.out) told.pass));
      seen = rw (firsts, c.remove-state.ensures.items)
          (one-made (λ s. (g.S.Journalled.history s).events) seen_of c.loop-alloc.firsts.items pass c.remove-state.result c.loop-alloc.states.items c.args.states.items i.seen some c.remove-state.ensures.value (ap seen_of told.pass ∙ told.lock.1));
    }

pub returns-clause-setups : goal.returns-clause-setups
returns-clause-setups g c =
    let none : length c.loop-alloc.states.items ≡ 0 = search rules in
    all-made g.S.Journalled.setup setup_of c.loop-alloc.locks.items c.loop-alloc.states.items c.args.states.items c.loop-alloc.invariant.setups none

pub returns-clause-seen : goal.returns-clause-seen
returns-clause-seen g c =
    let none : length c.loop-alloc.states.items ≡ 0 = search rules in
    all-made (λ s. (g.S.Journalled.history s).events) seen_of c.loop-alloc.firsts.items c.loop-alloc.states.items c.args.states.items c.loop-alloc.invariant.seen none
