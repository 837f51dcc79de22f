use Rattle.std.proofs.Common.{◌≡◌, ◌<◌, ◌∙◌, All, List, arith, length, rules, sym, subst}
use Rattle.std.proofs.lemmas.List.Elements.{All-get_or, All-push}
use Rattle.std.specs.List.{remove}
use Rattle.hist_model.specs.declared.event.Event.{Event}
use Rattle.hist_model.specs.declared.history.Setup.{Setup}
use Rattle.turn_lock.specs.Facts.{LockFacts}
use Rattle.crew.proofs.Closing.{all-made, one-made, others-are, others-owned}
use Rattle.crew.proofs.Passes.{pass-at, same-number}
use Rattle.crew.specs.Locks.{AreOf, HasEnded, IsDone, IsFirst, seen_of, setup_of}
use Rattle.crew.proofs.locks.close_all.Goals as goal

pub loop-locks-preserved : goal.loop-locks-preserved
loop-locks-preserved g c =
    let i = c.loop-locks.invariant in
    let ls = c.loop-locks.locks.items in
    let ps = c.loop-locks.firsts.items in
    let lock = c.remove-lock.result in
    let first = c.remove-first.result in
    let state = c.close-state.result in
    let told = c.close-state.ensures.state in
    let setup = g.S.Journalled.setup in
    let history = g.S.Journalled.history in
    let ends = g.S.Crewed.ends in
    let is-done = IsDone setup history ends in
    let some : 0 < length ls = omega (arith, c.remove-lock.ensures.len) in
    let number = same-number ls ps i.own in
    let some-first : 0 < length ps = omega (arith, some, number) in
    let of = pass-at ls 0 lock some c.remove-lock.ensures.value ps i.own first c.remove-first.ensures.value in
    let over : HasEnded ends first = subst (HasEnded ends) (sym c.remove-first.ensures.value) (All-get_or (HasEnded ends) ps 0 first some-first i.over) in
    let made : first.setup ≡ setup state = of.1 ∙ sym told.0 in
    let seen : first.seen ≡ (history state).events = sym told.1 in
    let done : is-done state = subst (λ (x : Setup × List Event). ends x.0 x.1) (λ j. (made j, seen j)) over in
    record {
      own =
          subst (λ (ms : List LockFacts). AreOf ms c.remove-first.new.self.items) (sym c.remove-lock.ensures.items)
          (subst (AreOf (remove ls 0)) (sym c.remove-first.ensures.items) (others-owned ls ps i.own));
      first = subst (All (IsFirst 0)) (sym c.remove-first.ensures.items) (others-are (IsFirst 0) ps i.first);
      over = subst (All (HasEnded ends)) (sym c.remove-first.ensures.items) (others-are (HasEnded ends) ps i.over);
      setups = rw (c.in_ok-push.ensures.items, c.remove-lock.ensures.items)
          (one-made setup_of setup c.loop-locks.ended.items state lock ls c.args.locks.items i.setups some c.remove-lock.ensures.value told.0);
      seen = rw (c.in_ok-push.ensures.items, c.remove-first.ensures.items)
          (one-made seen_of (λ s. (history s).events) c.loop-locks.ended.items state first ps c.args.firsts.items i.seen some-first c.remove-first.ensures.value told.1);
      done = subst (All is-done) (sym c.in_ok-push.ensures.items) (All-push is-done c.loop-locks.ended.items state i.done done);
    }

pub returns-clause-setups : goal.returns-clause-setups
returns-clause-setups g c =
    let none : length c.loop-locks.locks.items ≡ 0 = search rules in
    all-made setup_of g.S.Journalled.setup c.loop-locks.ended.items c.loop-locks.locks.items c.args.locks.items c.loop-locks.invariant.setups none

pub returns-clause-seen : goal.returns-clause-seen
returns-clause-seen g c =
    let none : length c.loop-locks.locks.items ≡ 0 = search rules in
    let number = same-number c.loop-locks.locks.items c.loop-locks.firsts.items c.loop-locks.invariant.own in
    all-made seen_of (λ s. (g.S.Journalled.history s).events) c.loop-locks.ended.items c.loop-locks.firsts.items c.args.firsts.items c.loop-locks.invariant.seen (number ∙ none)
