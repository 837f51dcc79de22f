use Rattle.std.proofs.Common.{rules, ap, sym, ◌∙◌}
use Rattle.turn_lock.proofs.Steps.{checks}
use Rattle.turn_lock.proofs.Passes.{joins}
use Rattle.turn_lock.proofs.Told.{at_rest}
use Rattle.turn_lock.proofs.lock.TurnLock.join.Goals as goal

pub join_seat-requires : goal.join_seat-requires
join_seat-requires g c =
    let r = at_rest _ _ c.into_seat-seat.result.me.0 _ c.pass.view_is c.pass.invariant.0 (ap (λ b. b.views) (sym c.replace.ensures.value) ∙ c.into_seat-seat.ensures.2) in
    let q = at_rest _ _ c.into_seat.result.me.0 _ c.other.view_is c.other.invariant.0 c.into_seat.ensures.2 in (
      search rules,
      search rules,
      search rules,
      search rules,
      joins g.S.Journalled.setup g.S.Journalled.history _ _ _ _ _ (ap (λ p. p.first) r.0 ∙ c.requires.first.0) r.2 r.1 q.2 q.1,
    )

pub load-requires : goal.load-requires
load-requires g c = (search rules, search rules, checks g.S.Journalled.setup g.S.Journalled.history _ _ _ _)
