use Rattle.std.proofs.Common.{rules, ◌<◌, ap, sym, ◌∙◌, subst}
use Rattle.turn_lock.specs.Facts.{PassFacts}
use Rattle.turn_lock.proofs.Passes.{splits}
use Rattle.turn_lock.proofs.Told.{at_rest}
use Rattle.turn_lock.proofs.lock.TurnLock.split.Goals as goal

pub split_seat-other-requires : goal.split_seat-other-requires
split_seat-other-requires g c =
    let r = at_rest _ _ c.into_seat-seat.result.me.0 _ c.pass.view_is c.pass.invariant.0 (ap (λ b. b.views) (sym c.replace.ensures.value) ∙ c.into_seat-seat.ensures.2) in (
      search rules,
      search rules,
      splits g.S.Journalled.setup g.S.Journalled.history _ _ _ (ap (λ p. p.first) r.0 ∙ c.requires.first.0) (subst (λ (p : PassFacts). p.out < 65535) (sym r.0) c.requires.first.1) r.2 r.1,
    )
