use Rattle.std.proofs.Common.{rules, ap, sym, ◌∙◌, ◌++◌, length}
use Rattle.turn_lock.proofs.Steps.{publishes, releases}
use Rattle.turn_lock.proofs.Told.{holding, wrote, put_in}
use Rattle.turn_lock.proofs.lock.TurnLock.put_in.Goals as goal

pub store-requires : goal.store-requires
store-requires g c = let may = c.requires.turn in let h = holding g.S.Journalled.setup g.S.Journalled.history c.args.seat.now.me c.exchange-gone.new.seat.me c.args.state may c.exchange-gone.ensures.3 in (
  search rules,
  search rules,
  publishes g.S.Journalled.setup g.S.Journalled.history _ _ _ c.exchange-gone.new.seat.me may.0 c.args.state may.4.0 _ (ap (λ m. m.0.stage) h ∙ may.1) (ap (λ m. m.1) h)
      (may.4.1 ∙ ap (λ m. may.4.0 ++ m.0.seen) (sym h)) (c.len-count.ensures ∙ ap (λ h. length h.events) c.journal.ensures),
)

pub fetch_add-ended-requires : goal.fetch_add-ended-requires
fetch_add-ended-requires g c = let may = c.requires.turn in let h = holding g.S.Journalled.setup g.S.Journalled.history c.args.seat.now.me c.exchange-gone.new.seat.me c.args.state may c.exchange-gone.ensures.3 in
    let w = wrote g.S.Journalled.setup g.S.Journalled.history c.args.seat.now.me c.exchange-gone.new.seat.me c.store.new.seat.me c.args.state 0 h c.store.ensures.2 in (
      search rules,
      search rules,
      releases g.S.Journalled.setup g.S.Journalled.history _ _ _ c.store.new.seat.me may.0 c.args.state (ap (λ m. m.0.stage) w.2 ∙ may.1) (ap (λ m. m.1) w.2)
          (w.1 ∙ ap (λ m. m.0.seen) (sym w.2)) (may.3 ∙ ap (λ m. m.0.setup) (sym w.2)),
    )

pub returns-clause-put : goal.returns-clause-put
returns-clause-put g c = let may = c.requires.turn in let h = holding g.S.Journalled.setup g.S.Journalled.history c.args.seat.now.me c.exchange-gone.new.seat.me c.args.state may c.exchange-gone.ensures.3 in
    let w = wrote g.S.Journalled.setup g.S.Journalled.history c.args.seat.now.me c.exchange-gone.new.seat.me c.store.new.seat.me c.args.state 0 h c.store.ensures.2 in
    put_in g.S.Journalled.setup g.S.Journalled.history c.args.seat.now.me c.store.new.seat.me c.fetch_add-ended.new.seat.me c.args.state 0 w c.fetch_add-ended.ensures.2
