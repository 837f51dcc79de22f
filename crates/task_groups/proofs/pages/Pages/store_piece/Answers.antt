use Rattle.task_groups.proofs.Shares.{stored-piece}
use Rattle.task_groups.proofs.pages.Pages.store_piece.Goals as goal

pub returns-clause-stored : goal.returns-clause-stored
returns-clause-stored c r l =
    let o = c.own-slot.ensures.owned r l in
    stored-piece c.args.self.now c.own-slot.new.self c.put.new.self c.args.list.now.items c.own-slot.new.list.items c.args.number c.own-slot.result c.args.offset c.args.piece.now l
    (c.put.ensures.store o.store) c.requires.within o c.put.ensures.put

pub returns-clause-pages : goal.returns-clause-pages
returns-clause-pages c k h = c.put.ensures.room k (c.own-slot.ensures.pages k h)
