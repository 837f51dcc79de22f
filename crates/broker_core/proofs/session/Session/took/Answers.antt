use Rattle.broker_core.specs.Answers.{told}
use Rattle.broker_core.proofs.Taken.{known_after}
use Rattle.broker_core.proofs.session.Session.took.Goals as goal

pub returns : goal.returns
returns c = λ rules own q b k. known_after rules own c.args.capture.now c.advance.new.capture c.args.self.now c.advance.new.self c.note.new.self k q b c.args.deed.now (told c.args.got.now) c.requires c.advance.ensures (c.note.ensures q b)
