use Rattle.std.proofs.Common.{arith}
use Rattle.explorer.proofs.Tellings.{few_counted, one_told}
use Rattle.explorer.proofs.tally.Tally.note.Goals as goal

pub add_history-requires : goal.add_history-requires
add_history-requires c = let (S, L, t) = c.requires.told in omega (arith, few_counted c.args.policy.now S L c.args.self.now t, c.requires.room)

pub returns-clause-tells : goal.returns-clause-tells
returns-clause-tells c = λ S L seen t. one_told c.args.policy.now S c.args.self.now _ L c.args.history.now.events (omega arith) t (omega arith) (omega arith) (omega (arith, c.max-self.ensures)) (c.in_ok-add_history.ensures S seen)
