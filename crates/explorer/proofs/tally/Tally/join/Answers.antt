use Rattle.std.proofs.Common.{arith}
use Rattle.explorer.proofs.Tellings.{both_told, few_counted}
use Rattle.explorer.proofs.tally.Tally.join.Goals as goal

pub add_all-requires : goal.add_all-requires
add_all-requires c =
    let (P, S, L, M, t, u) = c.requires.told in
    omega (arith, few_counted P S L c.args.self.now t, few_counted P S M c.args.other u, c.requires.few)

pub returns-clause-tells : goal.returns-clause-tells
returns-clause-tells c = λ P S L M t u. both_told P S c.args.self.now _ L M c.args.other t u (omega arith) (omega arith) (omega (arith, c.max-self.ensures)) c.in_ok-add_all.ensures
