use Rattle.std.proofs.Common.{sym, subst}
use Rattle.listener.specs.Fold.{Looks}
use Rattle.listener.proofs.listener.Listener.ready.Goals as goal

pub returns-clause-stands : goal.returns-clause-stands
returns-clause-stands c first K S = record {
  looks = λ names n. subst (Looks first K) (sym (c.ready.ensures.same names c.args.self.now.requests)) (S.looks names n);
  sound = S.sound;
  asked = S.asked;
}
