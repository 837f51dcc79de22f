use Rattle.std.proofs.Common.{refl, arith}
use Rattle.explorer.proofs.ByDelays.{here_few, here_told, one_noted}
use Rattle.explorer.proofs.by_delays.ByDelays.note.Goals as goal

pub note-requires-clause-told : goal.note-requires-clause-told
note-requires-clause-told c = here_told c.args.self.now c.ready.new.self c.args.left c.requires.within c.in_ok-ready.ensures c.index_mut.result.now c.index_mut.ensures.value c.args.policy.now c.requires.told

pub note-requires-clause-room : goal.note-requires-clause-room
note-requires-clause-room c =
    omega (arith, here_few c.args.self.now c.ready.new.self c.args.left c.requires.within c.in_ok-ready.ensures c.index_mut.result.now c.index_mut.ensures.value c.args.policy.now c.requires.told)

pub returns-clause-tells : goal.returns-clause-tells
returns-clause-tells c = λ S ws w is e seen t.
    one_noted c.args.self.now c.ready.new.self c.args.left c.requires.within c.in_ok-ready.ensures c.index_mut.result.now c.index_mut.ensures.value c.args.policy.now S ws w is c.args.history.now.events e t
    c.note.new.self (λ L told. c.in_ok-note.ensures.tells S L seen told) c.in_ok-note.ensures.events _ refl refl (omega (arith, c.len.ensures))
