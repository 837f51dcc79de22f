use Rattle.std.proofs.Common.{◌++◌, ◌∷◌, [], arith}
use Rattle.explorer.proofs.PassByPass.{full_notes, has_room, is_full, one_notes, spare_notes}
use Rattle.explorer.proofs.passes.note_spent.Goals as goal

pub returns-then-left-ne0-clause-notes : goal.returns-then-left-ne0-clause-notes
returns-then-left-ne0-clause-notes c = λ S w l h seen. spare_notes c.args.policy.now S w c.args.found.now (omega (arith, l))

pub returns-then-is_full-clause-notes : goal.returns-then-is_full-clause-notes
returns-then-is_full-clause-notes c = λ S w l h seen. full_notes c.args.policy.now S w c.args.found.now (omega (arith, l)) (is_full _ _ c.is_full.ensures c.if-is_full.true)

pub note-requires-clause-room : goal.note-requires-clause-room
note-requires-clause-room c = has_room _ _ c.is_full.ensures c.if-is_full.false

pub returns-clause-told : goal.returns-clause-told
returns-clause-told c = λ S L seen t. (L ++ c.args.history.now.events ∷ [], c.in_ok-note.ensures.tells S L seen t)

pub returns-clause-notes : goal.returns-clause-notes
returns-clause-notes c = λ S w l h seen. one_notes c.args.policy.now S w c.args.found.now c.note.new.self (omega (arith, l)) (has_room _ _ c.is_full.ensures c.if-is_full.false) c.args.history.now.events h (λ L t. c.in_ok-note.ensures.tells S L seen t) c.in_ok-note.ensures.events
