-- The word at the slot of a text is the one that is written so.
use Rattle.std.proofs.Common.{ap, slice_index, ◌∙◌}
use Rattle.script_reader.specs.declared.word.TheConstants.{PLACES}
use Rattle.script_reader.specs.Words.{word_at, words}
use Rattle.script_reader.proofs.WordSlots.{word_at_slot}
use Rattle.script_reader.proofs.word.word_of.Goals as goal

pub returns : goal.returns
returns c =
    let bytes = c.args.bytes.now in
    c.word_at.ensures ∙ (ap (λ slot. word_at words (slice_index PLACES slot) bytes) c.slot_of.ensures ∙ word_at_slot bytes)
