-- What the word's line states keeps the limits that its operands showed.
use Rattle.std.proofs.Common.{◌≡◌, ◌∙◌, None, ap, subst, sym, arith}
use Rattle.std.specs.Prelude.{true}
use Rattle.script_reader.specs.Lines.{is_in_place}
use Rattle.script_reader.specs.Operands.{operands_fault}
use Rattle.script_reader.specs.Rules.{IsSound}
use Rattle.script_reader.specs.Statements.{statement}
use Rattle.script_reader.proofs.SoundStatements.{sound_statement}
use Rattle.script_reader.proofs.reading.word_statement.Goals as goal

pub returns-clause-sound : goal.returns-clause-sound
returns-clause-sound c =
    let place : is_in_place c.args.section c.args.base_is_stated c.args.word ≡ true = grind arith in
    let fine : operands_fault c.args.word c.args.operands.now ≡ None = grind arith in
    subst (λ s. IsSound c.args.section c.args.base_is_stated s) (sym (c.in_ok-statement_of.ensures ∙ ap (statement c.args.word) c.new-operands.ensures)) (sound_statement c.args.section c.args.base_is_stated c.args.word c.args.operands.now place fine)
