-- What the line states by itself is put beside the lines above.
use Rattle.std.proofs.Common.{◌≡◌, ◌∙◌, Ok, ap, subst, sym}
use Rattle.std.specs.Prelude.{is_some}
use Rattle.script_reader.specs.Lines.{beside, tokens_statement}
use Rattle.script_reader.specs.Outcomes.{Becomes, with_reading}
use Rattle.script_reader.specs.Views.{above_in}
use Rattle.script_reader.proofs.JoinedTurns.{turn_joins, turn_kept}
use Rattle.script_reader.proofs.builder.Builder.read.Goals as goal

pub returns-clause-becomes : goal.returns-clause-becomes
returns-clause-becomes c =
    let A = above_in c.args.self.now in
    let stated : tokens_statement c.args.self.now.section (is_some c.args.self.now.settings.pidbase) c.args.line.now.tokens ≡ Ok c.in_ok-statement.statement =
    subst (λ b. tokens_statement c.args.self.now.section b c.args.line.now.tokens ≡ Ok c.in_ok-statement.statement) c.is_some-base_is_stated.ensures c.in_ok-statement.ensures.reading
    in
    subst (λ r. Becomes (with_reading c.args.line.now.number (beside A r) A) c.join.result (above_in c.join.new.self)) (sym stated) c.join.ensures.becomes

pub returns-clause-kept : goal.returns-clause-kept
returns-clause-kept c = c.join.ensures.kept

pub returns-in-Some : goal.returns-in-Some
returns-in-Some c =
    let A = above_in c.args.self.now in
    let B = above_in c.turn.new.self in
    let turn = c.in-Some.turn in
    let base_is_stated = is_some c.args.self.now.settings.pidbase in
    let stated_is = ap (tokens_statement c.args.self.now.section base_is_stated) (sym c.items.ensures) ∙ c.in-Some.ensures.stated base_is_stated in
    record {
      becomes = subst (λ r. Becomes (with_reading c.args.line.now.number (beside A r) A) c.turn.result B) (sym stated_is) (turn_joins c.args.line.now.number turn A B c.turn.result c.turn.ensures);
      kept = turn_kept turn A B c.turn.result c.turn.ensures c.in-Some.ensures.sound;
    }
