-- A statement that is sound and has no fault beside the lines above keeps the rules.
use Rattle.script_reader.specs.Views.{above_in}
use Rattle.script_reader.proofs.KeptLines.{line_kept}
use Rattle.script_reader.proofs.builder.Builder.join.Goals as goal

pub returns-clause-kept : goal.returns-clause-kept
returns-clause-kept c =
    λ kept. line_kept c.opened_by-self.result c.args.statement (above_in c.args.self.now) (above_in c.admit.new.self) c.in_ok-admit.ensures.0 c.in_ok-admit.ensures.1 c.requires kept
