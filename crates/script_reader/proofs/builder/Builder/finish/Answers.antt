-- The turns of lines that keep the rules keep theirs.
use Rattle.script_reader.specs.Views.{above_in}
use Rattle.script_reader.proofs.KeptLines.{turns_kept}
use Rattle.script_reader.proofs.builder.Builder.finish.Goals as goal

pub returns-clause-turns : goal.returns-clause-turns
returns-clause-turns c = turns_kept (above_in c.args.self) c.in_ok-into_file.field-0 c.in_ok-into_file.ensures c.requires
