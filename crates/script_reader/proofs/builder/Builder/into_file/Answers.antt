-- What the lines make is the script of the definitions, and that one keeps the rules.
use Rattle.std.proofs.Common.{rules}
use Rattle.script_reader.specs.Views.{above_in}
use Rattle.script_reader.proofs.KeptLines.{script_made}
use Rattle.script_reader.proofs.builder.Builder.into_file.Goals as goal

pub invariant_of-script : goal.invariant_of-script
invariant_of-script c = script_made (above_in c.args.self) _ (search rules) c.requires.kept c.requires.some
