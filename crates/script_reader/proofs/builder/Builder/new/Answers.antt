-- Before the first line the rules are kept.
-- By the lemma on what is stated by nothing.
use Rattle.std.proofs.Common.{rules, arith}
use Rattle.std.proofs.lemmas.Grind.{common_steps}
use Rattle.script_reader.proofs.KeptLines.{first_kept}
use Rattle.script_reader.proofs.builder.Builder.new.Goals as goal

pub returns-clause-kept : goal.returns-clause-kept
returns-clause-kept c = first_kept _ first_of (search rules, grind (arith, common_steps))
