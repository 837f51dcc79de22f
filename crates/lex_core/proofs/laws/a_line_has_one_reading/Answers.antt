-- By the derivations of lines.
use Rattle.lex_core.proofs.Derivations.{reads_tokens, reads_only}
use Rattle.lex_core.proofs.laws.a_line_has_one_reading.Goals as goal

pub returns-clause-given : goal.returns-clause-given
returns-clause-given c = reads_tokens

pub returns-clause-only : goal.returns-clause-only
returns-clause-only c = reads_only
