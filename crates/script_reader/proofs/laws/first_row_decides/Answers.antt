use Rattle.script_reader.proofs.FirstRow.{first_row_decides}
use Rattle.script_reader.proofs.laws.first_row_decides.Goals as goal

pub returns : goal.returns
returns c A line = first_row_decides A line
