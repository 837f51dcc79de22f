use Rattle.key_bytes.proofs.Ending.{answer_ends, flag_ends, signed_ends, text_ends}
use Rattle.key_bytes.proofs.Numbers.{number_ends}
use Rattle.key_bytes.proofs.laws.parts_end_by_themselves.Goals as goal

pub returns-clause-number : goal.returns-clause-number
returns-clause-number c = number_ends

pub returns-clause-flag : goal.returns-clause-flag
returns-clause-flag c = flag_ends

pub returns-clause-signed : goal.returns-clause-signed
returns-clause-signed c = signed_ends

pub returns-clause-text : goal.returns-clause-text
returns-clause-text c = text_ends

pub returns-clause-answer : goal.returns-clause-answer
returns-clause-answer c = answer_ends
