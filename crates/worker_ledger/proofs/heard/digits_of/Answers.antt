-- The bytes of a slice are bytes.
use Rattle.std.proofs.Common.{arith}
use Rattle.worker_ledger.proofs.heard.digits_of.Goals as goal

pub returns-clause-bytes : goal.returns-clause-bytes
returns-clause-bytes c = λ i. let f = c.type_inv.bytes i in omega arith
