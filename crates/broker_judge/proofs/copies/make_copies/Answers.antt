-- No piece of a call's arguments is empty.
use Rattle.std.proofs.Common.{ℤ, to_z, of_z, w32}
use Rattle.broker_judge.proofs.Planned.{has_pieces}
use Rattle.broker_judge.proofs.copies.make_copies.Goals as goal

-- the number, as the code passes it
abbrev passed : ℤ → ℤ
passed nr = to_z w32 (of_z w32 nr)

pub planned_copy-requires-clause-pieces : goal.planned_copy-requires-clause-pieces
planned_copy-requires-clause-pieces c = has_pieces c.of-2.result (passed c.args.nr) c.args.args.now c.of-2.ensures.parts
