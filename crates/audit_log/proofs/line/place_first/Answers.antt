-- By `first_placed`.
use Rattle.std.proofs.Common.{arith}
use Rattle.audit_log.proofs.Room.{first_placed}
use Rattle.audit_log.proofs.line.place_first.Goals as goal

pub returns-clause-front : goal.returns-clause-front
returns-clause-front c =
    first_placed c.args.room.now c.place.new.room c.args.bytes.now c.args.at c.place.result c.args.count c.place.ensures.front c.place.ensures.moved (omega arith) c.requires.few
