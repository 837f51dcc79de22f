-- By `digits_placed`.
use Rattle.std.proofs.Common.{◌+◌, arith}
use Rattle.std.specs.Prelude.{decimal}
use Rattle.audit_log.proofs.Numbers.{digits_placed}
use Rattle.audit_log.proofs.digits.place_digits.Goals as goal

pub write_digits-requires : goal.write_digits-requires
write_digits-requires c = (omega (arith, c.digit_count.ensures.count), omega (arith, c.digit_count.ensures.few))

pub returns-clause-front : goal.returns-clause-front
returns-clause-front c =
    digits_placed c.args.room.now c.write_digits.new.buf (decimal c.args.n) c.args.at c.write_digits.result (c.args.at + c.digit_count.result)
    (omega (arith, c.digit_count.ensures.count)) c.write_digits.ensures.start c.write_digits.ensures.written c.write_digits.ensures.before
