-- One more byte is stored: by `stored_more`.
use Rattle.std.proofs.Common.{refl}
use Rattle.audit_log.proofs.Hexed.{all_stored, stored_more}
use Rattle.audit_log.proofs.line.hex_piece.Goals as goal

pub loop-place-init : goal.loop-place-init
loop-place-init c = record { room = refl; so_far = refl }

pub loop-place-preserved : goal.loop-place-preserved
loop-place-preserved c = stored_more c.args.bytes.now c.loop-place.digits c.hex_byte.result c.loop-place.place c.requires c.loop-place-test.true c.loop-place.invariant c.hex_byte.ensures

pub returns : goal.returns
returns c = all_stored c.args.bytes.now c.loop-place.digits c.loop-place.place c.requires c.loop-place-test.false c.loop-place.auto.place-end c.loop-place.invariant
