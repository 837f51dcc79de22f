-- The expected row is the place's where it has the place: by `found_row`.
use Rattle.std.proofs.Common.{sym}
use Rattle.audit_log.proofs.PlaceRows.{found_row}
use Rattle.audit_log.proofs.places.row_near.Goals as goal

pub returns-then-places-expected : goal.returns-then-places-expected
returns-then-places-expected c = λ rise. sym (found_row c.args.places.now c.args.place c.args.expected rise c.if-expected-places.true c.if-places-expected.true)
