-- What a search among places that rise answers: by `search_found` and `search_none`.
use Rattle.audit_log.proofs.PlaceRows.{search_found, search_none}
use Rattle.audit_log.proofs.places.row_of.Goals as goal

pub returns-in-Ok : goal.returns-in-Ok
returns-in-Ok c = search_found c.args.places.now c.args.place c.in-Ok.row c.binary_search.result c.binary_search.ensures.position c.in-Ok.is

pub returns-in-Err : goal.returns-in-Err
returns-in-Err c = search_none c.args.places.now c.args.place c.in-Err.field-0 c.binary_search.result c.binary_search.ensures.position c.in-Err.is
