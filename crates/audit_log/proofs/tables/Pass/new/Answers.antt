-- Before all events no session was begun.
use Rattle.std.proofs.Common.{[], refl}
use Rattle.audit_log.proofs.SessionRows.{none_stand}
use Rattle.audit_log.proofs.tables.Pass.new.Goals as goal

pub returns : goal.returns
returns c = λ rules. record { calls = c.new.ensures; sessions = none_stand rules [] c.new-2.result refl (c.new-2.ensures rules); counts = c.none.ensures }
