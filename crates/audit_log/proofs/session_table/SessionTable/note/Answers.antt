-- An event of no worker changes nothing.
use Rattle.std.proofs.Common.{sym, subst}
use Rattle.audit_log.proofs.SessionEvents.{after_other}
use Rattle.audit_log.specs.SessionTable.{StandsFor}
use Rattle.audit_log.proofs.session_table.SessionTable.note.Goals as goal

pub returns-in_default : goal.returns-in_default
returns-in_default c = λ S k. subst (λ xs. StandsFor c.args.policy.now.rules xs c.args.self.now) (sym (after_other c.args.place c.args.event.now S c.in_default.not-Worker)) k
