-- A read tells its answer.
use Rattle.audit_log.proofs.SessionReads.{follows_read}
use Rattle.hist_model.specs.Copies.{heard}
use Rattle.std.proofs.Common.{[]}
use Rattle.audit_log.proofs.session_judgement.hear.Goals as goal

pub returns-in-Read : goal.returns-in-Read
returns-in-Read c = λ parts answers f.
    follows_read parts answers c.args.what.now c.in-Read.addr c.in-Read.len c.in-Read.answer c.take.new.capture c.take.result c.in-Read.is (c.take.ensures parts (heard parts [] answers) f)
