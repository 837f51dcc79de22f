-- A piece that stands at the front is the same.
use Rattle.std.proofs.Common.{sym, ◌∙◌}
use Rattle.audit_check.proofs.Compared.{same_front}
use Rattle.audit_check.proofs.compare.common.Goals as goal

pub returns-then-starts_with-clause-same : goal.returns-then-starts_with-clause-same
returns-then-starts_with-clause-same c = same_front c.args.text.now c.args.piece.now (sym c.starts_with.ensures.value ∙ c.if-starts_with.true)
