use Rattle.std.proofs.Common.{◌≡◌, ◌++◌, take}
use Rattle.hist_model.specs.ReportJournal.{args_text}
use Rattle.audit_log.proofs.event.push_args.Given as goal

abbrev pub invariant-loop-arg : goal.invariant-loop-arg
invariant-loop-arg l = l.line ≡ l.fn.line ++ args_text (take l.arg-index l.args)
