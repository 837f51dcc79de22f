use Rattle.std.proofs.Common.{rules, ◌≡◌, Err}
use Rattle.audit_log.specs.declared.error.ReportError.TheVariants.{WriteFault}
use Rattle.program_files.proofs.Printing.{unflushed}
use Rattle.play_words.proofs.printing.print_history.Goals as goal

pub returns-in_err-flush-clause-wrote : goal.returns-in_err-flush-clause-wrote
returns-in_err-flush-clause-wrote g c =
    let stopped : c.from_residual-in_err-flush.result ≡ Err WriteFault = search rules in
    unflushed _ _ _ _ _ c.in_err-flush.field-0.0 WriteFault _ stopped c.in_ok-write_printout.ensures c.in_err-flush.ensures
