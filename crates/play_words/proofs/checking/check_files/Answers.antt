use Rattle.std.proofs.Common.{List, ℕ, subst, sym}
use Rattle.play_words.proofs.Checks.{read_ends}
use Rattle.program_files.specs.Printed.{status_of}
use Rattle.program_files.specs.Inputs.{ReportIs}
use Rattle.play_words.proofs.checking.check_files.Goals as goal

pub returns : goal.returns
returns g c =
    let read = subst (λ (bytes : List ℕ). ReportIs (g.F.Files.state c.read_inputs.new.files) c.args.report.now bytes) (sym c.as_slice.ensures.value) c.in_ok-report.ensures.read in
    read_ends (g.F.Files.state c.args.files.now) (g.F.Files.state c.read_inputs.new.files) (g.F.Files.state c.read_report.new.files) (g.O.Sink.state c.args.out.now)
    (g.O.Sink.state c.check_bytes.new.out) c.args.policy.now c.args.script.now c.args.report.now c.in_ok-policy.policy c.in_ok-policy.script c.as_slice.result.now (status_of c.check_bytes.result)
    c.in_ok-policy.ensures.same c.in_ok-policy.ensures.policy c.in_ok-policy.ensures.script read c.check_bytes.ensures
