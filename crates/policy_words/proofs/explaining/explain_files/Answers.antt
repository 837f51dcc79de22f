use Rattle.std.proofs.Common.{List, ℕ, subst, sym}
use Rattle.policy_words.proofs.ExplainEnds.{read_ends}
use Rattle.program_files.specs.Printed.{status_of}
use Rattle.program_files.specs.Inputs.{CallsAre}
use Rattle.policy_words.proofs.explaining.explain_files.Goals as goal

pub returns : goal.returns
returns g c =
    let read = subst (λ (bytes : List ℕ). CallsAre (g.F.Files.state c.read_policy.new.files) c.args.calls.now bytes) (sym c.as_slice.ensures.value) c.in_ok-calls.ensures.read in
    read_ends (g.F.Files.state c.args.files.now) (g.F.Files.state c.read_policy.new.files) (g.F.Files.state c.read_calls.new.files) (g.O.Sink.state c.args.out.now)
    (g.O.Sink.state c.explain_bytes.new.out) c.args.policy.now c.args.calls.now c.in_ok-policy.policy c.as_slice.result.now (status_of c.explain_bytes.result)
    c.in_ok-policy.ensures.same c.in_ok-policy.ensures.read read c.explain_bytes.ensures
