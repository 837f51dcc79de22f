-- What is told of the policy was printed, or a part of it.
use Rattle.std.proofs.Common.{List, ℕ, subst, sym}
use Rattle.policy_words.proofs.Tellings.{bytes_told}
use Rattle.program_files.specs.Printed.{status_of}
use Rattle.program_files.specs.Inputs.{PolicyHas}
use Rattle.policy_words.proofs.telling.lint_file.Goals as goal

pub returns : goal.returns
returns g c =
    let files = g.F.Files.state c.args.files.now in
    let read = subst (λ (bytes : List ℕ). PolicyHas files c.args.policy.now bytes) (sym c.as_slice.ensures.value) c.in_ok-bytes.ensures.read in
    bytes_told files (g.F.Files.state c.read_policy_bytes.new.files) (g.O.Sink.state c.args.out.now) (g.O.Sink.state c.tell.new.out) c.args.policy.now c.as_slice.result.now c.in_ok-told.told
    (status_of c.tell.result) read c.in_ok-told.ensures c.tell.ensures
