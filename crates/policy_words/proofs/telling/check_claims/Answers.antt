-- What is told of the claims was printed, or a part of it; without memory nothing is.
use Rattle.policy_words.proofs.Tellings.{claims_told}
use Rattle.program_files.specs.Printed.{status_of}
use Rattle.policy_words.proofs.telling.check_claims.Goals as goal

pub returns : goal.returns
returns g c =
    claims_told (g.F.Files.state c.args.files.now) (g.F.Files.state c.read_policy.new.files) (g.F.Files.state c.read_claims.new.files) (g.O.Sink.state c.args.out.now)
    (g.O.Sink.state c.tell.new.out) c.args.policy.now c.args.claims.now c.in_ok-policy.policy c.in_ok-claims.claims c.in_ok-told.told (status_of c.tell.result)
    c.in_ok-policy.ensures.same c.in_ok-policy.ensures.read c.in_ok-claims.ensures.read c.in_ok-told.ensures c.tell.ensures
