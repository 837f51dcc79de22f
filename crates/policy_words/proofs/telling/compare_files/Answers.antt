-- What is told of the policies was printed, or a part of it.
use Rattle.std.proofs.Common.{subst}
use Rattle.std.specs.Option.{option_copied}
use Rattle.policy_compare.specs.Compared.{IsComparison}
use Rattle.policy_words.proofs.Tellings.{policies_told}
use Rattle.program_files.specs.Printed.{status_of}
use Rattle.policy_words.proofs.telling.compare_files.Goals as goal

pub returns : goal.returns
returns g c =
    let P = c.in_ok-old.old in
    let Q = c.in_ok-old.new in
    let told = c.in_ok-told.told in
    let compared = subst (λ filters. IsComparison P.rules Q.rules filters told) c.filters_of.ensures c.in_ok-told.ensures.told in
    policies_told (g.F.Files.state c.args.files.now) (g.F.Files.state c.read_policies.new.files) (g.F.Files.state c.read_named_script.new.files) (g.O.Sink.state c.args.out.now)
    (g.O.Sink.state c.tell.new.out) c.args.old.now c.args.new.now (option_copied c.args.script) P Q c.in_ok-script.script told (status_of c.tell.result)
    c.in_ok-old.ensures.same c.in_ok-old.ensures.old c.in_ok-old.ensures.new c.in_ok-script.ensures.read compared
    c.in_ok-told.ensures.equal c.in_ok-told.ensures.unequal c.tell.ensures
