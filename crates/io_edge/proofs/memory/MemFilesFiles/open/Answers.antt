use Rattle.std.proofs.Common.{rules, arith}
use Rattle.std.specs.Prelude.{IsSome}
use Rattle.std.proofs.lemmas.Grind.{common_steps}
use Rattle.io_edge.proofs.Entries.{found_has_name, found_whole}
use Rattle.io_edge.proofs.memory.MemFilesFiles.open.Goals as goal

pub returns-clause-opens : goal.returns-clause-opens
returns-clause-opens c =
    let found : IsSome c.find-found.result = search rules in
    let whole = found_whole c.args.self.now.files.items c.args.name.now c.find-found.result (search rules) found in
    record {
      same = grind (arith, common_steps);
      cause = search rules;
      exact = λ sound. (λ bad. cc, λ absent. cc (whole, absent));
      closed = search rules;
      opened = grind (arith, common_steps);
      named = λ told. found_has_name _ _ _ (search rules) found;
      whole = λ told. whole;
      given = search rules;
    }
