-- Where nothing is left, the tokens so far are those of the line.
use Rattle.std.proofs.Common.{◌≡◌, length, Ok, ap, sym, ◌∙◌, arith}
use Rattle.std.proofs.lemmas.Bool.Decides.{nat_tests}
use Rattle.lex_core.proofs.Readings.{tokens_end}
use Rattle.lex_core.proofs.tokens.read_tokens.Goals as goal

pub returns-clause-reading : goal.returns-clause-reading
returns-clause-reading c =
    let ended : length c.loop-rest.rest.now ≡ 0 = grind (arith, nat_tests) in
    tokens_end c.args.line.now c.loop-rest.rest.now c.loop-rest.found.items c.loop-rest.invariant.0 ended ∙ ap Ok (sym c.new.ensures)
