-- The fault of a bare token is that of the line.
use Rattle.std.proofs.Common.{rules, ◌≡◌, ◌∷◌}
use Rattle.lex_core.proofs.Readings.{word_refused}
use Rattle.lex_core.proofs.tokens.read_token.Goals as goal

pub returns-in-Err-clause-refused : goal.returns-in-Err-clause-refused
returns-in-Err-clause-refused c =
    let e : c.args.text.now ≡ c.in-Some.field-0-0.now ∷ c.in-Some.inner.now = search rules in
    word_refused c.args.text.now c.in-Some.inner.now c.in-Some.field-0-0.now c.in-Err.reason e c.requires c.if-first-eq34.false c.in-Err.ensures.refused
