-- What is read of the tokens is what they state: by `scheduled_told`.
use Rattle.std.proofs.Common.{◌≡◌, ◌∷◌, sym, ap, ◌∙◌}
use Rattle.lex_core.specs.declared.line.Token.TheVariants.{Bare}
use Rattle.script_reader.proofs.PlainLines.{scheduled_told}
use Rattle.script_reader.proofs.plain.scheduled.Goals as goal

pub returns : goal.returns
returns c =
    let first = c.in-Some-Bare-default in
    let second = c.in-Some-Bare-default-split_first in
    let word = c.items.result.now in
    let who = c.items-2.result.now in
    let behind : first.operands.now ≡ Bare who ∷ second.more.now = second.ensures.cases.0 ∙ ap (λ token. token ∷ second.more.now) (second.field-0-0-is ∙ ap Bare (sym c.items-2.ensures)) in
    let line : c.args.tokens.now ≡ Bare word ∷ Bare who ∷ second.more.now =
    first.ensures.cases.0 ∙ ap (λ token. token ∷ first.operands.now) (first.field-0-0-is ∙ ap Bare (sym c.items.ensures)) ∙ ap (λ tokens. Bare word ∷ tokens) behind in
    let told = scheduled_told word who second.more.now c.args.tokens.now c.in_ok-count.count c.turn_of.result line c.in_ok-count.ensures c.turn_of.ensures.names c.turn_of.ensures.count in
    record { stated = told.0; sound = told.1 }
