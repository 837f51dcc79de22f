use Rattle.std.proofs.Common.{◌≡◌, ◌<◌, ◌∙◌, length, sym, arith}
use Rattle.hist_model.proofs.Look.{name_eq-true}
use Rattle.explorer.proofs.CountsPlaced.{key_there}
use Rattle.explorer.proofs.level.Level.place_of.Goals as goal

pub returns-then-eq : goal.returns-then-eq
returns-then-eq c =
    let keys = c.args.self.now.keys.items in
    let within : c.in_ok-place.field-0.now < length keys = omega arith in
    let same : c.index.result.now.items ≡ c.args.key.now = sym c.as_slice.ensures.value ∙ name_eq-true c.as_slice.result.now c.args.key.now (sym c.eq.ensures ∙ c.if-eq.true) in
    (omega (arith, within, c.requires), key_there (λ key. key.items) keys c.in_ok-place.field-0.now c.index.result.now c.args.key.now within c.index.ensures same)
