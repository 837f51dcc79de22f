-- The sink takes what comes next in its text, and fails at another byte.
-- By what is added to what was written (`Compared`).
use Rattle.std.proofs.Common.{◌+◌, ◌<◌, ◌≤◌, length, get_or, sym, ap, ◌∙◌, arith}
use Rattle.std.proofs.lemmas.Option.{slice_get-get_or}
use Rattle.std.proofs.lemmas.List.{length-drop}
use Rattle.audit_check.proofs.Compared.{differs_behind, takes_part, takes_whole}
use Rattle.audit_check.proofs.Cut.{rest_whole}
use Rattle.audit_check.proofs.compare.CompareSink.write.Goals as goal

pub returns-then-count-piece : goal.returns-then-count-piece
returns-then-count-piece c =
    takes_whole c.args.self.now.text.now c.args.piece.now c.args.self.now.same c.common-count.result
    (rw rest_whole at c.common-count.ensures.same)
    c.args.self.now.other (sym c.is_some.ensures ∙ c.if-is_some.false) c.if-count-piece.true

pub invariant_of-self-2 : goal.invariant_of-self-2
invariant_of-self-2 c =
    let few : c.common-count.result < length c.args.piece.now = grind (arith, c.common-count.ensures.within, c.if-count-piece.false) in
    let text = c.args.self.now.text.now in
    let within : c.args.self.now.same + c.common-count.result ≤ length text =
    omega (arith, c.args.self.now.within, c.common-count.ensures.inside, ap length (rest_whole c.args.self.now.same text), length-drop c.args.self.now.same text) in
    record {
      within = within;
      differs = differs_behind text c.args.piece.now c.args.self.now.same c.common-count.result few (c.common-count.ensures.differ few);
    }

pub returns : goal.returns
returns c =
    let few : c.common-count.result < length c.args.piece.now = grind (arith, c.common-count.ensures.within, c.if-count-piece.false) in
    takes_part c.args.self.now.text.now c.args.piece.now c.args.self.now.same c.common-count.result
    (rw rest_whole at c.common-count.ensures.same)
    (record {}) c.args.self.now.other (get_or c.args.piece.now c.common-count.result 0) (sym c.is_some.ensures ∙ c.if-is_some.false) few
    (slice_get-get_or c.args.piece.now c.common-count.result 0 few)
