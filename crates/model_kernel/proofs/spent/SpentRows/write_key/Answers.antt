use Rattle.std.proofs.Common.{◌≡◌, ◌++◌, append_assoc, ap, ◌∙◌, arith}
use Rattle.std.proofs.lemmas.Grind.{common_steps}
use Rattle.std.proofs.lemmas.Result.{on_ok_weaker}
use Rattle.key_bytes.specs.Parts.{number_part}
use Rattle.model_kernel.specs.Keys.{times_part}
use Rattle.model_kernel.specs.Spent.{times_in}
use Rattle.model_kernel.proofs.KeyParts.{none_written, one_more_written, written_on}
use Rattle.model_kernel.proofs.spent.SpentRows.write_key.Goals as goal

pub loop-rule-init : goal.loop-rule-init
loop-rule-init c = rw (none_written c.args.self.now) (grind (arith, common_steps))

pub loop-rule-preserved : goal.loop-rule-preserved
loop-rule-preserved c =
    let T = c.args.self.now in
    let rule = c.loop-rule.rule in
    rw (one_more_written T rule)
    (written_on (c.args.key.now.items ++ number_part T.last) (times_part T rule) c.loop-rule.key.items (number_part (times_in T rule)) c.push_number-in-loop-rule.new.key.items
    c.loop-rule.invariant (c.in_ok-push_number-2.ensures ∙ ap (λ n. c.loop-rule.key.items ++ number_part n) (c.from-in-loop-rule.ensures ∙ c.times.ensures)))

pub returns : goal.returns
returns c =
    let T = c.args.self.now in
    let front = c.args.key.now.items ++ number_part T.last in
    let same : c.loop-rule.rule ≡ T.last = omega arith in
    on_ok_weaker c.push_number-2.result (λ e.
    rw (one_more_written T T.last)
    (written_on front (times_part T T.last) c.loop-rule.key.items (number_part (times_in T T.last)) c.push_number-2.new.key.items
    (c.loop-rule.invariant ∙ ap (λ n. front ++ times_part T n) same) (cc)
    ∙ append_assoc c.args.key.now.items (number_part T.last) (times_part T T.last ++ number_part (times_in T T.last))))
    c.push_number-2.ensures
