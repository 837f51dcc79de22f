use Rattle.std.proofs.Common.{◌≡◌, ◌∙◌, length, nat_lt, ℕ, sym, ap, arith}
use Rattle.explorer.proofs.Turns.{order_end, order_over}
use Rattle.explorer.proofs.order.come_before.Goals as goal

pub returns-then-index-others : goal.returns-then-index-others
returns-then-index-others c =
    sym (c.turns.invariant.same ∙ order_over c.args.turns.now c.args.others.now c.turns.index (record { place = 0; next = 0; left = 0 }) c.turns-test.true (omega (arith, c.if-index-others.true)))

pub returns : goal.returns
returns c =
    let all : c.turns.index ≡ length c.args.turns.now = omega arith in
    ap (λ (n : ℕ). nat_lt n (length c.args.others.now)) (sym all) ∙ sym (c.turns.invariant.same ∙ order_end c.args.turns.now c.args.others.now c.turns.index (omega arith))
