-- By the whole copies, where the policy doesn't put a descriptor in whatever the texts are.
use Rattle.judge_pass.proofs.Rested.{by_copies, in_full, injected}
use Rattle.judge_pass.proofs.rests.rests_on_copies.Goals as goal

pub returns-then-injects_by_registers : goal.returns-then-injects_by_registers
returns-then-injects_by_registers c = λ K w at asked answer is same.
    in_full c.args.policy.now K w at asked answer (injected c.args.policy.now K at c.args.called.now _ _ is c.request_without.ensures c.if-injects_by_registers.ensures)

pub returns : goal.returns
returns c = λ K w at asked answer is same.
    by_copies c.args.policy.now K w at asked answer _ (injected c.args.policy.now K at c.args.called.now _ _ is c.request_without.ensures c.if-injects_by_registers.ensures)
    (c.in_ok-has_copy.ensures K w at is same) (c.in_ok-has_copy-2.ensures K w at is same) (c.in_ok-has_copy-3.ensures K w at is same) (c.in_ok-has_copy-4.ensures K w at is same)
