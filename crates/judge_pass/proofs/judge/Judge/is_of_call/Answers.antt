-- The descriptor of the call is looked up in the group of its task.
use Rattle.std.proofs.Common.{◌≡◌, sym, ◌∙◌, rules, to_z, of_z, w32}
use Rattle.judge_pass.proofs.HandTests.{of-call-some}
use Rattle.judge_pass.proofs.judge.Judge.is_of_call.Goals as goal

pub returns-in-Some : goal.returns-in-Some
returns-in-Some c P K n s is =
    let same : to_z w32 (of_z w32 c.in-Some.dirfd) ≡ c.in-Some.dirfd = search rules in
    let same-nr : to_z w32 (of_z w32 c.args.call.now.called.nr) ≡ c.args.call.now.called.nr = search rules in
    c.is_node.ensures
    ∙ of-call-some P c.args.script.now K c.args.self.now n c.caller_group.result c.in-Some.dirfd c.args.call.now c.named-named.result _ s is
    c.caller_group.ensures (rw same at c.named-named.ensures) (rw same-nr at (sym c.in-Some.ensures))
