use Rattle.std.proofs.Common.{◌≡◌, true, sym, ◌∙◌, rules, to_z, of_z, w32}
use Rattle.std.specs.Prelude.{◌==◌}
use Rattle.sys_abi.specs.Errnos.{ebadf}
use Rattle.judge_pass.proofs.judge.Judge.is_refused.Goals as goal

pub returns-then-eq : goal.returns-then-eq
returns-then-eq c P K s =
    let same : to_z w32 (of_z w32 c.args.dirfd) ≡ c.args.dirfd = search rules in
    let e : (c.args.errno == ebadf) ≡ true = sym c.eq.ensures ∙ c.if-eq.true in
    let no = rw same at (c.has_no_base.ensures P K s) in
    rw e no
